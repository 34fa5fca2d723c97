use Rattle.bits.specs.Bit.{without_bit}
use Rattle.bits.proofs.Bit.{shift_one}
use Rattle.bits.proofs.without_bit.Goals as goal

pub returns : goal.returns
unfolding without_bit
returns c = rw (shift_one c.args.n c.requires)
