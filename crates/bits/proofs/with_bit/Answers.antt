use Rattle.bits.specs.Bit.{with_bit}
use Rattle.bits.proofs.Bit.{shift_one}
use Rattle.bits.proofs.with_bit.Goals as goal

pub returns : goal.returns
unfolding with_bit
returns c = rw (shift_one c.args.n c.requires)
