-- `effects::strips::all_but` meets its contract: 2 ^ n is past 65535 where n is above 15.
use Rattle.std.proofs.Common.{arith, pow_mono}
use Rattle.bits.proofs.Bit.{shift_one}
use Rattle.effects.proofs.strips.all_but.Goals as goal

pub returns-then-n-lt16 : goal.returns-then-n-lt16
returns-then-n-lt16 c = rw (shift_one c.args.n (omega arith))

pub returns-else-n-lt16 : goal.returns-else-n-lt16
returns-else-n-lt16 c = let p = pow_mono {i = 16} {j = c.args.n} (omega arith) in omega arith
