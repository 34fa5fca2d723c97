-- `bits::lowest_bit` meets its contract: as many zeros trail as the place of the lowest bit says.
use native.Mathlib.Omega.{arith}
use Rattle.bits.proofs.Lowest.{lowest}
use Rattle.bits.proofs.lowest_bit.Goals as goal

pub overflow_cast-result : goal.overflow_cast-result
overflow_cast-result c = record { fits = omega (arith, (lowest 16 c.args.w (omega arith) c.requires).0) }

pub returns : goal.returns
returns c = let (p, q, f) = lowest 16 c.args.w (omega arith) c.requires in record { place = p; is_set = q; none_lower = f }
