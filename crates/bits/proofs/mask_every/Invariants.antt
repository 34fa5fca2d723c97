-- The invariant: the first n of the words are masked, and no others.
use Rattle.std.proofs.Common.{◌≤◌}
use Rattle.bits.specs.Stride.{in_stride}
use Rattle.bits.specs.Update.{Masked}
use Rattle.bits.proofs.mask_every.Given as goal

abbrev pub invariant-loop-n : goal.invariant-loop-n
invariant-loop-n g l = (l.n ≤ l.count) × Masked (in_stride g.row.STEP l.from l.n) l.mask l.initial.state l.state
