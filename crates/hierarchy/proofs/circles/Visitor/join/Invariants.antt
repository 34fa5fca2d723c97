-- The invariant: the first i words have the role, if it is one of theirs.
use Rattle.std.proofs.Common.{◌+◌, ◌-◌, ◌/◌, get_or, bit_and, bit_or}
use Rattle.bits.specs.Stride.{in_run}
use Rattle.bits.specs.Update.{Updated}
use Rattle.hierarchy.proofs.circles.Visitor.join.Given as goal

abbrev pub invariant-loop-i : goal.invariant-loop-i
invariant-loop-i l = Updated (in_run 0 l.i) (λ n x. bit_or x (bit_and (get_or l.self.slide (15 - l.k / 16 + n) 0) l.bit)) l.initial.w-items l.w-items
