-- The invariant: more roles were freed. The measure: the roles outside the set.
use Rattle.std.proofs.Common.{◌-◌}
use Rattle.hierarchy.specs.Freed.{Freed}
use Rattle.hierarchy.specs.Links.{linked}
use Rattle.hierarchy.proofs.Rows.{Wide}
use Rattle.hierarchy.proofs.Sizes.{size}
use Rattle.hierarchy.proofs.circles.Visitor.fill.Given as goal

abbrev pub invariant-loop-next : goal.invariant-loop-next
invariant-loop-next l = Wide l.freed.words × Freed (linked l.self.links.now) l.initial.freed.words l.freed.words

abbrev pub decreases-loop-next : goal.decreases-loop-next
decreases-loop-next l = 256 - size l.freed.words
