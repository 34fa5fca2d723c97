-- The invariant: where no role lacked a senior so far, what was visited freed more roles.
use Rattle.hierarchy.specs.Links.{linked}
use Rattle.hierarchy.specs.Freed.{Freed}
use Rattle.hierarchy.proofs.Rows.{Wide, Nothing}
use Rattle.hierarchy.proofs.circles.Visitor.visit_in_order.Given as goal

abbrev pub invariant-loop-k : goal.invariant-loop-k
invariant-loop-k l = Wide l.visited.words × (Nothing l.lacking.words → Freed (linked l.links) l.freed.words l.visited.words)
