-- The invariant: the first k roles were visited.
use Rattle.hierarchy.specs.Links.{linked}
use Rattle.hierarchy.proofs.Freed.{VisitedTo}
use Rattle.hierarchy.proofs.circles.Visitor.sweep.Given as goal

abbrev pub invariant-loop-k : goal.invariant-loop-k
invariant-loop-k l = VisitedTo (linked l.self.links.now) l.k l.initial.freed.words l.freed.words
