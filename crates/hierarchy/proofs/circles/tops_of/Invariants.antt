-- The invariant: no role of the word has a senior.
use Rattle.hierarchy.specs.Links.{linked}
use Rattle.hierarchy.specs.Freed.{TopsOf}
use Rattle.hierarchy.proofs.circles.tops_of.Given as goal

abbrev pub invariant-loop-q : goal.invariant-loop-q
invariant-loop-q l = TopsOf (linked l.links) l.j l.word
