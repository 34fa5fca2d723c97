-- `hierarchy::lowest::lowest_reached` meets its contract. The invariants: the search has come to the role q of issuer j, and has found nothing.
use Rattle.std.proofs.Common.{◌≡◌, ◌+◌, ◌*◌, None}
use Rattle.hierarchy.specs.Links.{linked}
use Rattle.hierarchy.proofs.Searching.{Searching}
use Rattle.hierarchy.proofs.lowest.lowest_reached.Given as goal

abbrev pub invariant-loop-q : goal.invariant-loop-q
invariant-loop-q l = (l.found ≡ None) × Searching (linked l.links) l.set.words l.i l.word (16 * l.j + l.q) l.seen.words

abbrev pub invariant-issuers : goal.invariant-issuers
invariant-issuers l = (l.found ≡ None) × Searching (linked l.links) l.set.words l.i l.word (16 * l.j) l.seen.words
