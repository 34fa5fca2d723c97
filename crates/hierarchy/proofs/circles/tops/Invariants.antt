-- The invariant: no role of the first j words has a senior.
use Rattle.std.proofs.Common.{◌≡◌, ℕ, ◌<◌, length, get_or}
use Rattle.hierarchy.specs.Links.{linked}
use Rattle.hierarchy.specs.Freed.{TopsOf}
use Rattle.hierarchy.proofs.circles.tops.Given as goal

abbrev pub invariant-loop-j : goal.invariant-loop-j
invariant-loop-j l = (length l.words ≡ 16) × ((n : ℕ) → n < l.j → TopsOf (linked l.links) n (get_or l.words n 0))
