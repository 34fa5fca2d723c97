-- The invariant: what is found is gathered from the first p rows, and the rest is what is left of present behind p bits.
use Rattle.std.proofs.Common.{◌≡◌, ℕ, ◌/◌, ◌^◌, ◌<◌, get_or}
use Rattle.bits.specs.Gather.{gather}
use Rattle.law.specs.Stray.{link_stray}
use Rattle.law.proofs.stray_rows.Given as goal

abbrev pub invariant-loop-p : goal.invariant-loop-p
invariant-loop-p l =
    (l.rest ≡ l.present / 2 ^ l.p)
    × ((i : ℕ) → i < 16 → get_or l.found.words i 0 ≡ gather l.p (link_stray l.state l.from l.j l.present (λ k. get_or l.allowed.words k 0) i))
