-- The invariant: the first i words are the public roles of those that trust j.
use Rattle.std.proofs.Common.{◌≡◌, ℕ, ◌<◌, get_or}
use Rattle.mtas.specs.Layout.{public_roles, read}
use Rattle.law.proofs.Allowed.{if_trusting}
use Rattle.law.proofs.trusting.Given as goal

abbrev pub invariant-loop-i : goal.invariant-loop-i
invariant-loop-i l = (k : ℕ) → k < l.i → get_or l.w-items k 0 ≡ if_trusting l.state l.j k (read l.state (public_roles k))
