-- The invariant: the words of the first s sessions are spared, and the others as they were.
use Rattle.std.proofs.Common.{◌≡◌, ℕ, ◌<◌, ◌≤◌, get_or, cond}
use Rattle.bits.specs.Bit.{without_bit}
use Rattle.mtas.specs.Layout.{session_user, read}
use Rattle.sessions.specs.Lesser.{holds_one}
use Rattle.sessions.proofs.spare.Given as goal

abbrev pub invariant-loop-s : goal.invariant-loop-s
invariant-loop-s l = record {
  spared : (k : ℕ) → k < l.s → get_or l.left k 0 ≡ cond (holds_one l.state l.i (read l.state (session_user l.i k)) l.above) (without_bit (get_or l.initial.left k 0) l.r) (get_or l.initial.left k 0);
  others : (k : ℕ) → l.s ≤ k → get_or l.left k 0 ≡ get_or l.initial.left k 0;
}
