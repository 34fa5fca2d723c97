-- Single bytes: which are TEXTDATA.
use mathlib.Core.Path.{◌≡◌, refl}
use mathlib.Core.Logic.{⊎_elim}
use mathlib.Core.Bool.{true, false, ◌&&◌, and-false, or-true}
use Prim.Native.Nat.{ℕ, ◌≤◌, ◌<◌}
use native.Mathlib.Omega.{arith}
use borrow.Author.Tests.{le-leb, lt-leb}
use lib.Dec.{leb}
use Rattle.bits.proofs.Booleans.{or_left, below_or_not}
use Rattle.sheet.specs.Rfc4180.{COMMA, DQUOTE, textdata, quotable}

module _ (x : ℕ) where
  pub below_text : x < 32 → false ≡ textdata x
  unfolding textdata
  below_text h = rw (lt-leb 32 x h, lt-leb 35 x (omega arith), lt-leb 45 x (omega arith), textdata)

  pub above_text : 126 < x → false ≡ textdata x
  unfolding textdata
  above_text h = rw (lt-leb x 33 (omega arith), lt-leb x 43 (omega arith), lt-leb x 126 h, and-false (leb 32 x), and-false (leb 35 x), and-false (leb 45 x), textdata)

  pub the_quote : x ≡ DQUOTE → false ≡ textdata x
  unfolding textdata
  the_quote e = rw e refl

  pub the_text : 32 ≤ x → x ≤ 126 → (x ≡ DQUOTE → ⊥) → (x ≡ COMMA → ⊥) → textdata x ≡ true
  unfolding textdata
  the_text l m q c =
      ⊎_elim (λ h. rw (le-leb 32 x l, le-leb x 33 (omega arith), textdata))
      (λ h. ⊎_elim (λ g. rw (le-leb 35 x (omega (arith, q)), le-leb x 43 (omega arith), or-true (leb 32 x && leb x 33), textdata))
      (λ g. rw (le-leb 45 x (omega (arith, c)), le-leb x 126 m, or-true (leb 35 x && leb x 43), or-true (leb 32 x && leb x 33), textdata))
      (below_or_not x 44))
      (below_or_not x 34)

-- TEXTDATA may stand between quotes too
pub in_quotes : (x : ℕ) → textdata x ≡ true → quotable x ≡ true
in_quotes x h = or_left (textdata x) _ h
