-- Texts: whether two are the same, which are digits alone, and how long the TEXTDATA in front is, in the library's words.
use mathlib.Core.Path.{◌≡◌, refl, sym, ap, ap₂}
use mathlib.Core.Bool.{true, false, cond, ◌&&◌}
use mathlib.Core.List.{List, [], ◌∷◌}
use Prim.Native.Nat.{ℕ}
use lib.ListN.{length}
use Rattle.std.specs.List.{take_while}
use Rattle.std.specs.Str.{bytes_eq}
use Rattle.std.proofs.lemmas.List.Recursion.{same_from_clauses}
use Rattle.sheet.specs.Rfc4180.{textdata}
use Rattle.sheet.specs.Reading.{textual, same}
use Rattle.std.proofs.lemmas.List.Sums.{take_while-cons}

-- ---- the same text
pub equal-same : (t w : List ℕ) → bytes_eq t w ≡ same t w
unfolding same
equal-same [] [] = refl
equal-same [] (y ∷ w) = refl
equal-same (x ∷ t) [] = refl
equal-same (x ∷ t) (y ∷ w) = ap₂ ◌&&◌ refl (equal-same t w)

-- ---- TEXTDATA in front
pub text-first : (x : ℕ) (l : List ℕ) → true ≡ textdata x → textual (x ∷ l) ≡ x ∷ textual l
unfolding textual
text-first x l e = rw (sym e, textual)

pub no_text-first : (x : ℕ) (l : List ℕ) → false ≡ textdata x → textual (x ∷ l) ≡ []
unfolding textual
no_text-first x l e = rw (sym e, textual)

pub passed : (l : List ℕ) → length {A = ℕ} (take_while textdata l) ≡ length (textual l)
unfolding textual
passed l = ap length (same_from_clauses (take_while textdata) textual (λ x m. cond (textdata x) (x ∷ m) []) refl (take_while-cons textdata) one l)
  where
    one : (x : ℕ) (l : List ℕ) → textual (x ∷ l) ≡ cond (textdata x) (x ∷ textual l) []
    one x l = elim (textdata x) as (λ b. elim b [ true ↦ x ∷ textual l | false ↦ [] ] ≡ cond b (x ∷ textual l) []) [ true ↦ refl | false ↦ refl ]
