-- Words and numbers are TEXTDATA alone, so that a field whose text isn't is neither.
use mathlib.Core.Path.{◌≡◌, refl, subst}
use mathlib.Core.Bool.{Bool, true, false}
use mathlib.Core.List.{List, [], ◌∷◌}
use Prim.Native.Nat.{ℕ, ◌≤◌}
use native.Mathlib.Omega.{arith}
use borrow.Author.Tests.{eqb-true}
use lib.Dec.{eqb}
use Rattle.sheet.specs.Rfc4180.{textdata, Text}
use Rattle.sheet.specs.Reading.{textual, with_digit, number}
use Rattle.sheet.proofs.Bytes.{the_text}
use Rattle.sheet.proofs.Fields.{textual-sound}
use Rattle.sheet.proofs.Numbers.{digit_in, Word}

digit-text : (tens most x : ℕ) → most ≤ 57 → with_digit tens most x ≤ 15 → textdata x ≡ true
digit-text tens most x m h = let (a, b, e) = digit_in tens most x h in the_text x (omega arith) (omega arith) (λ q. omega arith) (λ q. omega arith)

pub number-text : (t : List ℕ) → number t ≤ 15 → Text t
unfolding number
number-text [] h = absurd (omega arith)
number-text (x ∷ []) h = Text.one_more (digit-text 0 57 x (omega arith) h) Text.no_more
number-text (x ∷ y ∷ []) h = go (eqb x 49) refl
  where
    go : (b : Bool) → eqb x 49 ≡ b → Text (x ∷ y ∷ [])
    go true e =
        let s : x ≡ 49 = eqb-true x 49 e in
        Text.one_more (the_text x (omega arith) (omega arith) (λ q. omega arith) (λ q. omega arith)) (Text.one_more (digit-text 10 53 y (omega arith) (rw (e, number) at h)) Text.no_more)
    go false e = let z = rw (e, number) at h in absurd (omega arith)
number-text (x ∷ y ∷ z ∷ t) h = absurd (omega arith)

pub own-text : {w : List ℕ} → textual w ≡ w → Text w
own-text {w} e = subst Text e (textual-sound w).0

pub word-text : {t : List ℕ} {k : ℕ} → Word t k → (k ≡ 0 → ⊥) → Text t
unfolding textual textdata
word-text Word.a_user n = own-text refl
word-text Word.a_role n = own-text refl
word-text Word.a_permission n = own-text refl
word-text Word.a_trust n = own-text refl
word-text Word.a_giving n = own-text refl
word-text Word.a_grant n = own-text refl
word-text Word.an_attachment n = own-text refl
word-text Word.another n = absurd (n refl)
