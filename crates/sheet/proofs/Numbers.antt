-- The texts that are read as numbers are the decimals 0 to 15, and those that name a kind are the words.
use mathlib.Core.Path.{◌≡◌, refl, ap, ap₂, sym, subst, ◌∙◌}
use mathlib.Core.Logic.{◌⊎◌, inl, inr, ⊎_elim}
use mathlib.Core.Bool.{Bool, true, false, false≢true, ◌&&◌}
use mathlib.Core.List.{List, [], ◌∷◌, ◌++◌}
use Prim.Native.Nat.{ℕ, ◌+◌, ◌-◌, ◌/◌, ◌%◌, ◌≤◌}
use native.Mathlib.Omega.{arith}
use lib.Dec.{eqb, leb}
use borrow.Author.Tests.{eqb-true, leb-true, le-leb}
use Rattle.bits.proofs.Booleans.{below_or_not, and_both, and_intro}
use Rattle.lines.specs.Decimal.{decimal}
use Rattle.lines.proofs.Decimal.{decimal-small, decimal_step}
use Rattle.sheet.specs.Form.{user, role, perm, trust, give, grant, attach}
use Rattle.sheet.specs.Reading.{words, same, kind_in, kind_named, with_digit, number}

-- ---- numbers
pub single_digit : (x : ℕ) → 48 ≤ x → x ≤ 57 → x ∷ [] ≡ decimal (x - 48)
single_digit x l m =
    let s : x ≡ 48 + (x - 48) = omega arith in
    ap (λ y. y ∷ []) s ∙ sym (decimal-small (x - 48) (omega arith))

two_digits : (n : ℕ) → 10 ≤ n → n ≤ 19 → decimal n ≡ 49 ∷ (38 + n) ∷ []
two_digits n l h =
    let tens : n / 10 ≡ 1 = omega arith in
    let unit : 48 + n % 10 ≡ 38 + n = omega arith in
    decimal_step n l ∙ ap₂ (λ x y. decimal x ++ (y ∷ [])) tens unit ∙ ap (λ l. l ++ ((38 + n) ∷ [])) (decimal-small 1 (omega arith))

pub digit_in : (tens m x : ℕ) → with_digit tens m x ≤ 15 → (48 ≤ x) × (x ≤ m) × (with_digit tens m x ≡ tens + (x - 48))
digit_in tens m x h = go (leb 48 x && leb x m) refl
  where
    go : (y : Bool) → leb 48 x && leb x m ≡ y → (48 ≤ x) × (x ≤ m) × (with_digit tens m x ≡ tens + (x - 48))
    go true e = let (a, b) = and_both (leb 48 x) (leb x m) e in (leb-true 48 x a, leb-true x m b, rw (e, with_digit))
    go false e = let z = rw (e, with_digit) at h in absurd (omega arith)

digit-of : (tens m n : ℕ) → 48 + n ≤ m → with_digit tens m (48 + n) ≡ tens + n
digit-of tens m n h =
    let e : tens + (48 + n - 48) ≡ tens + n = omega arith in
    rw (and_intro (leb 48 (48 + n)) (leb (48 + n) m) (le-leb 48 (48 + n) (omega arith)) (le-leb (48 + n) m h), with_digit) e

pub number-sound : (t : List ℕ) → number t ≤ 15 → t ≡ decimal (number t)
unfolding number
number-sound [] h = absurd (omega arith)
number-sound (x ∷ []) h =
    let (a, b, e) = digit_in 0 57 x h in
    let z : 0 + (x - 48) ≡ x - 48 = omega arith in
    single_digit x a b ∙ ap decimal (sym (e ∙ z))
number-sound (x ∷ y ∷ []) h = go (eqb x 49) refl
  where
    go : (z : Bool) → eqb x 49 ≡ z → x ∷ y ∷ [] ≡ decimal (number (x ∷ y ∷ []))
    go true q =
        let (a, b, e) = digit_in 10 53 y (rw (q, number) at h) in
        let s : y ≡ 38 + (10 + (y - 48)) = omega arith in
        rw (q, number) (ap₂ (λ u v. u ∷ v ∷ []) (eqb-true x 49 q) s ∙ sym (two_digits (10 + (y - 48)) (omega arith) (omega arith)) ∙ ap decimal (sym e))
    go false q = let z = rw (q, number) at h in absurd (omega arith)
number-sound (x ∷ y ∷ z ∷ t) h = absurd (omega arith)

pub number-complete : (n : ℕ) → n ≤ 15 → number (decimal n) ≡ n
unfolding number
number-complete n h =
    ⊎_elim (λ s. ap number (decimal-small n s) ∙ digit-of 0 57 n (omega arith) ∙ omega arith)
    (λ s. let d : 38 + n ≡ 48 + (n - 10) = omega arith in
    ap number (two_digits n s (omega arith) ∙ ap (λ x. 49 ∷ x ∷ []) d) ∙ digit-of 10 53 (n - 10) (omega arith) ∙ omega arith)
    (below_or_not n 10)

-- a text that spells none of them gives 16
digit-or_16 : (tens m x : ℕ) → tens + (m - 48) ≤ 15 → (with_digit tens m x ≤ 15) ⊎ (with_digit tens m x ≡ 16)
digit-or_16 tens m x h = go (leb 48 x && leb x m) refl
  where
    go : (y : Bool) → leb 48 x && leb x m ≡ y → (with_digit tens m x ≤ 15) ⊎ (with_digit tens m x ≡ 16)
    go true e = let (a, b) = and_both (leb 48 x) (leb x m) e in inl (rw (e, with_digit) (omega (arith, leb-true 48 x a, leb-true x m b)))
    go false e = inr (rw (e, with_digit))

pub small-or_16 : (t : List ℕ) → (number t ≤ 15) ⊎ (number t ≡ 16)
unfolding number
small-or_16 [] = inr refl
small-or_16 (x ∷ []) = digit-or_16 0 57 x (omega arith)
small-or_16 (x ∷ y ∷ []) = go (eqb x 49) refl
  where
    go : (z : Bool) → eqb x 49 ≡ z → (number (x ∷ y ∷ []) ≤ 15) ⊎ (number (x ∷ y ∷ []) ≡ 16)
    go true q = rw (q, number) (digit-or_16 10 53 y (omega arith))
    go false q = rw (q, number) (inr refl)
small-or_16 (x ∷ y ∷ z ∷ t) = inr refl

-- ---- words
same-sound : (t w : List ℕ) → same t w ≡ true → t ≡ w
unfolding same
same-sound [] [] e = refl
same-sound [] (y ∷ w) e = absurd (false≢true e)
same-sound (x ∷ t) [] e = absurd (false≢true e)
same-sound (x ∷ t) (y ∷ w) e = let (a, b) = and_both (eqb x y) (same t w) e in ap₂ (λ u v. u ∷ v) (eqb-true x y a) (same-sound t w b)

-- the words with their kinds, and any text with 0
pub data Word : List ℕ → ℕ → Type 0 where
  a_user : Word user 5
  a_role : Word role 7
  a_permission : Word perm 9
  a_trust : Word trust 3
  a_giving : Word give 11
  a_grant : Word grant 13
  an_attachment : Word attach 15
  another : {t : List ℕ} → Word t 0

abbrev Listed : List (List ℕ × ℕ) → Type 0
Listed [] = Unit
Listed ((w, k) ∷ l) = Word w k × Listed l

kind_in-sound : (l : List (List ℕ × ℕ)) → Listed l → (t : List ℕ) → Word t (kind_in l t)
kind_in-sound [] a t = another
kind_in-sound ((w, k) ∷ l) (a, more) t = go (same t w) refl (kind_in-sound l more t)
  where
    go : (y : Bool) → same t w ≡ y → Word t (kind_in l t) → Word t (kind_in ((w, k) ∷ l) t)
    go true e rest = rw (e, kind_in) (subst (λ x. Word x k) (sym (same-sound t w e)) a)
    go false e rest = rw (e, kind_in) rest

pub kind_named-sound : (t : List ℕ) → Word t (kind_named t)
unfolding kind_named
kind_named-sound t = kind_in-sound words (a_user, (a_role, (a_permission, (a_trust, (a_giving, (a_grant, (an_attachment, tt))))))) t
