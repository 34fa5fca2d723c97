-- Texts of digits alone, and which are numbers in decimal.
use mathlib.Core.Path.{◌≡◌, refl, sym, ap, ap₂, ◌∙◌}
use Rattle.std.specs.Prelude.{Option, Some, None}
use mathlib.Core.Logic.{⊎_elim}
use mathlib.Core.Bool.{Bool, true, false, false≢true, ◌&&◌, not}
use mathlib.Core.List.{List, [], ◌∷◌, ◌++◌, append_assoc, append-nil}
use Prim.Native.Nat.{ℕ, suc, ◌+◌, ◌-◌, ◌*◌, ◌/◌, ◌%◌, ◌≤◌, ◌<◌}
use native.Mathlib.Omega.{arith}
use borrow.Author.Tests.{ne_eqb, eqb-false, leb-true, le-leb, not-true}
use lib.Dec.{eqb, leb}
use lib.ListN.{length, get_or}
use Rattle.bits.proofs.Booleans.{below_or_not, and_both}
use Rattle.lines.specs.Decimal.{decimal, value, value_from, Spells}
use Rattle.lines.proofs.Decimal.{decimal_step, spells_decimal}
use Rattle.sheet.specs.Reading.{number}
use Rattle.sheet.specs.Caller.{all_digits, is_decimal, a_caller, no_caller, caller_in, named_of, CallerLaws}
use Rattle.sheet.proofs.Numbers.{single_digit, number-sound, number-complete, small-or_16}

-- ---- a number in decimal
single : (t : List ℕ) {b : Bool} → length t ≡ 1 → b ≡ all_digits t → b ≡ is_decimal t
unfolding is_decimal
single [] h e = absurd (omega arith)
single (x ∷ []) h e = e
single (x ∷ y ∷ t) h e = absurd (omega arith)

several : (t : List ℕ) {b : Bool} → (length t ≡ 0 → ⊥) → (length t ≡ 1 → ⊥) → (get_or t 0 0 ≡ 48 → ⊥) → b ≡ all_digits t → b ≡ is_decimal t
unfolding is_decimal
several [] n o z e = absurd (n refl)
several (x ∷ []) n o z e = absurd (o refl)
several (x ∷ y ∷ t) n o z e = rw (ne_eqb x 48 z) e

digits_of : (t : List ℕ) → ((i : ℕ) → i < length t → (48 ≤ get_or t i 0) × (get_or t i 0 ≤ 57)) → all_digits t ≡ true
unfolding all_digits
digits_of [] d = refl
digits_of (x ∷ t) d =
    let (l, m) = d 0 (omega arith) in
    rw (le-leb 48 x l, le-leb x 57 m) (digits_of t (λ i h. d (suc i) (omega arith)))

spelled : (n : ℕ) (t : List ℕ) → Spells n t → true ≡ is_decimal t
spelled n t s =
    let d = sym (digits_of t s.digit) in
    ⊎_elim (λ h. single t (omega (arith, s.some)) d)
    (λ h. several t (λ z. omega arith) (λ z. omega arith) (λ z. let o : length t ≡ 1 = (s.leading z).1 in omega arith) d)
    (below_or_not (length t) 2)

-- ---- the number that digits spell
a_digit : (x : ℕ) (t : List ℕ) → all_digits (x ∷ t) ≡ true → (48 ≤ x) × (x ≤ 57) × (all_digits t ≡ true)
unfolding all_digits
a_digit x t d =
    let (e, r) = and_both (leb 48 x && leb x 57) (all_digits t) d in
    let (l, m) = and_both (leb 48 x) (leb x 57) e in
    (leb-true 48 x l, leb-true x 57 m, r)

one_more : (a x : ℕ) → 1 ≤ a → 48 ≤ x → x ≤ 57 → decimal a ++ (x ∷ []) ≡ decimal (10 * a + (x - 48))
one_more a x p l m =
    let tens : (10 * a + (x - 48)) / 10 ≡ a = omega arith in
    let unit : 48 + (10 * a + (x - 48)) % 10 ≡ x = omega arith in
    sym (decimal_step (10 * a + (x - 48)) (omega arith) ∙ ap₂ (λ n y. decimal n ++ (y ∷ [])) tens unit)

-- digits behind a number that isn't 0
behind : (a : ℕ) (t : List ℕ) → 1 ≤ a → all_digits t ≡ true → decimal a ++ t ≡ decimal (value_from a t)
unfolding value_from
behind a [] p d = append-nil (decimal a)
behind a (x ∷ t) p d =
    let (l, m, r) = a_digit x t d in
    sym (append_assoc (decimal a) (x ∷ []) t) ∙ ap (λ b. b ++ t) (one_more a x p l m) ∙ behind (10 * a + (x - 48)) t (omega arith) r

number_of : (t : List ℕ) → is_decimal t ≡ true → (n : ℕ) × (t ≡ decimal n)
unfolding is_decimal
number_of [] e = absurd (false≢true e)
number_of (x ∷ []) e = let (l, m, r) = a_digit x [] e in (x - 48, single_digit x l m)
number_of (x ∷ y ∷ t) e =
    let (z, d) = and_both (not (eqb x 48)) (all_digits (x ∷ y ∷ t)) e in
    let (l, m, r) = a_digit x (y ∷ t) d in
    let n : x ≡ 48 → ⊥ = eqb-false x 48 (not-true (eqb x 48) z) in
    let p : 1 ≤ x - 48 = omega arith in
    (value_from (x - 48) (y ∷ t), ap (λ b. b ++ (y ∷ t)) (single_digit x l m) ∙ behind (x - 48) (y ∷ t) p r)

pub caller_laws : CallerLaws
caller_laws = record {
  own = λ n h. rw (sym (spelled n (decimal n) (spells_decimal n)), caller_in) (ap a_caller (number-complete n h));
  above = λ n h. rw (sym (spelled n (decimal n) (spells_decimal n)), caller_in) (ap a_caller (great n h));
  no_number = λ t h. other t h (is_decimal t) refl;
  number_told = number_told;
  other_told = other_told;
}
  where
    other : (t : List ℕ) → ((n : ℕ) → t ≡ decimal n → ⊥) → (b : Bool) → is_decimal t ≡ b → caller_in t ≡ no_caller
    other t h true e = let (n, q) = number_of t e in absurd (h n q)
    other t h false e = rw (e, caller_in)

    number_told : (r : Option ℕ) (n : ℕ) → named_of r ≡ a_caller n → r ≡ Some n
    number_told (Some m) n e = cc
    number_told None n e = let z : ◌≡◌ {A = ℕ} 0 1 = cc in absurd (omega arith)

    other_told : (r : Option ℕ) → named_of r ≡ no_caller → r ≡ None
    other_told (Some m) e = let z : ◌≡◌ {A = ℕ} 0 1 = cc in absurd (omega arith)
    other_told None e = refl

    great : (n : ℕ) → 15 < n → number (decimal n) ≡ 16
    great n h =
        ⊎_elim (λ g. let e : n ≡ number (decimal n) = sym (spells_decimal n).worth ∙ ap value (number-sound (decimal n) g) ∙ (spells_decimal (number (decimal n))).worth in absurd (omega arith))
        (λ g. g)
        (small-or_16 (decimal n))
