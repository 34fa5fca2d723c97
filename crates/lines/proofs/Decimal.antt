-- The digits of a number spell it, digit by digit, and are as few as its size says. The library's lemmas on digits ask for a number below 2 ^ 64 or 10 ^ 64, and these stand for every number.
use mathlib.Core.Path.{◌≡◌, refl, ap, sym, ◌∙◌}
use mathlib.Core.Logic.{⊎_elim}
use mathlib.Core.List.{List, [], ◌∷◌, ◌++◌}
use Prim.Native.Nat.{ℕ, zero, suc, ◌+◌, ◌-◌, ◌*◌, ◌/◌, ◌%◌, ◌^◌, ◌≤◌, ◌<◌}
use native.Mathlib.Nat.{pow-succ'}
use native.Mathlib.Omega.{arith}
use borrow.Author.Tests.{lt-ltb, le-ltb}
use lib.ListN.{length, length-append, get_or-append}
use lib.Seq.{get_or-append_seam}
use Rattle.bits.proofs.Booleans.{below_or_not}
use Rattle.lines.specs.Text.{field}
use Rattle.lines.specs.Decimal.{digits, decimal, value_from, Spells}

digits-small : (k n : ℕ) → n < 10 → digits (suc k) n ≡ (48 + n) ∷ []
unfolding digits
digits-small k n h = rw (lt-ltb n 10 h, digits)

digits_step : (k n : ℕ) → 10 ≤ n → digits (suc k) n ≡ digits k (n / 10) ++ ((48 + n % 10) ∷ [])
unfolding digits
digits_step k n h = rw (le-ltb n 10 h, digits)

same_digits : (a b n : ℕ) → n < a → n < b → digits a n ≡ digits b n
same_digits zero b n p q = absurd (omega arith)
same_digits (suc a) zero n p q = absurd (omega arith)
same_digits (suc a) (suc b) n p q =
    ⊎_elim (λ s. digits-small a n s ∙ sym (digits-small b n s))
    (λ s. digits_step a n s ∙ ap (λ l. l ++ ((48 + n % 10) ∷ [])) (same_digits a b (n / 10) (omega arith) (omega arith)) ∙ sym (digits_step b n s))
    (below_or_not n 10)

pub decimal-small : (n : ℕ) → n < 10 → decimal n ≡ (48 + n) ∷ []
unfolding decimal
decimal-small n h = digits-small n n h

pub decimal_step : (n : ℕ) → 10 ≤ n → decimal n ≡ decimal (n / 10) ++ ((48 + n % 10) ∷ [])
unfolding decimal
decimal_step n h = digits_step n n h ∙ ap (λ l. l ++ ((48 + n % 10) ∷ [])) (same_digits n (suc (n / 10)) (n / 10) (omega arith) (omega arith))

-- a number below a power of ten has no more digits than the power
pub few : (w n : ℕ) → n < 10 ^ suc w → length (decimal n) ≤ suc w
few zero n h = rw (decimal-small n h) (omega arith)
few (suc w) n h =
    ⊎_elim (λ s. rw (decimal-small n s) (omega arith))
    (λ s. let r : length (decimal (n / 10)) ≤ suc w = few w (n / 10) (omega (arith, pow-succ' 10 (suc w))) in
    rw (decimal_step n s) (omega (arith, length-append (decimal (n / 10)) ((48 + n % 10) ∷ []))))
    (below_or_not n 10)

pub few-field : (w n : ℕ) → n < 10 ^ suc w → length (field n) ≤ suc (suc w)
few-field w n h = omega (arith, few w n h, length-append (decimal n) (32 ∷ []))

value_snoc : (a : ℕ) (l : List ℕ) (d : ℕ) → value_from a (l ++ ((48 + d) ∷ [])) ≡ 10 * value_from a l + d
unfolding value_from
value_snoc a [] d = omega arith
value_snoc a (x ∷ l) d = value_snoc (10 * a + (x - 48)) l d

-- a number's last digit behind the others
module _ (n : ℕ) (l : List ℕ) (h : 10 ≤ n) (s : Spells (n / 10) l) where
  last : List ℕ
  last = (48 + n % 10) ∷ []

  spells_more : Spells n (l ++ last)
  unfolding last
  spells_more = record {
    worth = omega (arith, value_snoc 0 l (n % 10), s.worth);
    digit = λ i b. ⊎_elim (λ g. rw (get_or-append l last 0 i g) (s.digit i g))
        (λ g. let e : i ≡ length l = omega (arith, length-append l last) in rw (e, get_or-append_seam l (48 + n % 10) [] 0) (omega arith, omega arith))
        (below_or_not i (length l));
    some = omega (arith, length-append l last);
    leading = λ e. let z : n / 10 ≡ 0 = (s.leading (sym (get_or-append l last 0 0 s.some) ∙ e)).0 in absurd (omega arith);
  }

spells_one : (n : ℕ) → n < 10 → Spells n ((48 + n) ∷ [])
unfolding value_from
spells_one n h = record {
  worth = omega arith;
  digit = λ i g. let e : i ≡ 0 = omega arith in rw e (omega arith, omega arith);
  some = omega arith;
  leading = λ e. (omega arith, refl);
}

spelled : (k n : ℕ) → n < k → Spells n (decimal n)
unfolding last
spelled zero n h = absurd (omega arith)
spelled (suc k) n h =
    ⊎_elim (λ s. rw (decimal-small n s) (spells_one n s))
    (λ s. rw (decimal_step n s) (spells_more n (decimal (n / 10)) s (spelled k (n / 10) (omega arith))))
    (below_or_not n 10)

pub spells_decimal : (n : ℕ) → Spells n (decimal n)
spells_decimal n = spelled (suc n) n (omega arith)
