-- The bits gathered from several words: none are found exactly where no word has any.
use mathlib.Core.Path.{◌≡◌, refl, ap, ap₂, sym, ◌∙◌}
use mathlib.Core.Logic.{◌↔◌, ◌⊎◌, inl, inr}
use mathlib.Core.Bool.{Bool, true, false, not, ◌&&◌, ◌||◌}
use Prim.Native.Nat.{ℕ, zero, suc, ◌+◌, ◌-◌, ◌<◌, ◌≤◌}
use native.Mathlib.Numerals.{add-one}
use native.Mathlib.Omega.{arith}
use lib.Bits.{bit_and, bit_or, or_add_and, and_le_l, and_le_r}
use lib.ListN.{length, take, get_or}
use mathlib.Core.List.{List}
use Rattle.std.specs.List.{fold}
use Rattle.std.proofs.lemmas.List.{take_all}
use Rattle.std.proofs.lemmas.List.Sums.{fold_more}
use Rattle.bits.specs.Below.{any_below}
use Rattle.bits.specs.Bit.{bit}
use Rattle.bits.specs.Gather.{gather}
use Rattle.bits.proofs.Bit.{bit_0, bit-and, bit-or, bit_not, word_ext}
use Rattle.bits.proofs.Below.{any_intro, any_both_elim}
use Rattle.bits.proofs.Booleans.{clash, untrue, below_or_not, and_intro, and-not, or_left, or_right}

-- one word more
pub gather-more : (t : ℕ) (f : ℕ → ℕ) {found w : ℕ} → found ≡ gather t f → w ≡ f t → bit_or found w ≡ gather (t + 1) f
unfolding gather
gather-more t f p q = rw (add-one t, p, q)

pub gather_ext : (n : ℕ) (f g : ℕ → ℕ) → ((k : ℕ) → k < n → f k ≡ g k) → gather n f ≡ gather n g
unfolding gather
gather_ext zero f g h = refl
gather_ext (suc n) f g h = ap₂ bit_or (gather_ext n f g (λ k l. h k (omega arith))) (h n (omega arith))

-- a bit of one of the words is gathered
pub gather_has : (n : ℕ) (f : ℕ → ℕ) (k m : ℕ) → k < n → bit (f k) m ≡ true → bit (gather n f) m ≡ true
unfolding gather
gather_has zero f k m l h = absurd (omega arith)
gather_has (suc n) f k m l h = bit-or (gather n f) (f n) m ∙ go (below_or_not k n) (gather_has n f k m)
  where
    go : (k < n) ⊎ (n ≤ k) → (k < n → bit (f k) m ≡ true → bit (gather n f) m ≡ true) → bit (gather n f) m || bit (f n) m ≡ true
    go (inl j) rec = or_left _ _ (rec j h)
    go (inr j) rec = let e : k ≡ n = omega arith in or_right (bit (gather n f) m) _ (rw e at h)

pub or-zero : (a b : ℕ) → (bit_or a b ≡ 0) ↔ ((a ≡ 0) × (b ≡ 0))
or-zero a b = (
  λ e. (omega (arith, or_add_and a b, and_le_r a b), omega (arith, or_add_and a b, and_le_l a b)),
  λ (p, q). omega (arith, or_add_and a b),
)

pub gather-zero : (n : ℕ) (f : ℕ → ℕ) → (gather n f ≡ 0) ↔ ((k : ℕ) → k < n → f k ≡ 0)
unfolding gather
gather-zero zero f = (λ e k l. absurd (omega arith), λ h. refl)
gather-zero (suc n) f = (
  λ e k l. let (p, q) = (or-zero (gather n f) (f n)).0 e in go k q ((gather-zero n f).0 p k) (below_or_not k n) l,
  λ h. (or-zero (gather n f) (f n)).1 ((gather-zero n f).1 (λ k l. h k (omega arith)), h n (omega arith)),
)
  where
    go : (k : ℕ) → f n ≡ 0 → (k < n → f k ≡ 0) → (k < n) ⊎ (n ≤ k) → k < suc n → f k ≡ 0
    go k q rec (inl m) l = rec m
    go k q rec (inr m) l = let e : k ≡ n = omega arith in rw e q

-- w has no bit outside a exactly where each of its bits is one of a
pub stray_zero : (w a : ℕ) → a < 65536 → w < 65536 → (bit_and w (65535 - a) ≡ 0) ↔ ((n : ℕ) → n < 16 → bit w n ≡ true → bit a n ≡ true)
stray_zero w a la lw = (
  λ e n l. (and-not (bit w n) (bit a n)).0 (sym (stray n l) ∙ rw e (bit_0 n)),
  λ h. word_ext 16 _ 0 (omega (arith, and_le_l w (65535 - a))) (omega arith)
      (λ n l. stray n l ∙ (and-not (bit w n) (bit a n)).1 (h n l) ∙ sym (bit_0 n)),
)
  where
    stray : (n : ℕ) → n < 16 → bit (bit_and w (65535 - a)) n ≡ bit w n && not (bit a n)
    stray n l = rw (bit_not 16 a n la l) at (bit-and w (65535 - a) n)

-- two words have a bit in common
pub common_bit : (a b : ℕ) → a < 65536 → (bit_and a b ≡ 0 → ⊥) ↔ ((n : ℕ) × (n < 16) × (bit a n ≡ true) × (bit b n ≡ true))
common_bit a b l = (λ ne. find ne (any_below 16 both) refl, λ (n, m, p, q) e. clash (bit-and a b n ∙ and_intro _ _ p q) (rw e (bit_0 n)))
  where
    both : ℕ → Bool
    both n = bit a n && bit b n

    find : (bit_and a b ≡ 0 → ⊥) → (x : Bool) → any_below 16 both ≡ x → (n : ℕ) × (n < 16) × (bit a n ≡ true) × (bit b n ≡ true)
    find ne true e = let (n, m, p, q) = any_both_elim 16 (bit a) (bit b) e in (n, m, p, q)
    find ne false e =
        absurd (ne (word_ext 16 _ 0 (omega (arith, and_le_l a b)) (omega arith)
        (λ n m. bit-and a b n ∙ untrue (both n) (λ t. clash (any_intro 16 both n m t) e) ∙ sym (bit_0 n))))

pub none_or : (w : ℕ) → bit_or 0 w ≡ w
none_or w = omega (arith, or_add_and 0 w, and_le_l 0 w)

-- or-ing what h reads of a list's items, from the front on, gathers it
pub fold_gather : {A : Type 0} (h : A → ℕ) (xs : List A) (n : ℕ) (d : A) → length xs ≡ n → fold (λ a x. bit_or a (h x)) 0 xs ≡ gather n (λ i. h (get_or xs i d))
unfolding gather
fold_gather {A} h xs n d e = ap (fold (λ a x. bit_or a (h x)) 0) (sym (take_all n xs (omega arith))) ∙ front n (omega arith)
  where
    front : (k : ℕ) → k ≤ length xs → fold (λ a x. bit_or a (h x)) 0 (take k xs) ≡ gather k (λ i. h (get_or xs i d))
    front zero l = refl
    front (suc k) l = rw (← add-one k, fold_more (λ a x. bit_or a (h x)) 0 xs k d (omega arith), front k (omega arith))
