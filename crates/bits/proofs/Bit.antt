-- The bits of packed words and of the operations on words, and that a word is determined by its bits.
use mathlib.Core.Path.{◌≡◌, refl, ap, ap₂, sym, ◌∙◌}
use mathlib.Core.Logic.{◌⊎◌, inl, inr}
use mathlib.Core.Bool.{Bool, true, false, not, ◌&&◌, ◌||◌, and-false}
use Prim.Native.Nat.{ℕ, zero, suc, ◌+◌, ◌-◌, ◌*◌, ◌/◌, ◌%◌, ◌^◌, ◌<◌, ◌≤◌}
use native.Mathlib.Nat.{zero-div, div-one, pow-suc, one-mul}
use native.Mathlib.Numerals.{one-add}
use native.Mathlib.Omega.{arith}
use lib.Bits.{bit_and, bit_or, and_shr, and_mod, or_shr, or_mod, and_le_l}
use lib.Dec.{eqb, lit<, eqb-zero-suc, eqb-suc-zero, eqb-suc-suc}
use lib.Pow.{shr-shr, shl_exact, pow-lt}
use borrow.Author.Tests.{eq-eqb}
use Rattle.bits.specs.Bit.{bit, digit, pack, with_bit, without_bit}
use Rattle.bits.proofs.Booleans.{clash, below_or_not}

pub bit_0 : (n : ℕ) → bit 0 n ≡ false
bit_0 n = ap (λ (x : ℕ). eqb (x % 2) 1) (zero-div (2 ^ n))

pub bit-zero : (w : ℕ) → bit w 0 ≡ eqb (w % 2) 1
bit-zero w = ap (λ (x : ℕ). eqb (x % 2) 1) (div-one w)

pub bit-suc : (w n : ℕ) → bit w (suc n) ≡ bit (w / 2) n
bit-suc w n = ap (λ (x : ℕ). eqb (x % 2) 1) (ap (λ (k : ℕ). w / 2 ^ k) (sym (one-add n)) ∙ sym (shr-shr w 1 n))

-- a last digit is its last bit
digit-of : (p : ℕ) → p < 2 → digit (eqb p 1) ≡ p
digit-of zero h = refl
digit-of (suc zero) h = refl
digit-of (suc (suc p)) h = absurd (omega arith)

digit-mod : (w : ℕ) → digit (eqb (w % 2) 1) ≡ w % 2
digit-mod w = digit-of (w % 2) (omega arith)

last_bit : (b : Bool) (m : ℕ) → eqb ((digit b + 2 * m) % 2) 1 ≡ b
last_bit true m = let e : (1 + 2 * m) % 2 ≡ 1 = omega arith in rw e
last_bit false m = let e : (0 + 2 * m) % 2 ≡ 0 = omega arith in rw e

digit_half : (b : Bool) (m : ℕ) → (digit b + 2 * m) / 2 ≡ m
digit_half true m = omega arith
digit_half false m = omega arith

pub bit-pack : (n : ℕ) (f : ℕ → Bool) (k : ℕ) → k < n → bit (pack n f) k ≡ f k
unfolding pack
bit-pack zero f k l = absurd (omega arith)
bit-pack (suc n) f zero l = bit-zero (pack (suc n) f) ∙ last_bit (f 0) (pack n (λ k. f (suc k)))
bit-pack (suc n) f (suc k) l =
    bit-suc (pack (suc n) f) k ∙ rw (digit_half (f 0) (pack n (λ j. f (suc j)))) (bit-pack n (λ j. f (suc j)) k (omega arith))

pub pack_ext : (n : ℕ) (f g : ℕ → Bool) → ((k : ℕ) → k < n → f k ≡ g k) → pack n f ≡ pack n g
unfolding pack
pack_ext zero f g h = refl
pack_ext (suc n) f g h =
    ap₂ (λ x y. digit x + 2 * y) (h 0 (omega arith)) (pack_ext n (λ k. f (suc k)) (λ k. g (suc k)) (λ k l. h (suc k) (omega arith)))

pub pack-bit : (n w : ℕ) → w < 2 ^ n → pack n (bit w) ≡ w
unfolding pack
pack-bit zero w l = omega arith
pack-bit (suc n) w l =
    let low : digit (bit w 0) ≡ w % 2 = ap digit (bit-zero w) ∙ digit-mod w in
    let high : pack n (λ k. bit w (suc k)) ≡ w / 2 = pack_ext n _ _ (λ k _. bit-suc w k) ∙ pack-bit n (w / 2) (omega (arith, pow-suc 2 n)) in
    rw (low, high) (omega arith)

-- a word of n bits is what its bits are
pub pack-of : (n w : ℕ) (f : ℕ → Bool) → w < 2 ^ n → ((k : ℕ) → k < n → f k ≡ bit w k) → pack n f ≡ w
pack-of n w f l h = pack_ext n f (bit w) h ∙ pack-bit n w l

pub pack-lt : (n : ℕ) (f : ℕ → Bool) → pack n f < 2 ^ n
unfolding pack
pack-lt zero f = omega arith
pack-lt (suc n) f = go (f 0) (pack-lt n (λ k. f (suc k)))
  where
    go : (b : Bool) → pack n (λ k. f (suc k)) < 2 ^ n → digit b + 2 * pack n (λ k. f (suc k)) < 2 ^ suc n
    go true h = omega (arith, pow-suc 2 n)
    go false h = omega (arith, pow-suc 2 n)

-- two words of k bits with the same bits are equal
pub word_ext : (k a b : ℕ) → a < 2 ^ k → b < 2 ^ k → ((n : ℕ) → n < k → bit a n ≡ bit b n) → a ≡ b
word_ext k a b la lb h = sym (pack-bit k a la) ∙ pack-of k b (bit a) lb h

-- an operation that works on each digit apart
bit_op : (op : ℕ → ℕ → ℕ) (on : Bool → Bool → Bool)
    → ((a b k : ℕ) → op a b / 2 ^ k ≡ op (a / 2 ^ k) (b / 2 ^ k)) → ((a b k : ℕ) → op a b % 2 ^ k ≡ op (a % 2 ^ k) (b % 2 ^ k))
    → ((p q : Bool) → eqb (op (digit p) (digit q)) 1 ≡ on p q) → (a b n : ℕ) → bit (op a b) n ≡ on (bit a n) (bit b n)
bit_op op on shr rem digits a b n =
    let x = a / 2 ^ n in
    let y = b / 2 ^ n in
    ap (λ (w : ℕ). eqb w 1) (ap (λ (w : ℕ). w % 2) (shr a b n) ∙ rem x y 1 ∙ ap₂ op (sym (digit-mod x)) (sym (digit-mod y)))
    ∙ digits (bit a n) (bit b n)

pub bit-and : (a b n : ℕ) → bit (bit_and a b) n ≡ bit a n && bit b n
bit-and = bit_op bit_and ◌&&◌ and_shr and_mod digits
  where
    digits : (p q : Bool) → eqb (bit_and (digit p) (digit q)) 1 ≡ p && q
    digits true true = refl
    digits true false = refl
    digits false q = refl

pub bit-or : (a b n : ℕ) → bit (bit_or a b) n ≡ bit a n || bit b n
bit-or = bit_op bit_or ◌||◌ or_shr or_mod digits
  where
    digits : (p q : Bool) → eqb (bit_or (digit p) (digit q)) 1 ≡ p || q
    digits true true = refl
    digits true false = refl
    digits false true = refl
    digits false false = refl

pub bit-pow : (n m : ℕ) → bit (2 ^ n) m ≡ eqb n m
bit-pow zero zero = refl
bit-pow zero (suc m) = bit-suc 1 m ∙ bit_0 m ∙ sym (eqb-zero-suc m)
bit-pow (suc n) zero =
    let e : 2 ^ suc n % 2 ≡ 0 = omega (arith, pow-suc 2 n) in
    bit-zero (2 ^ suc n) ∙ rw e (sym (eqb-suc-zero n))
bit-pow (suc n) (suc m) =
    let e : 2 ^ suc n / 2 ≡ 2 ^ n = omega (arith, pow-suc 2 n) in
    bit-suc (2 ^ suc n) m ∙ rw e (bit-pow n m ∙ sym (eqb-suc-suc n m))

-- of two digits that add up to 1, one is set and the other not
other : (p q : ℕ) → p + q ≡ 1 → eqb p 1 ≡ not (eqb q 1)
other zero q h = let e : q ≡ 1 = omega arith in rw e
other (suc zero) q h = let e : q ≡ 0 = omega arith in rw e
other (suc (suc p)) q h = absurd (omega arith)

-- the complement of a word of k bits
pub bit_not : (k a n : ℕ) → a < 2 ^ k → n < k → bit (2 ^ k - 1 - a) n ≡ not (bit a n)
bit_not zero a n l m = absurd (omega arith)
bit_not (suc k) a zero l m =
    bit-zero (2 ^ suc k - 1 - a)
    ∙ other ((2 ^ suc k - 1 - a) % 2) (a % 2) (omega (arith, pow-suc 2 k))
    ∙ ap not (sym (bit-zero a))
bit_not (suc k) a (suc n) l m =
    let e : (2 ^ suc k - 1 - a) / 2 ≡ 2 ^ k - 1 - a / 2 = omega (arith, pow-suc 2 k) in
    bit-suc (2 ^ suc k - 1 - a) n
    ∙ rw e (bit_not k (a / 2) n (omega (arith, pow-suc 2 k)) (omega arith) ∙ ap not (sym (bit-suc a n)))

pub bit_with : (w n m : ℕ) → bit (with_bit w n) m ≡ bit w m || eqb n m
unfolding with_bit
bit_with w n m = rw (bit-pow n m) at (bit-or w (2 ^ n) m)

pub bit_without : (w n m : ℕ) → n < 16 → m < 16 → bit (without_bit w n) m ≡ bit w m && not (eqb n m)
unfolding without_bit
bit_without w n m l h = rw (bit_not 16 (2 ^ n) m (pow-lt l) h, bit-pow n m) at (bit-and w (65535 - 2 ^ n) m)

-- a word is less without one of its bits
pub without_less : (w n : ℕ) → n < 16 → bit w n ≡ true → without_bit w n < w
unfolding without_bit
without_less w n l h = go (below_or_not (without_bit w n) w)
  where
    go : (without_bit w n < w) ⊎ (w ≤ without_bit w n) → without_bit w n < w
    go (inl x) = x
    go (inr x) =
        let e : without_bit w n ≡ w = omega (arith, and_le_l w (65535 - 2 ^ n)) in
        absurd (clash h (ap (λ y. bit y n) (sym e) ∙ bit_without w n n l l ∙ rw (eq-eqb n n refl) (and-false (bit w n))))

-- the code's `1 << n`
pub shift_one : (n : ℕ) → n < 16 → 1 * 2 ^ n % 65536 ≡ 2 ^ n
shift_one n l = shl_exact 1 n 16 (lit< tt) (omega arith) ∙ one-mul (2 ^ n)
