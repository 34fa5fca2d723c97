-- Bits of words. Bit n has weight 2 to the power n (document 01, 'The state').
use Rattle.std.specs.Prelude.{◌≡◌, Bool, true, false, ℕ, zero, suc, ◌+◌, ◌-◌, ◌*◌, ◌/◌, ◌%◌, ◌^◌, ◌<◌, eqb}
use Rattle.std.specs.Int.Bits.{bit_and, bit_or}

-- bit n of the word w
abbrev pub bit : ℕ → ℕ → Bool
bit w n = eqb (w / 2 ^ n % 2) 1

abbrev pub digit : Bool → ℕ
digit true = 1
digit false = 0

-- the word of n bits whose bit k is f k
unfoldable pub pack : ℕ → (ℕ → Bool) → ℕ
pack zero f = 0
pack (suc n) f = digit (f 0) + 2 * pack n (λ k. f (suc k))

-- the word w with bit n, and without it
unfoldable pub with_bit : ℕ → ℕ → ℕ
with_bit w n = bit_or w (2 ^ n)

unfoldable pub without_bit : ℕ → ℕ → ℕ
without_bit w n = bit_and w (65535 - 2 ^ n)

-- n is the lowest bit of the word w
pub record Lowest (w n : ℕ) : Type 0 where
  pub place : n < 16
  pub is_set : bit w n ≡ true
  pub none_lower : (m : ℕ) → m < n → bit w m ≡ false
