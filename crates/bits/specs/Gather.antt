-- The bits of several words in one, and those of a row place by place.
use Rattle.std.specs.Prelude.{◌≡◌, List, ℕ, zero, suc, ◌+◌, ◌-◌, ◌<◌, get_or}
use Rattle.std.specs.Int.Bits.{bit_and, bit_or}

-- f 0 | f 1 | .. | f (n - 1)
unfoldable pub gather : ℕ → (ℕ → ℕ) → ℕ
gather zero f = 0
gather (suc n) f = bit_or (gather n f) (f n)

-- the bits of w that are not bits of a
abbrev pub outside : ℕ → ℕ → ℕ
outside w a = bit_and w (65535 - a)

-- after: the bits found before, and those of a row of sixteen words that are not bits of the allowed words
pub record RowGathered (ws : List ℕ) (at : ℕ) (may before after : List ℕ) : Type 0 where
  pub each : (i : ℕ) → i < 16 → get_or after i 0 ≡ bit_or (get_or before i 0) (outside (get_or ws (at + i) 0) (get_or may i 0))
