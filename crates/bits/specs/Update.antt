-- Lists whose words are changed at some places, said at every place.
use Rattle.std.specs.Prelude.{◌≡◌, Bool, cond, List, ℕ, length, get_or}
use Rattle.std.specs.Int.Bits.{bit_and}

-- after: the list before, with the word x at each place k of S replaced by f k x
pub record Updated (S : ℕ → Bool) (f : ℕ → ℕ → ℕ) (before after : List ℕ) : Type 0 where
  pub len : length after ≡ length before
  pub each : (k : ℕ) → get_or after k 0 ≡ cond (S k) (f k (get_or before k 0)) (get_or before k 0)

-- after: the list before, with the word at each place of S masked
pub record Masked (S : ℕ → Bool) (mask : ℕ) (before after : List ℕ) : Type 0 where
  pub words : Updated S (λ k x. bit_and x mask) before after
