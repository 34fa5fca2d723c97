-- Places of words side by side, and of words a step apart, by tests.
use Rattle.std.specs.Prelude.{Bool, ◌&&◌, ℕ, ◌+◌, ◌*◌, eqb, leb, ltb}
use Rattle.bits.specs.Below.{any_below}

-- k is from + t for a t below n
unfoldable pub in_run : ℕ → ℕ → ℕ → Bool
in_run from n k = leb from k && ltb k (from + n)

-- k is from + step * t for a t below n
unfoldable pub in_stride : ℕ → ℕ → ℕ → ℕ → Bool
in_stride step from n k = any_below n (λ t. eqb k (from + step * t))
