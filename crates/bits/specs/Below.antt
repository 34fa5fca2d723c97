-- Tests over the numbers below n, and lists given by their places. Each test stops where its answer is known, so closed cases compute.
use Rattle.std.specs.Prelude.{Bool, true, false, List, [], ◌∷◌, ℕ, zero, suc}
use Rattle.std.proofs.Math.Option.{Option, none, some}

-- some number below n passes
unfoldable pub any_below : ℕ → (ℕ → Bool) → Bool
any_below zero f = false
any_below (suc n) f = elim (f n) [ true ↦ true | false ↦ any_below n f ]

-- every number below n passes
unfoldable pub all_below : ℕ → (ℕ → Bool) → Bool
all_below zero f = true
all_below (suc n) f = elim (f n) [ true ↦ all_below n f | false ↦ false ]

-- the greatest number below n that passes, or d where none does
unfoldable pub find_below : ℕ → (ℕ → Bool) → ℕ → ℕ
find_below zero f d = d
find_below (suc n) f d = elim (f n) [ true ↦ n | false ↦ find_below n f d ]

-- the lowest number below n that passes
unfoldable pub lowest_below : ℕ → (ℕ → Bool) → Option ℕ
lowest_below zero f = none
lowest_below (suc n) f = elim (lowest_below n f) [ some k ↦ some k | none ↦ elim (f n) [ true ↦ some n | false ↦ none ] ]

-- how many numbers below n pass
unfoldable pub tally : ℕ → (ℕ → Bool) → ℕ
tally zero f = 0
tally (suc n) f = elim (f n) [ true ↦ suc (tally n f) | false ↦ tally n f ]

-- the list of n numbers with f k at place k
unfoldable pub tabulate : ℕ → (ℕ → ℕ) → List ℕ
tabulate zero f = []
tabulate (suc n) f = f 0 ∷ tabulate n (λ k. f (suc k))
