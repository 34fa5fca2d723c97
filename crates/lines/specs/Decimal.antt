-- A number in decimal, as ASCII bytes, the most significant digit first.
use Rattle.std.specs.Prelude.{◌≡◌, true, false, List, [], ◌∷◌, ◌++◌, ℕ, zero, suc, ◌+◌, ◌-◌, ◌*◌, ◌/◌, ◌%◌, ◌≤◌, ◌<◌, ltb, length, get_or}

-- the digits of n; k calls are enough where n is below k
unfoldable pub digits : ℕ → ℕ → List ℕ
digits zero n = []
digits (suc k) n = elim (ltb n 10) [ true ↦ (48 + n) ∷ [] | false ↦ digits k (n / 10) ++ ((48 + n % 10) ∷ []) ]

unfoldable pub decimal : ℕ → List ℕ
decimal n = digits (suc n) n

-- the number that digits spell behind the number a
unfoldable pub value_from : ℕ → List ℕ → ℕ
value_from a [] = a
value_from a (d ∷ l) = value_from (10 * a + (d - 48)) l

abbrev pub value : List ℕ → ℕ
value l = value_from 0 l

-- bytes that spell n in decimal
pub record Spells (n : ℕ) (l : List ℕ) : Type 0 where
  pub worth : value l ≡ n
  pub digit : (i : ℕ) → i < length l → (48 ≤ get_or l i 0) × (get_or l i 0 ≤ 57)
  pub some : 0 < length l
  pub leading : get_or l 0 0 ≡ 48 → (n ≡ 0) × (length l ≡ 1)  -- only 0 begins with a zero
