-- The words of a state by their numbers (document 01, 'The state', and Card 1): the facts that they say, and in whose name they stand.
use Rattle.std.specs.Prelude.{◌≡◌, ◌&&◌, List, ℕ, ◌+◌, ◌*◌, ◌<◌, eqb, get_or}
use Rattle.bits.specs.Bit.{bit}
use Rattle.mtas.specs.Fact.{Fact, enrolled, trusts, user, role, permission, public, holds, granted, attached, opened, active}
use Rattle.mtas.specs.Layout.{state_length, word_at, owner, view}

-- bit n of word k says whether the fact stands
abbrev SaidAt : ℕ → ℕ → Fact → Type 0
SaidAt k n f = (ws : List ℕ) → (view ws).stands f ≡ bit (get_or ws k 0) n

-- word k stands in i's name
abbrev Owned : ℕ → ℕ → Type 0
Owned k i = owner (word_at k) ≡ i

abbrev session : ℕ → ℕ → ℕ
session i s = 8513 + 2 * (16 * i + s)

pub record Places : Type 0 where
  pub at_0 : (i : ℕ) → i < 16 → SaidAt 0 i (enrolled i)
  pub from_1 : (i j : ℕ) → i < 16 → j < 16 → SaidAt (1 + i) j (trusts i j) × Owned (1 + i) i
  pub from_17 : (i u : ℕ) → i < 16 → u < 16 → SaidAt (17 + i) u (user i u) × Owned (17 + i) i
  pub from_33 : (i r : ℕ) → i < 16 → r < 16 → SaidAt (33 + i) r (role i r) × Owned (33 + i) i
  pub from_49 : (i p : ℕ) → i < 16 → p < 16 → SaidAt (49 + i) p (permission i p) × Owned (49 + i) i
  pub from_65 : (i u r : ℕ) → i < 16 → u < 16 → r < 16 → SaidAt (65 + 16 * i + u) r (holds i u r) × Owned (65 + 16 * i + u) i
  pub from_321 : (j p i r : ℕ) → j < 16 → p < 16 → i < 16 → r < 16 → SaidAt (321 + 16 * (16 * j + p) + i) r (granted j p i r) × Owned (321 + 16 * (16 * j + p) + i) j
  pub from_4417 : (j q i r : ℕ) → j < 16 → q < 16 → i < 16 → r < 16 → SaidAt (4417 + 16 * (16 * j + q) + i) r (attached j q i r) × Owned (4417 + 16 * (16 * j + q) + i) j
  -- two words a session: its user, and that user's active roles
  pub from_8513 : (i s u : ℕ) → i < 16 → s < 16 → u < 16 → ((ws : List ℕ) → (view ws).stands (opened i s u) ≡ eqb (get_or ws (session i s) 0) u) × Owned (session i s) i
  pub from_8514 : (i s u r : ℕ) → i < 16 → s < 16 → u < 16 → r < 16
      → ((ws : List ℕ) → (view ws).stands (active i s u r) ≡ eqb (get_or ws (session i s) 0) u && bit (get_or ws (session i s + 1) 0) r) × Owned (session i s + 1) i
  -- 'sixteen words at its end (9,041), public roles per issuer'
  pub from_9025 : (i r : ℕ) → i < 16 → r < 16 → SaidAt (9025 + i) r (public i r) × Owned (9025 + i) i
  pub ends_at : state_length ≡ 9041
