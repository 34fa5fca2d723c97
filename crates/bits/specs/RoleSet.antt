-- Sets of roles: sixteen words, one for each issuer, bit r for role r (document 01, 'Who owns what').
use Rattle.std.specs.Prelude.{◌≡◌, Bool, ◌&&◌, ◌||◌, List, ℕ, ◌+◌, ◌/◌, ◌%◌, ◌<◌, eqb, get_or}
use Rattle.bits.specs.Bit.{bit}
use Rattle.bits.specs.Below.{tally}

-- role r of issuer i is in the set
abbrev pub in_set : List ℕ → ℕ → ℕ → Bool
in_set words i r = bit (get_or words i 0) r

-- how many roles are in the set
abbrev pub size : List ℕ → ℕ
size words = tally 256 (λ k. in_set words (k / 16) (k % 16))

-- the set that sixteen words are, from a place on
pub record Row (state : List ℕ) (at : ℕ) (set : List ℕ) : Type 0 where
  pub each : (i : ℕ) → i < 16 → get_or set i 0 ≡ get_or state (at + i) 0

-- after: the set before with role r of issuer i
pub record Added (i r : ℕ) (before after : List ℕ) : Type 0 where
  pub each : (j q : ℕ) → in_set after j q ≡ in_set before j q || (eqb i j && eqb r q)

-- both: the roles of either set
pub record Union (left right both : List ℕ) : Type 0 where
  pub each : (j q : ℕ) → in_set both j q ≡ in_set left j q || in_set right j q
