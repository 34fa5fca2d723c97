-- The caller that the program's argument names.
use Rattle.std.specs.Prelude.{◌≡◌, Option, Some, None, Bool, true, false, ◌&&◌, not, List, [], ◌∷◌, ℕ, ◌≤◌, ◌<◌, eqb, leb}
use Rattle.lines.specs.Decimal.{decimal}
use Rattle.sheet.specs.Reading.{number}

unfoldable pub all_digits : List ℕ → Bool
all_digits [] = true
all_digits (x ∷ t) = (leb 48 x && leb x 57) && all_digits t

-- digits, the first of several not 0
unfoldable pub is_decimal : List ℕ → Bool
is_decimal [] = false
is_decimal (x ∷ []) = all_digits (x ∷ [])
is_decimal (x ∷ y ∷ t) = not (eqb x 48) && all_digits (x ∷ y ∷ t)

pub data CallerNamed : Type 0 where
  a_caller : ℕ → CallerNamed
  no_caller : CallerNamed

-- a number 0 to 15, 16 for a greater one; another text names none
abbrev pub caller_in : List ℕ → CallerNamed
caller_in t = elim (is_decimal t) [ true ↦ a_caller (number t) | false ↦ no_caller ]

abbrev pub named_of : Option ℕ → CallerNamed
named_of (Some n) = a_caller n
named_of None = no_caller

-- every number names a caller: itself up to 15, and above it one that the converter turns down; no other text does
pub record CallerLaws : Type 0 where
  pub own : (n : ℕ) → n ≤ 15 → caller_in (decimal n) ≡ a_caller n
  pub above : (n : ℕ) → 15 < n → caller_in (decimal n) ≡ a_caller 16
  pub no_number : (t : List ℕ) → ((n : ℕ) → t ≡ decimal n → ⊥) → caller_in t ≡ no_caller
  -- what the code answers then
  pub number_told : (r : Option ℕ) (n : ℕ) → named_of r ≡ a_caller n → r ≡ Some n
  pub other_told : (r : Option ℕ) → named_of r ≡ no_caller → r ≡ None
