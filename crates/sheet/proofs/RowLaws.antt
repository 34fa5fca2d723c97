-- A row's first field, and the row behind it.
use mathlib.Core.Path.{◌≡◌, refl, sym, subst}
use mathlib.Core.List.{List, [], ◌∷◌, ◌++◌}
use Prim.Native.Nat.{ℕ, ◌<◌}
use native.Mathlib.Omega.{arith}
use lib.ListN.{length}
use Rattle.sheet.specs.Rfc4180.{COMMA, Field, Row}
use Rattle.sheet.specs.Grammar.{RowLaws}

pub row_laws : RowLaws
row_laws = record { some = some; one = λ b t. (alone, Row.last_field); more = λ b t u ts. (first, λ (d, c, q, f, w). subst (λ y. Row y (t ∷ u ∷ ts)) (sym q) (Row.one_more f w)) }
  where
    some : {b : List ℕ} {ts : List (List ℕ)} → Row b ts → 0 < length ts
    some (Row.last_field f) = omega arith
    some (Row.one_more f w) = omega arith

    alone : {b t : List ℕ} → Row b (t ∷ []) → Field b t
    alone (Row.last_field f) = f
    alone {t = t} (Row.one_more {b = b} {c = c} _ w) = elim w [ ]

    first : {b t u : List ℕ} {ts : List (List ℕ)} → Row b (t ∷ u ∷ ts) → (d : List ℕ) × (c : List ℕ) × (b ≡ d ++ (COMMA ∷ c)) × Field d t × Row c (u ∷ ts)
    first (Row.one_more {b = d} {c = c} f w) = (d, c, refl, f, w)
