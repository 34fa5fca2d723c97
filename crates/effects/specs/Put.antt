-- The words with what is said at a place.
use Rattle.std.specs.Prelude.{◌≡◌, List, Option, None, Some, ℕ, get_or, set}
use Rattle.bits.specs.Bit.{with_bit}
use Rattle.mtas.specs.Fact.{Fact}
use Rattle.facts.specs.declared.Place.{Place}
use Rattle.facts.specs.declared.Place.TheVariants.{Bit, Number, While}
use Rattle.facts.specs.Table.{place_of}

abbrev pub written : List ℕ → Place → List ℕ
written ws (Bit k n) = set ws k (with_bit (get_or ws k 0) n)
written ws (Number k u) = set ws k u
written ws (While k u m n) = set ws m (with_bit (get_or ws m 0) n)

-- a fact that is said nowhere isn't written
abbrev pub written_if : List ℕ → Option Place → List ℕ
written_if ws None = ws
written_if ws (Some p) = written ws p

-- vs: the words ws, with the fact f written at its place
pub record Put (f : Fact) (ws vs : List ℕ) : Type 0 where
  pub words : vs ≡ written_if ws (place_of f)
