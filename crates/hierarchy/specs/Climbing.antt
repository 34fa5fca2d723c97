-- A walk upwards: the roles seen, and those whose direct seniors are seen too.
use Rattle.std.specs.Prelude.{◌≡◌, true, List, ℕ, ◌<◌}
use Rattle.mtas.specs.Hierarchy.{Role, Graph}
use Rattle.hierarchy.specs.Links.{among, Subset, ReachesInto}

-- every role of the set reaches one of the other
abbrev pub AllReach : Graph → List ℕ → List ℕ → Type 0
AllReach below from set = (a : Role) → a.issuer < 16 → a.number < 16 → among set a ≡ true → ReachesInto below from a

-- a walk from a set, on its way
pub record Climbing (below : Graph) (from seen done : List ℕ) : Type 0 where
  pub begun : Subset from seen
  pub sound : AllReach below from seen
  pub closed : (a b : Role) → b.issuer < 16 → b.number < 16 → among done b ≡ true → below a b ≡ true → among seen a ≡ true
