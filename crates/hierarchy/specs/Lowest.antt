-- The lowest role of a set that one of an issuer's roles reaches.
use Rattle.std.specs.Prelude.{◌≡◌, Bool, true, ◌&&◌, ◌||◌, List, ℕ, ◌<◌, Option, Some, None}
use Rattle.std.proofs.Math.Option as model
use Rattle.bits.specs.Below.{any_below}
use Rattle.bits.specs.Bit.{bit}
use Rattle.mtas.specs.Hierarchy.{Role, ◌#◌, Graph, reaches}
use Rattle.hierarchy.specs.Links.{among}
use Rattle.hierarchy.specs.declared.lowest.Role as code

-- the direct seniors of every role of the set are in it, and so all that reaches one of it
pub record Closed (below : Graph) (set : List ℕ) : Type 0 where
  pub seniors : (a b : Role) → b.issuer < 16 → b.number < 16 → among set b ≡ true → below a b ≡ true → among set a ≡ true

-- the set before, with all that reaches j#q
pub record WithAbove (below : Graph) (j q : ℕ) (before after : List ℕ) : Type 0 where
  pub closed : Closed below after
  pub each : (a : Role) → a.issuer < 16 → a.number < 16 → among after a ≡ among before a || reaches below a (j # q)

-- a role of issuer i that is a bit of the word reaches b
abbrev pub reached_by : Graph → ℕ → ℕ → Role → Bool
reached_by below i word b = any_below 16 (λ r. bit word r && reaches below (i # r) b)

-- what the code found
abbrev pub found_of : Option code.Role → model.Option Role
found_of (Some r) = model.some (r.issuer # r.number)
found_of None = model.none
