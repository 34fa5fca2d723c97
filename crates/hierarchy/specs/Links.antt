-- The attachment words as a graph (document 01, 'The state'), and the roles that reach one of a set in it.
use Rattle.std.specs.Prelude.{◌≡◌, Bool, true, false, List, [], ◌∷◌, ℕ, ◌+◌, ◌*◌, ◌<◌, get_or}
use Rattle.bits.specs.Bit.{bit}
use Rattle.bits.specs.RoleSet.{in_set}
use Rattle.mtas.specs.Fact.{above_15}
use Rattle.mtas.specs.Hierarchy.{Role, ◌#◌, Graph, Reaches, reaches}

-- b is directly below a. The row of b is sixteen words, one for each issuer of a senior; no role has a number above 15.
unfoldable pub linked : List ℕ → Graph
linked words a b =
    elim (above_15 (b.issuer ∷ b.number ∷ a.issuer ∷ a.number ∷ [])) [
      | true ↦ false
      | false ↦ bit (get_or words (16 * (16 * b.issuer + b.number) + a.issuer) 0) a.number
    ]

-- the role a is in the set
abbrev pub among : List ℕ → Role → Bool
among set a = in_set set a.issuer a.number

-- every role of the one set is in the other
pub record Subset (s t : List ℕ) : Type 0 where
  pub each : (a : Role) → a.issuer < 16 → a.number < 16 → among s a ≡ true → among t a ≡ true

-- every role is in the set
abbrev pub Full : List ℕ → Type 0
Full s = (a : Role) → a.issuer < 16 → a.number < 16 → among s a ≡ true

-- a reaches a role of the set
abbrev pub ReachesInto : Graph → List ℕ → Role → Type 0
ReachesInto below set a = (b : Role) × (b.issuer < 16) × (b.number < 16) × (among set b ≡ true) × Reaches below a b

-- the roles that reach one of a set: no others, and all of them
pub record Reaching (below : Graph) (set above : List ℕ) : Type 0 where
  pub sound : (a : Role) → a.issuer < 16 → a.number < 16 → among above a ≡ true → ReachesInto below set a
  pub complete : (a b : Role) → b.issuer < 16 → b.number < 16 → among set b ≡ true → Reaches below a b → among above a ≡ true

-- the roles that reach i#r
pub record ReachingOne (below : Graph) (i r : ℕ) (above : List ℕ) : Type 0 where
  pub each : (j q : ℕ) → j < 16 → q < 16 → in_set above j q ≡ reaches below (j # q) (i # r)
