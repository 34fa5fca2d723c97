-- Roles that are freed where all of their direct seniors are: none of them is on a circle.
use Rattle.std.specs.Prelude.{◌≡◌, true, cond, List, ℕ, ◌<◌, eqb, length, get_or}
use Rattle.bits.specs.Bit.{bit}
use Rattle.mtas.specs.Hierarchy.{Role, ◌#◌, Graph, Reaches, nth_role}
use Rattle.hierarchy.specs.Links.{among, Subset}

-- b is on no circle
abbrev pub Free : Graph → Role → Type 0
Free below b = (a : Role) → below a b ≡ true → Reaches below b a → ⊥

-- no role of the set is on a circle
abbrev pub AllFree : Graph → List ℕ → Type 0
AllFree below set = (b : Role) → b.issuer < 16 → b.number < 16 → among set b ≡ true → Free below b

-- all direct seniors of b are in the set
abbrev pub Due : Graph → List ℕ → Role → Type 0
Due below set b = (a : Role) → below a b ≡ true → among set a ≡ true

-- roles of issuer j that have no senior, as bits of a word
pub record TopsOf (below : Graph) (j word : ℕ) : Type 0 where
  pub each : (q : ℕ) → q < 16 → bit word q ≡ true → (a : Role) → below a (j # q) ≡ true → ⊥

-- more roles, none of them on a circle if none was before
pub record Freed (below : Graph) (before after : List ℕ) : Type 0 where
  pub kept : Subset before after
  pub free : AllFree below before → AllFree below after

-- a visit of the k-th role: if it was due, it is in the set afterwards
pub record Visited (below : Graph) (k : ℕ) (before after : List ℕ) : Type 0 where
  pub freed : Freed below before after
  pub settled : Due below before (nth_role k) → among after (nth_role k) ≡ true

-- a visit of every role
pub record VisitedAll (below : Graph) (before after : List ℕ) : Type 0 where
  pub freed : Freed below before after
  pub settled : (b : Role) → b.issuer < 16 → b.number < 16 → Due below before b → among after b ≡ true

-- roles freed until none outside the set is due
pub record Filled (below : Graph) (before after : List ℕ) : Type 0 where
  pub freed : Freed below before after
  pub closed : (b : Role) → b.issuer < 16 → b.number < 16 → Due below after b → among after b ≡ true

-- 65535 in the middle of thirty zeros
pub record Slide (words : List ℕ) : Type 0 where
  pub long : length words ≡ 31
  pub each : (n : ℕ) → n < 31 → get_or words n 0 ≡ cond (eqb n 15) 65535 0
