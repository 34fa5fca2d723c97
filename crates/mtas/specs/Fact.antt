-- What the portal knows, one fact at a time (document 01, 'Who owns what'; MTAS, Definition 2).
-- An estate is an issuer. Issuers are numbered 0 to 15, and so are the users, roles, permissions and sessions of each.
use Rattle.std.specs.Prelude.{List, [], ◌∷◌, Bool, true, false, ℕ, ◌<◌, ltb}
use Rattle.std.proofs.Math.Bool.{decide}
use Rattle.std.proofs.Math.Decide.{ℕ_discrete}

-- The two numbers of 0@3, 0#2, 0%5 and 0/4 are arguments here: an owner and a number within it.
pub data Fact : Type 0 where
  enrolled : ℕ → Fact  -- i: the issuer i is enrolled
  trusts : ℕ → ℕ → Fact  -- i j: trust of i in j, so that j may grant its permissions to i's roles and attach its roles below them
  user role permission : ℕ → ℕ → Fact  -- i u, i r, i p: i@u, i#r, i%p is present
  public : ℕ → ℕ → Fact  -- i r: i#r is public, so that i exposes it to its trustees (trustor-centric public role, MTAS, Definition 4)
  holds : ℕ → ℕ → ℕ → Fact  -- i u r: i@u holds i#r, a role of its own issuer (user assignment)
  granted : ℕ → ℕ → ℕ → ℕ → Fact  -- j p i r: j%p is granted to i#r, so that i#r holds it (permission assignment)
  attached : ℕ → ℕ → ℕ → ℕ → Fact  -- j q i r: j#q is attached below i#r, its direct senior (role inheritance)
  opened : ℕ → ℕ → ℕ → Fact  -- i s u: the session i/s is open for its one user i@u
  active : ℕ → ℕ → ℕ → ℕ → Fact  -- i s u r: in the session i/s, open for i@u, the role i#r is active
  deriving Discrete as Fact-discrete

unfoldable pub same : Fact → Fact → Bool
unfolding decide ℕ_discrete
same f g = decide (Fact-discrete ℕ_discrete f g)

abbrev pub numbers : Fact → List ℕ
numbers (enrolled i) = i ∷ []
numbers (trusts i j) = i ∷ j ∷ []
numbers (user i u) = i ∷ u ∷ []
numbers (role i r) = i ∷ r ∷ []
numbers (permission i p) = i ∷ p ∷ []
numbers (public i r) = i ∷ r ∷ []
numbers (holds i u r) = i ∷ u ∷ r ∷ []
numbers (granted j p i r) = j ∷ p ∷ i ∷ r ∷ []
numbers (attached j q i r) = j ∷ q ∷ i ∷ r ∷ []
numbers (opened i s u) = i ∷ s ∷ u ∷ []
numbers (active i s u r) = i ∷ s ∷ u ∷ r ∷ []

-- some number of the list is above 15
abbrev pub above_15 : List ℕ → Bool
above_15 [] = false
above_15 (n ∷ l) = elim (ltb n 16) [ true ↦ above_15 l | false ↦ true ]

abbrev pub Below16 : List ℕ → Type 0
Below16 [] = Unit
Below16 (n ∷ l) = (n < 16) × Below16 l
