-- The words of the state and their addresses: address and word_at undo each other.
use mathlib.Core.Path.{◌≡◌, refl, ap, ap₂, ◌∙◌}
use mathlib.Core.List.{List, [], ◌∷◌}
use mathlib.Core.Bool.{Bool, true, false}
use Prim.Native.Nat.{ℕ, zero, suc, ◌≤◌, ◌<◌, ◌-◌, ◌%◌}
use native.Mathlib.Omega.{arith}
use lib.Dec.{ltb, eqb}
use borrow.Author.Tests.{ltb-true, ltb-false, eqb-true, eqb-false, lt-ltb, le-ltb}
use Rattle.mtas.specs.Fact.{Below16}
use Rattle.mtas.specs.Layout.{Word, enrolled_issuers, trusted, users, roles, permissions, held, holders, seniors, session_user, active_roles, public_roles, trusted_at, users_at, roles_at, permissions_at, held_at, holders_at, seniors_at, sessions_at, public_at, state_length, address, Region, regions, word_in, word_at}

ruleset tests = (arith, ltb-true, ltb-false, eqb-true, eqb-false)

abbrev pub word_numbers : Word → List ℕ
word_numbers enrolled_issuers = []
word_numbers (trusted i) = i ∷ []
word_numbers (users i) = i ∷ []
word_numbers (roles i) = i ∷ []
word_numbers (permissions i) = i ∷ []
word_numbers (held i u) = i ∷ u ∷ []
word_numbers (holders j p i) = j ∷ p ∷ i ∷ []
word_numbers (seniors j q i) = j ∷ q ∷ i ∷ []
word_numbers (session_user i s) = i ∷ s ∷ []
word_numbers (active_roles i s) = i ∷ s ∷ []
word_numbers (public_roles i) = i ∷ []

pub address_below : (w : Word) → Below16 (word_numbers w) → address w < state_length
address_below enrolled_issuers h = omega arith
address_below (trusted i) h = omega arith
address_below (users i) h = omega arith
address_below (roles i) h = omega arith
address_below (permissions i) h = omega arith
address_below (held i u) h = omega arith
address_below (holders j p i) h = omega arith
address_below (seniors j q i) h = omega arith
address_below (session_user i s) h = omega arith
address_below (active_roles i s) h = omega arith
address_below (public_roles i) h = omega arith

-- the first n regions begin at k or before it, and the next one doesn't
abbrev Begun : ℕ → List Region → ℕ → Type 0
Begun zero [] k = Unit
Begun zero (r ∷ l) k = k < r.from
Begun (suc n) [] k = Unit
Begun (suc n) (r ∷ l) k = (r.from ≤ k) × Begun n l k

-- the word at k in the n-th region
abbrev nth_word : ℕ → List Region → Word → ℕ → Word
nth_word n [] w k = w
nth_word zero (r ∷ l) w k = w
nth_word (suc n) (r ∷ l) w k = nth_word n l (r.word (k - r.from)) k

found : (n : ℕ) (l : List Region) (w : Word) (k : ℕ) → Begun n l k → word_in l w k ≡ nth_word n l w k
unfolding word_in
found n [] w k h = refl
found zero (r ∷ l) w k h = rw (lt-ltb k r.from h, word_in)
found (suc n) (r ∷ l) w k h = rw (le-ltb k r.from h.0, word_in) (found n l (r.word (k - r.from)) k h.1)

ap₃ : (f : ℕ → ℕ → ℕ → Word) {a b c x y z : ℕ} → a ≡ x → b ≡ y → c ≡ z → f a b c ≡ f x y z
ap₃ f p q r = λ t. f (p t) (q t) (r t)

-- both ways that a test can turn out
either : (P : Word → Type 0) (t : Bool) {a b : Word} → (t ≡ true → P a) → (t ≡ false → P b) → P (elim t as (λ _. Word) [ true ↦ a | false ↦ b ])
either P true f g = f refl
either P false f g = g refl

-- the region of each word
pub word_at-address : (w : Word) → Below16 (word_numbers w) → word_at (address w) ≡ w
unfolding word_at
word_at-address enrolled_issuers h = found 0 regions enrolled_issuers _ (omega arith)
word_at-address (trusted i) h = found 1 regions enrolled_issuers _ (omega arith) ∙ ap trusted (omega arith)
word_at-address (users i) h = found 2 regions enrolled_issuers _ (omega arith) ∙ ap users (omega arith)
word_at-address (roles i) h = found 3 regions enrolled_issuers _ (omega arith) ∙ ap roles (omega arith)
word_at-address (permissions i) h = found 4 regions enrolled_issuers _ (omega arith) ∙ ap permissions (omega arith)
word_at-address (held i u) h = found 5 regions enrolled_issuers _ (omega arith) ∙ ap₂ held (omega arith) (omega arith)
word_at-address (holders j p i) h = found 6 regions enrolled_issuers _ (omega arith) ∙ ap₃ holders (omega arith) (omega arith) (omega arith)
word_at-address (seniors j q i) h = found 7 regions enrolled_issuers _ (omega arith) ∙ ap₃ seniors (omega arith) (omega arith) (omega arith)
word_at-address (session_user i s) h =
    found 8 regions enrolled_issuers _ (omega arith)
    ∙ either (λ w. w ≡ session_user i s) (eqb ((address (session_user i s) - sessions_at) % 2) 0) (λ e. ap₂ session_user (omega arith) (omega arith)) (λ e. absurd (omega tests))
word_at-address (active_roles i s) h =
    found 8 regions enrolled_issuers _ (omega arith)
    ∙ either (λ w. w ≡ active_roles i s) (eqb ((address (active_roles i s) - sessions_at) % 2) 0) (λ e. absurd (omega tests)) (λ e. ap₂ active_roles (omega arith) (omega arith))
word_at-address (public_roles i) h = found 9 regions enrolled_issuers _ (omega arith) ∙ ap public_roles (omega arith)

-- w has the address k, and numbers below 16
record At (k : ℕ) (w : Word) : Type 0 where
  its_address : address w ≡ k
  numbered : Below16 (word_numbers w)

-- range by range
located : (k : ℕ) → k < state_length → At k (word_at k)
unfolding word_at word_in
located k l =
    either (At k) (ltb k trusted_at) (omega tests) λ h. either (At k) (ltb k users_at) (omega tests) λ h.
    either (At k) (ltb k roles_at) (omega tests) λ h. either (At k) (ltb k permissions_at) (omega tests) λ h.
    either (At k) (ltb k held_at) (omega tests) λ h. either (At k) (ltb k holders_at) (omega tests) λ h.
    either (At k) (ltb k seniors_at) (omega tests) λ h. either (At k) (ltb k sessions_at) (omega tests) λ h.
    either (At k) (ltb k public_at) (λ t. either (At k) (eqb ((k - sessions_at) % 2) 0) (omega tests) (omega tests)) (omega tests)

pub address-word_at : (k : ℕ) → k < state_length → address (word_at k) ≡ k
address-word_at k l = (located k l).its_address

pub word_at-numbered : (k : ℕ) → k < state_length → Below16 (word_numbers (word_at k))
word_at-numbered k l = (located k l).numbered
