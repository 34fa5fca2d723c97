-- The two tables of what words say, the cell of a word and the place of a fact, undo each other.
use mathlib.Core.Path.{◌≡◌, refl}
use Prim.Native.Nat.{ℕ, ◌<◌}
use native.Mathlib.Omega.{arith}
use mathlib.Core.Logic.{◌↔◌}
use Rattle.mtas.specs.Fact.{Fact, enrolled, trusts, user, role, permission, public, holds, granted, attached, opened, active, numbers, Below16}
use Rattle.mtas.specs.Needs.{needs}
use Rattle.mtas.specs.Law.{In, here}
use Rattle.mtas.specs.Layout.{Word, enrolled_issuers, trusted, users, roles, permissions, held, holders, seniors, session_user, active_roles, public_roles, Cell, sixteen, its_user, in_session, cell, Place, bit_of, user_in, bit_while, place}
use Rattle.mtas.proofs.Address.{word_numbers}

-- the cell of the place's word says f there; what is said of a session's user needs that the session is open for it
abbrev pub Says : Place → Fact → Type 0
Says (bit_of w n) f = (g : ℕ → Fact) × (cell w ≡ sixteen g) × (f ≡ g n)
Says (user_in i s u) f = f ≡ opened i s u
Says (bit_while i s u w n) f = (g : ℕ → ℕ → Fact) × (cell w ≡ in_session i s g) × (f ≡ g u n) × In (opened i s u) (needs f)

pub said-there : (f : Fact) → Says (place f) f
said-there (enrolled i) = (enrolled, refl, refl)
said-there (trusts i j) = (trusts i, refl, refl)
said-there (user i u) = (user i, refl, refl)
said-there (role i r) = (role i, refl, refl)
said-there (permission i p) = (permission i, refl, refl)
said-there (public i r) = (public i, refl, refl)
said-there (holds i u r) = (holds i u, refl, refl)
said-there (granted j p i r) = (granted j p i, refl, refl)
said-there (attached j q i r) = (attached j q i, refl, refl)
said-there (opened i s u) = refl
said-there (active i s u r) = (active i s, refl, refl, here)

-- what the word w says has its place there
abbrev pub Placed : Word → Cell → Type 0
Placed w (sixteen f) = (n : ℕ) → place (f n) ≡ bit_of w n
Placed w (its_user i s) = w ≡ session_user i s
Placed w (in_session i s f) = ((u n : ℕ) → place (f u n) ≡ bit_while i s u w n) × (Below16 (word_numbers w) → (i < 16) × (s < 16) × (w ≡ active_roles i s))

pub placed : (w : Word) → Placed w (cell w)
placed enrolled_issuers = λ n. refl
placed (trusted i) = λ n. refl
placed (users i) = λ n. refl
placed (roles i) = λ n. refl
placed (permissions i) = λ n. refl
placed (held i u) = λ n. refl
placed (holders j p i) = λ n. refl
placed (seniors j q i) = λ n. refl
placed (session_user i s) = refl
placed (active_roles i s) = (λ u n. refl, λ h. (omega arith, omega arith, refl))
placed (public_roles i) = λ n. refl

-- the numbers of a place are below 16
abbrev pub PlaceNumbered : Place → Type 0
PlaceNumbered (bit_of w n) = Below16 (word_numbers w) × (n < 16)
PlaceNumbered (user_in i s u) = (i < 16) × (s < 16) × (u < 16)
PlaceNumbered (bit_while i s u w n) = (i < 16) × (s < 16) × (u < 16) × Below16 (word_numbers w) × (n < 16)

pub place-numbered : (f : Fact) → Below16 (numbers f) ↔ PlaceNumbered (place f)
place-numbered (enrolled i) = (λ h. omega arith, λ h. omega arith)
place-numbered (trusts i j) = (λ h. omega arith, λ h. omega arith)
place-numbered (user i u) = (λ h. omega arith, λ h. omega arith)
place-numbered (role i r) = (λ h. omega arith, λ h. omega arith)
place-numbered (permission i p) = (λ h. omega arith, λ h. omega arith)
place-numbered (public i r) = (λ h. omega arith, λ h. omega arith)
place-numbered (holds i u r) = (λ h. omega arith, λ h. omega arith)
place-numbered (granted j p i r) = (λ h. omega arith, λ h. omega arith)
place-numbered (attached j q i r) = (λ h. omega arith, λ h. omega arith)
place-numbered (opened i s u) = (λ h. omega arith, λ h. omega arith)
place-numbered (active i s u r) = (λ h. omega arith, λ h. omega arith)
