-- Reaching in a role hierarchy, over any graph of roles (document 01: 'Every role reaches itself and whatever is attached below a role it reaches').
use Rattle.std.specs.Prelude.{◌≡◌, Bool, true, false, ◌&&◌, ℕ, zero, suc, ◌/◌, ◌%◌, eqb}
use Rattle.bits.specs.Below.{any_below}

-- the role i#r: its issuer, and its number there
pub record Role : Type 0 where
  pub issuer : ℕ
  pub number : ℕ

infix 60 ◌#◌
abbrev pub ◌#◌ : ℕ → ℕ → Role
i # r = record { issuer = i; number = r }

-- whether the second role is directly below the first
abbrev pub Graph : Type 0
Graph = Role → Role → Bool

pub data Reaches (below : Graph) (a : Role) : Role → Type 0 where
  itself : Reaches below a a
  down : {b c : Role} → Reaches below a b → below b c ≡ true → Reaches below a c

-- no role reaches itself by one or more links
unfoldable pub Acyclic : Graph → Type 0
Acyclic below = (a b : Role) → below a b ≡ true → Reaches below b a → ⊥

-- the n-th of the 256 roles
abbrev pub nth_role : ℕ → Role
nth_role n = (n / 16) # (n % 16)

abbrev pub same_role : Role → Role → Bool
same_role a b = eqb a.issuer b.issuer && eqb a.number b.number

-- a reaches c by at most n links, found upwards from c
unfoldable pub within : Graph → ℕ → Role → Role → Bool
within below zero a c = same_role a c
within below (suc n) a c = elim (same_role a c) [ true ↦ true | false ↦ any_below 256 (λ k. below (nth_role k) c && within below n a (nth_role k)) ]

-- among 256 roles no path needs more links
abbrev pub most_links : ℕ
most_links = 256

-- the test for Reaches
abbrev pub reaches : Graph → Role → Role → Bool
reaches below a b = within below most_links a b
