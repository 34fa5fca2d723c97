-- Chains of trust (document 02, Card 6): 'An estate from which no chain of trust leads to the owner can't move the press'.
use Rattle.std.specs.Prelude.{◌≡◌, ◌↔◌, true, ℕ}
use Rattle.mtas.specs.Fact.{trusts}
use Rattle.mtas.specs.State.{State}
use Rattle.mtas.specs.Hierarchy.{Role, Reaches}
use Rattle.mtas.specs.Law.{attachments, Lawful}
use Rattle.mtas.specs.Decision.{MayUsePermission}

-- from the issuer i to itself, and from whomever a chain leads to on to those whom that issuer trusts
pub data Chain (st : State) (i : ℕ) : ℕ → Type 0 where
  empty_chain : Chain st i i
  onward : {j k : ℕ} → Chain st i j → st.stands (trusts j k) ≡ true → Chain st i k

-- a set of issuers that trusts nobody outside it
abbrev pub Closed : State → (ℕ → Type 0) → Type 0
Closed st member = (j k : ℕ) → member j → st.stands (trusts j k) ≡ true → member k

pub record Chains : Type 1 where
  -- a chain leads to those who are in every set that has i and trusts nobody outside it, and to nobody else
  pub chain_iff : (st : State) (i j : ℕ) → Chain st i j ↔ ((member : ℕ → Type 0) → Closed st member → member i → member j)
  -- what a role reaches belongs to issuers that a chain leads to from its own
  pub reached : (st : State) → Lawful st → (a b : Role) → Reaches (attachments st) a b → Chain st a.issuer b.issuer
  -- where a session may use a permission, a chain leads from its issuer to the permission's
  pub used : (st : State) → Lawful st → (j p i s : ℕ) → MayUsePermission st j p i s → Chain st i j
