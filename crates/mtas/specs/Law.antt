-- The lawful states (document 01, 'Lawful means'; document 02, Card 2; what Card 1 adds is in Needs).
use Rattle.std.specs.Prelude.{◌≡◌, List, ◌∷◌, Bool, true, ℕ}
use Rattle.mtas.specs.Fact.{Fact, holds, granted, attached, opened, active, numbers, Below16}
use Rattle.mtas.specs.Needs.{needs}
use Rattle.mtas.specs.State.{State}
use Rattle.mtas.specs.Hierarchy.{Role, ◌#◌, Graph, Reaches, Acyclic}

pub data In (f : Fact) : List Fact → Type 0 where
  here : {l : List Fact} → In f (f ∷ l)
  there : {g : Fact} {l : List Fact} → In f l → In f (g ∷ l)

-- the attachments that stand: is b directly below a
abbrev pub attachments : State → Graph
attachments st a b = st.stands (attached b.issuer b.number a.issuer a.number)

-- the roles that hold j%p
abbrev pub holders_of : State → ℕ → ℕ → Role → Bool
holders_of st j p a = st.stands (granted j p a.issuer a.number)

-- i@u is authorized for i#r: a role that it holds reaches i#r in a graph (NIST RBAC, authorized users in a role hierarchy)
pub record Authorized (st : State) (below : Graph) (i u r : ℕ) : Type 0 where
  pub through : ℕ
  pub is_held : st.stands (holds i u through) ≡ true
  pub is_reached : Reaches below (i # through) (i # r)

pub record Lawful (st : State) : Type 0 where
  -- what stands has what it needs
  pub supported : (f g : Fact) → st.stands f ≡ true → In g (needs f) → st.stands g ≡ true
  -- issuers, and what each owns, are numbered 0 to 15
  pub numbered : (f : Fact) → st.stands f ≡ true → Below16 (numbers f)
  -- 'A session has one user'
  pub one_user : (i s u v : ℕ) → st.stands (opened i s u) ≡ true → st.stands (opened i s v) ≡ true → u ≡ v
  -- 'no role reaches itself by one or more attachments'
  pub acyclic : Acyclic (attachments st)
  -- an active role is one 'that a held role reaches' (Card 2), through the attachments that stand
  pub reached : (i s u r : ℕ) → st.stands (active i s u r) ≡ true → Authorized st (attachments st) i u r
