-- Active roles follow the reach of the held ones (document 02, Card 2): 'An active role is dropped in the call that breaks its reach'.
use Rattle.std.specs.Prelude.{Bool, ◌&&◌, ℕ}
use Rattle.bits.specs.Below.{any_below}
use Rattle.mtas.specs.Fact.{Fact, enrolled, trusts, user, role, permission, public, holds, granted, attached, opened, active}
use Rattle.mtas.specs.State.{State}
use Rattle.mtas.specs.Hierarchy.{◌#◌, Graph, reaches}
use Rattle.mtas.specs.Law.{attachments, Authorized}

-- the test for Authorized: a role that i@u holds reaches i#r
unfoldable pub authorized : State → Graph → ℕ → ℕ → ℕ → Bool
authorized st below i u r = any_below 16 (λ h. st.stands (holds i u h) && reaches below (i # h) (i # r))

-- an active role stays where its user is authorized for it through the attachments that stand; every other fact stays as it is
abbrev settled : State → Fact → Bool
settled st (enrolled i) = st.stands (enrolled i)
settled st (trusts i j) = st.stands (trusts i j)
settled st (user i u) = st.stands (user i u)
settled st (role i r) = st.stands (role i r)
settled st (permission i p) = st.stands (permission i p)
settled st (public i r) = st.stands (public i r)
settled st (holds i u r) = st.stands (holds i u r)
settled st (granted j p i r) = st.stands (granted j p i r)
settled st (attached j q i r) = st.stands (attached j q i r)
settled st (opened i s u) = st.stands (opened i s u)
settled st (active i s u r) = st.stands (active i s u r) && authorized st (attachments st) i u r

unfoldable pub settle : State → State
settle st = record { stands = settled st }

-- what settling drops: an active role that no held role reaches
pub data Unreached (st : State) : Fact → Type 0 where
  beyond : {i s u r : ℕ} → (Authorized st (attachments st) i u r → ⊥) → Unreached st (active i s u r)
