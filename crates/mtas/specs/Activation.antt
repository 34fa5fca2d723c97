-- Kind 19 (document 02, Card 2): 'Activation now takes any role of the user's own issuer that a held role reaches', and refusal 11 reads so.
use Rattle.std.specs.Prelude.{◌≡◌, ◌↔◌, true, false, List, [], ◌∷◌, ℕ, ◌<◌}
use Rattle.mtas.specs.Fact.{enrolled, role, holds, attached, opened, active, Below16}
use Rattle.mtas.specs.State.{State}
use Rattle.mtas.specs.Law.{attachments, Authorized}
use Rattle.mtas.specs.Call.{AddActiveRole}
use Rattle.mtas.specs.Layout.{view}
use Rattle.mtas.specs.LawTest.{LawfulWords}
use Rattle.mtas.specs.Record.{request, decode}
use Rattle.mtas.specs.Monitor.{monitor}

-- all else is in order: the role is there, and c/s is open for c@u
pub record MayActivate (st : State) (c s u r : ℕ) : Type 0 where
  pub is_issuer : c < 16
  pub is_enrolled : st.stands (enrolled c) ≡ true
  pub small : Below16 (s ∷ r ∷ [])
  pub is_there : st.stands (role c r) ≡ true
  pub is_open : st.stands (opened c s u) ≡ true

pub record Activation : Type 0 where
  -- who holds a senior is authorized for the roles directly below it
  pub junior : (st : State) (i u h r : ℕ) → st.stands (holds i u h) ≡ true → st.stands (attached i r i h) ≡ true → Authorized st (attachments st) i u r
  -- refusal 11 is given exactly where the session's user isn't authorized for the role
  pub unauthorized_iff : (ws b : List ℕ) (c s r : ℕ) → LawfulWords ws → decode b ≡ request c (AddActiveRole s r)
      → ((monitor ws b).answer.refusal ≡ 11) ↔ ((u : ℕ) × MayActivate (view ws) c s u r × (Authorized (view ws) (attachments (view ws)) c u r → ⊥))
  pub accepted_iff : (ws b : List ℕ) (c s r : ℕ) → LawfulWords ws → decode b ≡ request c (AddActiveRole s r)
      → ((monitor ws b).answer.refusal ≡ 0) ↔ ((u : ℕ) × MayActivate (view ws) c s u r × Authorized (view ws) (attachments (view ws)) c u r × ((view ws).stands (active c s u r) ≡ false))
