-- 'No refusal tells whether another issuer's user exists' (document 01), nor what it holds, opened or activated.
use Rattle.std.specs.Prelude.{◌≡◌, ◌≢◌, List, ℕ}
use Rattle.mtas.specs.Fact.{Fact, user, holds, opened, active}
use Rattle.mtas.specs.State.{State}
use Rattle.mtas.specs.Call.{Call}
use Rattle.mtas.specs.Layout.{view}
use Rattle.mtas.specs.LawTest.{LawfulWords}
use Rattle.mtas.specs.Record.{request, decode}
use Rattle.mtas.specs.Monitor.{monitor}

-- what is another issuer's own affair, and not the caller c's
pub data OthersAffair (c : ℕ) : Fact → Type 0 where
  its_users : {i u : ℕ} → i ≢ c → OthersAffair c (user i u)
  held_roles : {i u r : ℕ} → i ≢ c → OthersAffair c (holds i u r)
  its_sessions : {i s u : ℕ} → i ≢ c → OthersAffair c (opened i s u)
  active_roles : {i s u r : ℕ} → i ≢ c → OthersAffair c (active i s u r)

-- two states differ in nothing else
abbrev pub SameBut : ℕ → State → State → Type 0
SameBut c st st' = (f : Fact) → (OthersAffair c f → ⊥) → st.stands f ≡ st'.stands f

-- a record gets one refusal on lawful words that differ only in what is not its caller's affair
abbrev pub NothingDisclosed : Type 0
NothingDisclosed =
    (ws vs b : List ℕ) → LawfulWords ws → LawfulWords vs → ((c : ℕ) (k : Call) → decode b ≡ request c k → SameBut c (view ws) (view vs))
    → (monitor ws b).answer.refusal ≡ (monitor vs b).answer.refusal
