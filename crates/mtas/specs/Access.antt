-- Kind 21 (document 01): 'A closed session, an unenrolled issuer's too, gives verdict 0 and isn't itself a cause of refusal'.
use Rattle.std.specs.Prelude.{◌≡◌, ◌↔◌, true, false, List, [], ◌∷◌, ℕ, ◌<◌}
use Rattle.mtas.specs.Fact.{enrolled, permission, opened, Below16}
use Rattle.mtas.specs.State.{State}
use Rattle.mtas.specs.Call.{CheckAccess}
use Rattle.mtas.specs.Layout.{view}
use Rattle.mtas.specs.LawTest.{LawfulWords}
use Rattle.mtas.specs.Record.{request, decode}
use Rattle.mtas.specs.Monitor.{monitor}
use Rattle.mtas.specs.Decision.{MayUsePermission}

-- all that c needs to ask for its permission p: of the session i/s only its numbers
pub record MayAsk (st : State) (c p i s : ℕ) : Type 0 where
  pub is_issuer : c < 16
  pub is_enrolled : st.stands (enrolled c) ≡ true
  pub small : Below16 (p ∷ i ∷ s ∷ [])
  pub is_there : st.stands (permission c p) ≡ true

pub record AccessChecks : Type 0 where
  pub accepted_iff : (ws b : List ℕ) (c p i s : ℕ) → LawfulWords ws → decode b ≡ request c (CheckAccess p i s)
      → ((monitor ws b).answer.refusal ≡ 0) ↔ MayAsk (view ws) c p i s
  pub closed_gives_0 : (ws b : List ℕ) (c p i s : ℕ) → decode b ≡ request c (CheckAccess p i s)
      → ((u : ℕ) → (view ws).stands (opened i s u) ≡ false) → (monitor ws b).answer.verdict ≡ 0
  -- the verdict is 1 where the words are a lawful state in which the session may use the permission, and only there: then all that c needs to ask is there
  pub yes_iff : (ws b : List ℕ) (c p i s : ℕ) → decode b ≡ request c (CheckAccess p i s)
      → ((monitor ws b).answer.verdict ≡ 1) ↔ (LawfulWords ws × MayUsePermission (view ws) c p i s)
  -- asking changes no word, of whatever words
  pub nothing_changes : (ws b : List ℕ) (c p i s : ℕ) → decode b ≡ request c (CheckAccess p i s) → (monitor ws b).words ≡ ws
