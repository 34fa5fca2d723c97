-- When a session may use a permission (demand 2): what verdict 1 is proved to say.
use Rattle.std.specs.Prelude.{◌≡◌, List, Bool, true, ℕ}
use Rattle.mtas.specs.Fact.{opened, active}
use Rattle.mtas.specs.State.{State}
use Rattle.mtas.specs.Hierarchy.{Role, ◌#◌, Graph, Reaches}
use Rattle.mtas.specs.Law.{attachments, holders_of}
use Rattle.mtas.specs.Call.{CheckAccess}
use Rattle.mtas.specs.Layout.{view}
use Rattle.mtas.specs.LawTest.{LawfulWords}
use Rattle.mtas.specs.Record.{request, decode}
use Rattle.mtas.specs.Monitor.{monitor}

-- the session i/s 'is open with an active role that reaches', in a graph, the role b, which passes a test
pub record MayUseThrough (st : State) (below : Graph) (holder : Role → Bool) (i s : ℕ) (b : Role) : Type 0 where
  pub its_user : ℕ
  pub its_role : ℕ
  pub is_open : st.stands (opened i s its_user) ≡ true
  pub is_active : st.stands (active i s its_user its_role) ≡ true
  pub is_reached : Reaches below (i # its_role) b
  pub is_holder : holder b ≡ true

-- it may use j%p through b: through the attachments that stand it reaches b, 'a role holding j%p'
abbrev pub MayUsePermissionThrough : State → ℕ → ℕ → ℕ → ℕ → Role → Type 0
MayUsePermissionThrough st j p i s b = MayUseThrough st (attachments st) (holders_of st j p) i s b

-- it may use j%p: through some role
pub record MayUsePermission (st : State) (j p i s : ℕ) : Type 0 where
  pub reached : Role
  pub may : MayUsePermissionThrough st j p i s reached

-- the record b is an accepted kind 21 of a session that may use the permission
pub record Entitled (ws b : List ℕ) : Type 0 where
  pub owner : ℕ
  pub asked : ℕ
  pub its_issuer : ℕ
  pub session : ℕ
  pub lawful : LawfulWords ws
  pub is_check : decode b ≡ request owner (CheckAccess asked its_issuer session)
  pub is_accepted : (monitor ws b).answer.refusal ≡ 0
  pub may : MayUsePermission (view ws) owner asked its_issuer session
