-- What each accepted call leaves, in the sentences of document 01 ('Cascades, all within the one call') and of Cards 1 and 2. Proved of put, cut and settle in proofs/.
use Rattle.std.specs.Prelude.{◌≡◌, ◌≢◌, true, false, ℕ}
use Rattle.mtas.specs.Fact.{Fact, enrolled, trusts, user, role, permission, public, holds, granted, attached, opened, active}
use Rattle.mtas.specs.State.{State}
use Rattle.mtas.specs.Law.{Lawful}
use Rattle.mtas.specs.Settle.{Unreached}
use Rattle.mtas.specs.Call.{Call, AddIssuer, RemoveIssuer, AssignTrust, RevokeTrust, AddUser, RemoveUser, AddRole, RemoveRole, AddPerm, RemovePerm, AssignUser, RevokeUser, AssignPerm, RevokePerm, AssignRH, RevokeRH, CreateSession, DeleteSession, AddActiveRole, DropActiveRole, CheckAccess, PublishRole, UnpublishRole}
use Rattle.mtas.specs.Answer.{accepted, outcome, next}

-- exactly these facts go; 'Nothing else changes'
pub record Clears (Gone : Fact → Type 0) (before after : State) : Type 0 where
  pub gone : (f : Fact) → Gone f → after.stands f ≡ false
  pub kept : (f : Fact) → (Gone f → ⊥) → after.stands f ≡ before.stands f

-- exactly these facts go, and of the rest exactly the active roles that no held role reaches any more: 'dropped in the call that breaks its reach' (Card 2)
pub record Breaks (Gone : Fact → Type 0) (before after : State) : Type 0 where
  pub gone : (f : Fact) → Gone f → after.stands f ≡ false
  pub dropped : (f : Fact) → Unreached after f → after.stands f ≡ false
  pub kept : (f : Fact) → (Gone f → ⊥) → (Unreached after f → ⊥) → after.stands f ≡ before.stands f

-- exactly these facts come
pub record Adds (New : Fact → Type 0) (before after : State) : Type 0 where
  pub new : (f : Fact) → New f → after.stands f ≡ true
  pub kept : (f : Fact) → (New f → ⊥) → after.stands f ≡ before.stands f

-- 'Withdrawing clears grants and attachments that needed that trust': i's trust in j
pub data Withdrawn (i j : ℕ) : Fact → Type 0 where
  the_trust : Withdrawn i j (trusts i j)
  grants : {p r : ℕ} → Withdrawn i j (granted j p i r)
  attachments : {q r : ℕ} → Withdrawn i j (attached j q i r)

-- 'Removing a user clears what it held and closes its sessions'
pub data UserRemoved (i u : ℕ) : Fact → Type 0 where
  the_user : UserRemoved i u (user i u)
  what_it_held : {r : ℕ} → UserRemoved i u (holds i u r)
  its_sessions : {s : ℕ} → UserRemoved i u (opened i s u)
  their_roles : {s r : ℕ} → UserRemoved i u (active i s u r)

-- 'Removing a role clears it from held words, sessions, grants and attachments on either side'; its public bit is 'cleared with the thing' that it names
pub data RoleRemoved (i r : ℕ) : Fact → Type 0 where
  the_role : RoleRemoved i r (role i r)
  from_held : {u : ℕ} → RoleRemoved i r (holds i u r)
  from_sessions : {s u : ℕ} → RoleRemoved i r (active i s u r)
  from_grants : {j p : ℕ} → RoleRemoved i r (granted j p i r)
  as_senior : {j q : ℕ} → RoleRemoved i r (attached j q i r)
  as_junior : {k t : ℕ} → RoleRemoved i r (attached i r k t)
  its_publication : RoleRemoved i r (public i r)

-- 'Removing a permission clears its grants'
pub data PermissionRemoved (j p : ℕ) : Fact → Type 0 where
  the_permission : PermissionRemoved j p (permission j p)
  its_grants : {i r : ℕ} → PermissionRemoved j p (granted j p i r)

-- 'Striking an issuer clears everything it owns, its roles in others' words and its trust both ways; its sessions close'
pub data Struck (i : ℕ) : Fact → Type 0 where
  the_enrolment : Struck i (enrolled i)
  its_trust : {j : ℕ} → Struck i (trusts i j)
  trust_in_it : {j : ℕ} → Struck i (trusts j i)
  its_users : {u : ℕ} → Struck i (user i u)
  its_roles : {r : ℕ} → Struck i (role i r)
  its_permissions : {p : ℕ} → Struck i (permission i p)
  its_holdings : {u r : ℕ} → Struck i (holds i u r)
  its_grants : {p k r : ℕ} → Struck i (granted i p k r)
  grants_to_it : {j p r : ℕ} → Struck i (granted j p i r)
  its_juniors : {q k r : ℕ} → Struck i (attached i q k r)
  its_seniors : {j q r : ℕ} → Struck i (attached j q i r)
  its_sessions : {s u : ℕ} → Struck i (opened i s u)
  their_roles : {s u r : ℕ} → Struck i (active i s u r)
  its_publications : {r : ℕ} → Struck i (public i r)

-- a session closes, whoever its user is
pub data Closed (i s : ℕ) : Fact → Type 0 where
  the_session : {u : ℕ} → Closed i s (opened i s u)
  its_roles : {u r : ℕ} → Closed i s (active i s u r)

pub data Deactivated (i s r : ℕ) : Fact → Type 0 where
  in_session : {u : ℕ} → Deactivated i s r (active i s u r)

-- 'Unpublishing clears those that used it': other estates' grants to i#r and their attachments below it. What i itself granted to it or attached below it stays,
-- and so does i#r below others' roles, which needs those to be public.
pub data Unpublished (i r : ℕ) : Fact → Type 0 where
  the_publication : Unpublished i r (public i r)
  others'_grants : {j p : ℕ} → j ≢ i → Unpublished i r (granted j p i r)
  others'_attachments : {j q : ℕ} → j ≢ i → Unpublished i r (attached j q i r)

-- 'Enrolling also sets the issuer's trust in itself'
pub data Enrolled (i : ℕ) : Fact → Type 0 where
  the_enrolment : Enrolled i (enrolled i)
  trust_in_itself : Enrolled i (trusts i i)

-- what an accepted call does to a lawful state
abbrev OnAcceptance : ℕ → Call → (State → State → Type 0) → Type 0
OnAcceptance c k Does = (st : State) → Lawful st → outcome st c k ≡ accepted → Does st (next st c k)

-- one fact alone
abbrev Only : Fact → Fact → Type 0
Only f g = g ≡ f

pub record Cascades : Type 0 where
  pub enrols : (c i : ℕ) → OnAcceptance c (AddIssuer i) (Adds (Enrolled i))
  pub strikes : (c i : ℕ) → OnAcceptance c (RemoveIssuer i) (Breaks (Struck i))
  pub gives_trust : (c j : ℕ) → OnAcceptance c (AssignTrust j) (Adds (Only (trusts c j)))
  pub withdraws_trust : (c j : ℕ) → OnAcceptance c (RevokeTrust j) (Breaks (Withdrawn c j))
  pub adds_user : (c u : ℕ) → OnAcceptance c (AddUser u) (Adds (Only (user c u)))
  pub removes_user : (c u : ℕ) → OnAcceptance c (RemoveUser u) (Clears (UserRemoved c u))
  pub adds_role : (c r : ℕ) → OnAcceptance c (AddRole r) (Adds (Only (role c r)))
  pub removes_role : (c r : ℕ) → OnAcceptance c (RemoveRole r) (Breaks (RoleRemoved c r))
  pub adds_permission : (c p : ℕ) → OnAcceptance c (AddPerm p) (Adds (Only (permission c p)))
  pub removes_permission : (c p : ℕ) → OnAcceptance c (RemovePerm p) (Clears (PermissionRemoved c p))
  pub gives_role : (c u r : ℕ) → OnAcceptance c (AssignUser u r) (Adds (Only (holds c u r)))
  -- 'taking a role drops nothing still reached': the role itself goes from that user's sessions only where no other held role reaches it
  pub takes_role : (c u r : ℕ) → OnAcceptance c (RevokeUser u r) (Breaks (Only (holds c u r)))
  pub grants : (c p i r : ℕ) → OnAcceptance c (AssignPerm p i r) (Adds (Only (granted c p i r)))
  pub ungrants : (c p i r : ℕ) → OnAcceptance c (RevokePerm p i r) (Clears (Only (granted c p i r)))
  pub attaches : (c q i r : ℕ) → OnAcceptance c (AssignRH q i r) (Adds (Only (attached c q i r)))
  pub detaches : (c q i r : ℕ) → OnAcceptance c (RevokeRH q i r) (Breaks (Only (attached c q i r)))
  pub opens : (c s u : ℕ) → OnAcceptance c (CreateSession s u) (Adds (Only (opened c s u)))
  -- 'Kind 17 opens with no active role'
  pub opens_idle : (c s u : ℕ) → OnAcceptance c (CreateSession s u) (λ before after. (v r : ℕ) → after.stands (active c s v r) ≡ false)
  pub closes : (c s : ℕ) → OnAcceptance c (DeleteSession s) (Clears (Closed c s))
  -- the role becomes active for the session's user, whoever that is
  pub activates : (c s r : ℕ) → OnAcceptance c (AddActiveRole s r) (λ before after. (u : ℕ) × (before.stands (opened c s u) ≡ true) × Adds (Only (active c s u r)) before after)
  pub deactivates : (c s r : ℕ) → OnAcceptance c (DropActiveRole s r) (Clears (Deactivated c s r))
  pub checks : (c p i s : ℕ) → OnAcceptance c (CheckAccess p i s) (λ before after. after ≡ before)
  pub publishes : (c r : ℕ) → OnAcceptance c (PublishRole r) (Adds (Only (public c r)))
  pub unpublishes : (c r : ℕ) → OnAcceptance c (UnpublishRole r) (Breaks (Unpublished c r))
