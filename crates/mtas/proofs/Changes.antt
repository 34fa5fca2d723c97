-- An accepted call changes the state, but for kind 21: 'nothing to change' is refused.
use mathlib.Core.Path.{◌≡◌, refl, ap, sym, ◌∙◌}
use mathlib.Core.List.{[], ◌∷◌}
use mathlib.Core.Bool.{true, false}
use Prim.Native.Nat.{ℕ}
use Rattle.bits.proofs.Booleans.{clash}
use Rattle.mtas.specs.Fact.{Fact, enrolled, trusts, user, role, permission, public, holds, granted, attached, opened, active}
use Rattle.mtas.specs.Needs.{enrolment}
use Rattle.mtas.specs.State.{State, put, cut, user_of}
use Rattle.mtas.specs.Law.{here, Lawful}
use Rattle.mtas.specs.Settle.{settle}
use Rattle.mtas.specs.Call.{Call, AddIssuer, RemoveIssuer, AssignTrust, RevokeTrust, AddUser, RemoveUser, AddRole, RemoveRole, AddPerm, RemovePerm, AssignUser, RevokeUser, AssignPerm, RevokePerm, AssignRH, RevokeRH, CreateSession, DeleteSession, AddActiveRole, DropActiveRole, CheckAccess, PublishRole, UnpublishRole}
use Rattle.mtas.specs.Rule.{rule}
use Rattle.mtas.specs.Answer.{accepted, outcome, change, next}
use Rattle.mtas.proofs.Facts.{put-new, cut-gone}
use Rattle.mtas.proofs.Settle.{settle_old}
use Rattle.mtas.proofs.Law.{rooted}
use Rattle.mtas.proofs.Sessions.{closed}
use Rattle.mtas.proofs.Guards.{Passed, passed}
use Rattle.mtas.proofs.Step.{leaves}

abbrev Checks : Call → Type 0
Checks k = (p i s : ℕ) × (k ≡ CheckAccess p i s)

module _ (st : State) (L : Lawful st) where
  new : (f : Fact) → st.stands f ≡ false → put (f ∷ []) st ≡ st → ⊥
  new f h e = clash (put-new (f ∷ []) st here) (ap (λ x. x.stands f) e ∙ h)

  gone : (f : Fact) → st.stands f ≡ true → settle (cut f st) ≡ st → ⊥
  gone f h e = clash (settle_old (cut f st) f (ap (λ x. x.stands f) e ∙ h)) (cut-gone f st f here)

  moves : (c : ℕ) (k : Call) → Passed st c k → change (rule (user_of st c) c k).effect st ≡ st → Checks k
  moves c (AddIssuer i) p e = absurd (clash (put-new (enrolment i) st here) (ap (λ x. x.stands (enrolled i)) e ∙ p.own.0))
  moves c (RemoveIssuer i) p e = absurd (gone (enrolled i) (search p) e)
  moves c (AssignTrust j) p e = absurd (new (trusts c j) (search p) e)
  moves c (RevokeTrust j) p e = absurd (gone (trusts c j) (search p) e)
  moves c (AddUser u) p e = absurd (new (user c u) (search p) e)
  moves c (RemoveUser u) p e = absurd (gone (user c u) (search p) e)
  moves c (AddRole r) p e = absurd (new (role c r) (search p) e)
  moves c (RemoveRole r) p e = absurd (gone (role c r) (search p) e)
  moves c (AddPerm x) p e = absurd (new (permission c x) (search p) e)
  moves c (RemovePerm x) p e = absurd (gone (permission c x) (search p) e)
  moves c (AssignUser u r) p e = absurd (new (holds c u r) (search p) e)
  moves c (RevokeUser u r) p e = absurd (gone (holds c u r) (search p) e)
  moves c (AssignPerm x i r) p e = absurd (new (granted c x i r) (search p) e)
  moves c (RevokePerm x i r) p e = absurd (gone (granted c x i r) (search p) e)
  moves c (AssignRH q i r) p e = absurd (new (attached c q i r) (search p) e)
  moves c (RevokeRH q i r) p e = absurd (gone (attached c q i r) (search p) e)
  moves c (CreateSession s u) p e = absurd (new (opened c s u) (closed st (rooted L) c s (search p) u) e)
  moves c (DeleteSession s) p e = absurd (gone (opened c s (user_of st c s)) (search p) e)
  moves c (AddActiveRole s r) p e = absurd (new (active c s (user_of st c s) r) (search p) e)
  moves c (DropActiveRole s r) p e = absurd (gone (active c s (user_of st c s) r) (search p) e)
  moves c (CheckAccess x i s) p e = (x, i, s, refl)
  moves c (PublishRole r) p e = absurd (new (public c r) (search p) e)
  moves c (UnpublishRole r) p e = absurd (gone (public c r) (search p) e)

  pub accepted_changes : (c : ℕ) (k : Call) → outcome st c k ≡ accepted → next st c k ≡ st → Checks k
  accepted_changes c k a e = moves c k (passed st c k a) (sym (leaves st c k a) ∙ e)
