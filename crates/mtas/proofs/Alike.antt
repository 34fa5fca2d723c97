-- Two states that stand alike in all that a caller's guards look at give its calls one outcome.
use mathlib.Core.Path.{◌≡◌, refl, ap, sym, ◌∙◌, fun_ext}
use mathlib.Core.List.{List, [], ◌∷◌, ◌++◌}
use mathlib.Core.Bool.{Bool, true, false, not}
use Prim.Native.Nat.{ℕ}
use Rattle.bits.proofs.Below.{find_ext}
use Rattle.mtas.specs.Fact.{Fact, enrolled, trusts, role, permission, public, granted, attached, opened}
use Rattle.mtas.specs.Needs.{exposed}
use Rattle.mtas.specs.State.{State, user_of}
use Rattle.mtas.specs.Hierarchy.{◌#◌, reaches}
use Rattle.mtas.specs.Law.{attachments}
use Rattle.mtas.specs.Settle.{authorized}
use Rattle.mtas.specs.Call.{Call, AddIssuer, RemoveIssuer, AssignTrust, RevokeTrust, AddUser, RemoveUser, AddRole, RemoveRole, AddPerm, RemovePerm, AssignUser, RevokeUser, AssignPerm, RevokePerm, AssignRH, RevokeRH, CreateSession, DeleteSession, AddActiveRole, DropActiveRole, CheckAccess, PublishRole, UnpublishRole, arguments}
use Rattle.mtas.specs.Rule.{Guard, absent, present, reached, applies, Whose, operator's, issuer's, link_causes, rule, front, guards}
use Rattle.mtas.specs.Answer.{first_cause, outcome}
use Rattle.mtas.proofs.Exposed.{exposed_has}
use Rattle.mtas.proofs.Guards.{Passes, passes}
use Rattle.mtas.proofs.Isolation.{controller}

-- two states try a list of guards alike: each is compared once those before it passed (case G)
abbrev Alike : State → State → List Guard → Type 0
Alike st st' [] = Unit
Alike st st' (g ∷ l) = (applies st g ≡ applies st' g) × (Passes st g → Alike st st' l)

alike_first : (st st' : State) (l : List Guard) → Alike st st' l → first_cause st l ≡ first_cause st' l
unfolding first_cause
alike_first st st' [] m = refl
alike_first st st' (g ∷ l) m = go (alike_first st st' l) (applies st g) refl
  where
    go : (Alike st st' l → first_cause st l ≡ first_cause st' l) → (b : Bool) → applies st g ≡ b → first_cause st (g ∷ l) ≡ first_cause st' (g ∷ l)
    go rec true e = let e' : applies st' g ≡ true = sym m.0 ∙ e in rw (e, e', first_cause)
    go rec false e = let e' : applies st' g ≡ false = sym m.0 ∙ e in rw (e, e', first_cause) (rec (m.1 (passes st g e)))

-- what a call from c looks at: enrolments, what c controls, trust of and in c, for which roles c's users are authorized, and of an issuer that trusts c its roles, those that are public, and what reaches them
pub record SeenAlike (st st' : State) (c : ℕ) : Type 0 where
  pub of_enrolment : (i : ℕ) → st.stands (enrolled i) ≡ st'.stands (enrolled i)
  pub of_own : (f : Fact) → controller f ≡ c → st.stands f ≡ st'.stands f
  pub of_its_trust : (j : ℕ) → st.stands (trusts c j) ≡ st'.stands (trusts c j)
  pub of_trust_in_it : (i : ℕ) → st.stands (trusts i c) ≡ st'.stands (trusts i c)
  pub of_roles : (i r : ℕ) → st.stands (trusts i c) ≡ true → st.stands (role i r) ≡ st'.stands (role i r)
  pub of_public : (i r : ℕ) → st.stands (trusts i c) ≡ true → st.stands (public i r) ≡ st'.stands (public i r)
  pub of_reach : (q i r : ℕ) → st.stands (trusts i c) ≡ true → reaches (attachments st) (c # q) (i # r) ≡ reaches (attachments st') (c # q) (i # r)
  pub of_authorized : (u r : ℕ) → authorized st (attachments st) c u r ≡ authorized st' (attachments st') c u r

module _ (st st' : State) (c : ℕ) (S : SeenAlike st st' c) where
  its : (f : Fact) → controller f ≡ c → st.stands f ≡ st'.stands f
  its = S.of_own

  missing : (f : Fact) → controller f ≡ c → not (st.stands f) ≡ not (st'.stands f)
  missing f o = ap not (its f o)

  unknown : (i : ℕ) → not (st.stands (enrolled i)) ≡ not (st'.stands (enrolled i))
  unknown i = ap not (S.of_enrolment i)

  exposed_alike : (i r : ℕ) → st.stands (trusts i c) ≡ true → st.stands (exposed c i r) ≡ st'.stands (exposed c i r)
  exposed_alike i r t = exposed_has (λ f. st.stands f ≡ st'.stands f) c i r (λ _. S.of_roles i r t) (λ _. S.of_public i r t)

  -- the calls that name another issuer's role: beyond refusal 9 that issuer trusts the caller
  links_alike : (i r : ℕ) (own : Fact) (l : List Guard) → controller own ≡ c → (st.stands (trusts i c) ≡ true → Alike st st' l) → Alike st st' (link_causes c i r own l)
  links_alike i r own l o k = (
    unknown i,
    λ _. (ap not (S.of_trust_in_it i), λ t. (missing own o, λ _. (ap not (S.of_roles i r t), λ _. (ap not (exposed_alike i r t), λ _. k t)))),
  )

  causes_alike : (u-of : ℕ → ℕ) (k : Call) → Alike st st' (rule u-of c k).causes
  causes_alike u-of (AddIssuer i) = (S.of_enrolment i, λ _. tt)
  causes_alike u-of (RemoveIssuer i) = (unknown i, λ _. tt)
  causes_alike u-of (AssignTrust j) = (unknown j, λ _. (refl, λ _. (S.of_its_trust j, λ _. tt)))
  causes_alike u-of (RevokeTrust j) = (unknown j, λ _. (refl, λ _. (ap not (S.of_its_trust j), λ _. tt)))
  causes_alike u-of (AddUser u) = (its _ refl, λ _. tt)
  causes_alike u-of (RemoveUser u) = (missing _ refl, λ _. tt)
  causes_alike u-of (AddRole r) = (its _ refl, λ _. tt)
  causes_alike u-of (RemoveRole r) = (missing _ refl, λ _. tt)
  causes_alike u-of (AddPerm p) = (its _ refl, λ _. tt)
  causes_alike u-of (RemovePerm p) = (missing _ refl, λ _. tt)
  causes_alike u-of (AssignUser u r) = (missing _ refl, λ _. (missing _ refl, λ _. (its _ refl, λ _. tt)))
  causes_alike u-of (RevokeUser u r) = (missing _ refl, λ _. (missing _ refl, λ _. (missing _ refl, λ _. tt)))
  causes_alike u-of (AssignPerm p i r) = links_alike i r (permission c p) (present 12 (granted c p i r) ∷ []) refl (λ t. (its _ refl, λ _. tt))
  causes_alike u-of (RevokePerm p i r) = links_alike i r (permission c p) (absent 12 (granted c p i r) ∷ []) refl (λ t. (missing _ refl, λ _. tt))
  causes_alike u-of (AssignRH q i r) =
      links_alike i r (role c q) (present 12 (attached c q i r) ∷ reached 13 (c # q) (i # r) ∷ []) refl
      (λ t. (its _ refl, λ _. (S.of_reach q i r t, λ _. tt)))
  causes_alike u-of (RevokeRH q i r) = links_alike i r (role c q) (absent 12 (attached c q i r) ∷ []) refl (λ t. (missing _ refl, λ _. tt))
  causes_alike u-of (CreateSession s u) = (missing _ refl, λ _. (its _ refl, λ _. tt))
  causes_alike u-of (DeleteSession s) = (missing _ refl, λ _. tt)
  causes_alike u-of (AddActiveRole s r) =
      (missing _ refl, λ _. (missing _ refl, λ _. (ap not (S.of_authorized (u-of s) r), λ _. (its _ refl, λ _. tt))))
  causes_alike u-of (DropActiveRole s r) =
      (missing _ refl, λ _. (missing _ refl, λ _. (missing _ refl, λ _. tt)))
  causes_alike u-of (CheckAccess p i s) = (missing _ refl, λ _. tt)
  causes_alike u-of (PublishRole r) = (missing _ refl, λ _. (its _ refl, λ _. tt))
  causes_alike u-of (UnpublishRole r) = (missing _ refl, λ _. (missing _ refl, λ _. tt))

  front_alike : (w : Whose) (l : List ℕ) (m : List Guard) → Alike st st' m → Alike st st' (front w c l ++ m)
  front_alike operator's l m a = (refl, λ _. (refl, λ _. a))
  front_alike issuer's l m a = (refl, λ _. (unknown c, λ _. (refl, λ _. a)))

  pub row_alike : (k : Call) → rule (user_of st c) c k ≡ rule (user_of st' c) c k
  row_alike k = ap (λ u. rule u c k) (fun_ext (λ s. find_ext 16 (λ u. st.stands (opened c s u)) (λ u. st'.stands (opened c s u)) 65535 (λ u. its (opened c s u) refl)))

  pub outcome_alike : (k : Call) → outcome st c k ≡ outcome st' c k
  unfolding outcome
  outcome_alike k =
      alike_first st st' (guards (user_of st c) c k) (front_alike (rule (user_of st c) c k).whose (arguments k) (rule (user_of st c) c k).causes (causes_alike (user_of st c) k))
      ∙ ap (λ R. first_cause st' (front R.whose c (arguments k) ++ R.causes)) (row_alike k)
