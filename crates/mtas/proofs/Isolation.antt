-- The unwinding's first half: an outsider's call changes nothing that the members or the operator control.
use mathlib.Core.Path.{◌≡◌, refl, ap, ap₂, sym, ◌∙◌, subst}
use mathlib.Core.Logic.{◌⊎◌, inl, inr, ◌≢◌}
use mathlib.Core.Bool.{Bool, true, false, ◌&&◌}
use Prim.Native.Nat.{ℕ}
use lib.Dec.{eqb}
use borrow.Author.Tests.{eq-eqb, eqb-true, ne_eqb}
use Rattle.bits.proofs.Booleans.{clash, untrue, same_test}
use Rattle.mtas.specs.Fact.{Fact, enrolled, trusts, user, role, permission, public, holds, granted, attached, opened, active}
use Rattle.mtas.specs.Needs.{exposed}
use Rattle.mtas.specs.State.{State, nothing, cut, user_of}
use Rattle.mtas.specs.Hierarchy.{Role}
use Rattle.mtas.specs.Law.{In, attachments, Lawful}
use Rattle.mtas.specs.Settle.{authorized, settle}
use Rattle.mtas.specs.Call.{Call, AddIssuer, RemoveIssuer, AssignTrust, RevokeTrust, AddUser, RemoveUser, AddRole, RemoveRole, AddPerm, RemovePerm, AssignUser, RevokeUser, AssignPerm, RevokePerm, AssignRH, RevokeRH, CreateSession, DeleteSession, AddActiveRole, DropActiveRole, CheckAccess, PublishRole, UnpublishRole}
use Rattle.mtas.specs.Rule.{Effect, puts, cuts, decides, rule}
use Rattle.mtas.specs.Answer.{Outcome, accepted, refused, outcome, change, after, next}
use Rattle.mtas.specs.Layout.{Word, enrolled_issuers, trusted, users, roles, permissions, held, holders, seniors, session_user, active_roles, public_roles, Cell, sixteen, its_user, in_session, cell, owner}
use Rattle.mtas.proofs.Exposed.{exposed_has}
use Rattle.mtas.proofs.Facts.{All, all_in, roots, put-old, put_cases, cut-old, cut-other}
use Rattle.mtas.proofs.Authorized.{AllNumbered, attachments-numbered, authorized_sound, authorized_complete}
use Rattle.mtas.proofs.Settle.{Fixed, IsActive, settle_is, settle_active, lawful_settled}
use Rattle.mtas.proofs.Law.{nothing_lawful, grant_trust, link_trust, cut_rooted, left_old}
use Rattle.mtas.proofs.Guards.{Passed, passed}
use Rattle.mtas.proofs.Step.{next_lawful}
use Rattle.mtas.proofs.Walks.{Carries, authorized_inside}

-- whose calls set a fact: the operator, 16, enrols, and so makes an issuer trust itself
abbrev pub controller : Fact → ℕ
controller (enrolled i) = 16
controller (trusts i j) = elim (eqb i j) [ true ↦ 16 | false ↦ i ]
controller (user i u) = i
controller (role i r) = i
controller (permission i p) = i
controller (public i r) = i
controller (holds i u r) = i
controller (granted j p i r) = j
controller (attached j q i r) = j
controller (opened i s u) = i
controller (active i s u r) = i

-- an accepted call changes what its caller controls, and only kind 3 puts trust between two issuers
abbrev Own : ℕ → Call → Effect → Type 0
Own c k (puts l) = All (λ f. (controller f ≡ c) × ((o m : ℕ) → f ≡ trusts o m → o ≢ m → k ≡ AssignTrust m)) l
Own c k (cuts f) = controller f ≡ c
Own c k (decides p i s) = Unit

self_trust : (i : ℕ) → controller (trusts i i) ≡ 16
self_trust i = rw (eq-eqb i i refl, controller)

own : (st : State) (c : ℕ) (k : Call) → Passed st c k → Own c k (rule (user_of st c) c k).effect
own st c (AddIssuer i) g =
    let e : c ≡ 16 = eqb-true c 16 g.front.may in
    ((sym e, λ o m x n. cc), ((self_trust i ∙ sym e, λ o m x n. absurd (n (cc))), tt))
own st c (RemoveIssuer i) g = sym (eqb-true c 16 g.front.may)
own st c (AssignTrust j) g = ((rw (g.own.1.0, controller), λ o m x n. cc), tt)
own st c (RevokeTrust j) g = rw (g.own.1.0, controller)
own st c (AddUser u) g = ((refl, λ o m x n. cc), tt)
own st c (RemoveUser u) g = refl
own st c (AddRole r) g = ((refl, λ o m x n. cc), tt)
own st c (RemoveRole r) g = refl
own st c (AddPerm p) g = ((refl, λ o m x n. cc), tt)
own st c (RemovePerm p) g = refl
own st c (AssignUser u r) g = ((refl, λ o m x n. cc), tt)
own st c (RevokeUser u r) g = refl
own st c (AssignPerm p i r) g = ((refl, λ o m x n. cc), tt)
own st c (RevokePerm p i r) g = refl
own st c (AssignRH q i r) g = ((refl, λ o m x n. cc), tt)
own st c (RevokeRH q i r) g = refl
own st c (CreateSession s u) g = ((refl, λ o m x n. cc), tt)
own st c (DeleteSession s) g = refl
own st c (AddActiveRole s r) g = ((refl, λ o m x n. cc), tt)
own st c (DropActiveRole s r) g = refl
own st c (CheckAccess p i s) g = tt
own st c (PublishRole r) g = ((refl, λ o m x n. cc), tt)
own st c (UnpublishRole r) g = refl

-- inside: the members, and the operator
module _ (inside : ℕ → Bool) where
  -- all that a word says is controlled inside
  abbrev pub Controlled : Cell → Type 0
  Controlled (sixteen f) = (n : ℕ) → inside (controller (f n)) ≡ true
  Controlled (its_user i s) = inside i ≡ true
  Controlled (in_session i s f) = (inside i ≡ true) × ((u n : ℕ) → inside (controller (f u n)) ≡ true)

  -- the invariant: no outsider trusts a member
  pub record Secure (st : State) : Type 0 where
    pub lawful : Lawful st
    pub apart : (o m : ℕ) → inside o ≡ false → inside m ≡ true → st.stands (trusts o m) ≡ false

  pub nothing_secure : Secure nothing
  nothing_secure = record { lawful = nothing_lawful; apart = λ o m ho hm. refl }

  -- agreement: equal on all that those inside control
  abbrev pub Agree : State → State → Type 0
  Agree st st' = (f : Fact) → inside (controller f) ≡ true → st.stands f ≡ st'.stands f

  -- the call is no accepted kind 3 from an outsider that names a member
  abbrev pub Calm : State → ℕ → Call → Type 0
  Calm st c k = (j : ℕ) → k ≡ AssignTrust j → inside c ≡ false → inside j ≡ true → outcome st c k ≡ accepted → ⊥

  -- upwards from an inside role there are only inside roles
  abbrev pub Upwards : State → Type 0
  Upwards st = (a b : Role) → attachments st a b ≡ true → inside b.issuer ≡ true → inside a.issuer ≡ true

  pub carries : (st st' : State) → Upwards st → Agree st st' → Carries inside (attachments st) (attachments st')
  carries st st' U A a b h e = (U a b e h, sym (A (attached b.issuer b.number a.issuer a.number) h) ∙ e)

  -- so two states that agree authorize inside users alike, and agree once they are settled
  module _ (st st' : State) (N : AllNumbered st) (N' : AllNumbered st') (U : Upwards st) (U' : Upwards st') (A : Agree st st') where
    pub authorized_same : (i u r : ℕ) → inside i ≡ true → authorized st (attachments st) i u r ≡ authorized st' (attachments st') i u r
    authorized_same i u r h =
        same_test _ _
        (λ e. authorized_complete st' (attachments st') i u r N' (attachments-numbered st' N') (authorized_inside inside (carries st st' U A) h (λ t x. sym (A (holds i u t) h) ∙ x) (authorized_sound st (attachments st) i u r e)))
        (λ e. authorized_complete st (attachments st) i u r N (attachments-numbered st N) (authorized_inside inside (carries st' st U' (λ f o. sym (A f o))) h (λ t x. A (holds i u t) h ∙ x) (authorized_sound st' (attachments st') i u r e)))

    pub settle_agree : Agree (settle st) (settle st')
    settle_agree f o = go (settle_is f)
      where
        go : (Fixed f) ⊎ (IsActive f) → (settle st).stands f ≡ (settle st').stands f
        go (inl e) = e st ∙ A f o ∙ sym (e st')
        go (inr (i, s, u, r, e)) =
            let h : inside i ≡ true = rw e at o in
            rw e (settle_active st i s u r ∙ ap₂ ◌&&◌ (A (active i s u r) h) (authorized_same i u r h) ∙ sym (settle_active st' i s u r))

module _ (inside : ℕ → Bool) (op : inside 16 ≡ true) where
  pub trust_inside : (i j : ℕ) → inside i ≡ true → inside (controller (trusts i j)) ≡ true
  trust_inside i j h = go (eqb i j) refl
    where
      go : (b : Bool) → eqb i j ≡ b → inside (controller (trusts i j)) ≡ true
      go true e = rw (e, controller) op
      go false e = rw (e, controller) h

  -- what stands in the name of someone inside is controlled inside
  pub owned_inside : (w : Word) → inside (owner w) ≡ true → Controlled inside (cell w)
  owned_inside enrolled_issuers h = λ n. op
  owned_inside (trusted i) h = λ n. trust_inside i n h
  owned_inside (users i) h = λ n. h
  owned_inside (roles i) h = λ n. h
  owned_inside (permissions i) h = λ n. h
  owned_inside (held i u) h = λ n. h
  owned_inside (holders j p i) h = λ n. h
  owned_inside (seniors j q i) h = λ n. h
  owned_inside (session_user i s) h = h
  owned_inside (active_roles i s) h = (h, λ u n. h)
  owned_inside (public_roles i) h = λ n. h

  module _ (st : State) (S : Secure inside st) where
    -- whoever trusts a member is inside
    pub trustor_inside : (i j : ℕ) → st.stands (trusts i j) ≡ true → inside j ≡ true → inside i ≡ true
    trustor_inside i j h k = go (inside i) refl
      where
        go : (b : Bool) → inside i ≡ b → inside i ≡ true
        go true e = e
        go false e = absurd (clash h (S.apart i j e k))

    pub upwards : Upwards inside st
    upwards a b e h = trustor_inside a.issuer b.issuer (link_trust st S.lawful e) h

    pub cut_upwards : (x : Fact) → Upwards inside (cut x st)
    cut_upwards x a b e h = upwards a b (cut-old x st (attached b.issuer b.number a.issuer a.number) e) h

    self_inside : (i : ℕ) → inside (controller (trusts i i)) ≡ true
    self_inside i = rw (self_trust i) op

    exposed_inside : (j i r : ℕ) → inside i ≡ true → inside (controller (exposed j i r)) ≡ true
    exposed_inside j i r h = exposed_has (λ f. inside (controller f) ≡ true) j i r (λ _. h) (λ _. h)

    -- all that a member's fact stands on is controlled inside
    roots_inside : (g : Fact) → st.stands g ≡ true → inside (controller g) ≡ true → All (λ f. inside (controller f) ≡ true) (roots g)
    roots_inside (enrolled i) h o = search self_inside
    roots_inside (trusts i j) h o = search self_inside
    roots_inside (user i u) h o = search self_inside
    roots_inside (role i r) h o = search self_inside
    roots_inside (permission i p) h o = search self_inside
    roots_inside (public i r) h o = search self_inside
    roots_inside (holds i u r) h o = search self_inside
    roots_inside (granted j p i r) h o =
        let t = trustor_inside i j (grant_trust st S.lawful h) o in
        search (self_inside, trust_inside, exposed_inside)
    roots_inside (attached j q i r) h o =
        let t = trustor_inside i j (link_trust st S.lawful h) o in
        search (self_inside, trust_inside, exposed_inside)
    roots_inside (opened i s u) h o = search self_inside
    roots_inside (active i s u r) h o = search self_inside

    cut_unseen : (x : Fact) → inside (controller x) ≡ false → Agree inside (cut x st) st
    cut_unseen x h f o = same_test _ _ (λ p. cut-old x st f p) (λ p. cut-other x st f (λ m. kept p m) ∙ p)
      where
        kept : st.stands f ≡ true → In x (roots f) → ⊥
        kept p m = clash (all_in (λ y. inside (controller y) ≡ true) (roots_inside f p o) m) h

    change_unseen : (c : ℕ) (k : Call) (e : Effect) → inside c ≡ false → Own c k e → (f : Fact) → inside (controller f) ≡ true → (change e st).stands f ≡ st.stands f
    change_unseen c k (puts l) h w f o = same_test _ _ (λ p. go (put_cases l st f p)) (λ p. put-old l st f p)
      where
        go : (In f l) ⊎ (st.stands f ≡ true) → st.stands f ≡ true
        go (inl m) = absurd (clash o (rw (all_in (λ x. (controller x ≡ c) × ((o' m' : ℕ) → x ≡ trusts o' m' → o' ≢ m' → k ≡ AssignTrust m')) w m).0 h))
        go (inr p) = p
    change_unseen c k (cuts x) h w f o =
        settle_agree inside (cut x st) st (cut_rooted st S.lawful x).numbered S.lawful.numbered (cut_upwards x) upwards (cut_unseen x (rw w h)) f o
        ∙ ap (λ z. z.stands f) (lawful_settled st S.lawful)
    change_unseen c k (decides p i s) h w f o = refl

    pub outsider_unseen : (c : ℕ) (k : Call) → inside c ≡ false → Agree inside (next st c k) st
    unfolding next
    outsider_unseen c k h f o = go (outcome st c k) refl
      where
        go : (x : Outcome) → outcome st c k ≡ x → (after st (rule (user_of st c) c k).effect x).stands f ≡ st.stands f
        go accepted e = change_unseen c k (rule (user_of st c) c k).effect h (own st c k (passed st c k e)) f o
        go (refused n) e = refl

    -- no call but kind 3 brings trust across the edge
    change_apart : (o m : ℕ) → inside o ≡ false → inside m ≡ true → (c : ℕ) (k : Call) (e : Effect) → Own c k e
        → (c ≡ o → k ≡ AssignTrust m → ⊥) → (change e st).stands (trusts o m) ≡ true → ⊥
    change_apart o m ho hm c k (puts l) w n p = go (put_cases l st (trusts o m) p)
      where
        apart : o ≢ m
        apart e = clash hm (subst (λ x. inside x ≡ false) e ho)

        go : (In (trusts o m) l) ⊎ (st.stands (trusts o m) ≡ true) → ⊥
        go (inl x) =
            let y = all_in (λ f. (controller f ≡ c) × ((o' m' : ℕ) → f ≡ trusts o' m' → o' ≢ m' → k ≡ AssignTrust m')) w x in
            n (sym (rw (ne_eqb o m apart, controller) at y.0)) (y.1 o m refl apart)
        go (inr x) = clash x (S.apart o m ho hm)
    change_apart o m ho hm c k (cuts f) w n p = clash (left_old st S.lawful f (trusts o m) p) (S.apart o m ho hm)
    change_apart o m ho hm c k (decides p' i s) w n p = clash p (S.apart o m ho hm)

    pub next_secure : (c : ℕ) (k : Call) → Calm inside st c k → Secure inside (next st c k)
    unfolding next
    next_secure c k q = record { lawful = next_lawful st S.lawful c k; apart = λ o m ho hm. go o m ho hm (outcome st c k) refl }
      where
        go : (o m : ℕ) → inside o ≡ false → inside m ≡ true → (x : Outcome) → outcome st c k ≡ x → (after st (rule (user_of st c) c k).effect x).stands (trusts o m) ≡ false
        go o m ho hm accepted e =
            untrue _ (change_apart o m ho hm c k (rule (user_of st c) c k).effect (own st c k (passed st c k e))
            (λ x y. q m y (subst (λ v. inside v ≡ false) (sym x) ho) hm e))
        go o m ho hm (refused n) e = S.apart o m ho hm
