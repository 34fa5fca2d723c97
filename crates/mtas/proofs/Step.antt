-- Every accepted call keeps the law, and a refused one leaves the state equal.
use mathlib.Core.Path.{◌≡◌, refl, ap}
use mathlib.Core.List.{List, [], ◌∷◌}
use mathlib.Core.Bool.{Bool, true, false}
use Prim.Native.Nat.{ℕ}
use native.Mathlib.Omega.{arith}
use Rattle.bits.proofs.Booleans.{clash}
use Rattle.mtas.specs.Fact.{Fact, enrolled, trusts, user, role, permission, public, holds, granted, attached, opened, active, numbers, Below16}
use Rattle.mtas.specs.Needs.{needs, enrolment}
use Rattle.mtas.specs.State.{State, put, user_of}
use Rattle.mtas.specs.Law.{here, there, attachments, Lawful}
use Rattle.mtas.specs.Call.{Call, AddIssuer, RemoveIssuer, AssignTrust, RevokeTrust, AddUser, RemoveUser, AddRole, RemoveRole, AddPerm, RemovePerm, AssignUser, RevokeUser, AssignPerm, RevokePerm, AssignRH, RevokeRH, CreateSession, DeleteSession, AddActiveRole, DropActiveRole, CheckAccess, PublishRole, UnpublishRole}
use Rattle.mtas.specs.Rule.{issuer's, rule}
use Rattle.mtas.specs.Answer.{refuses, Outcome, accepted, refused, outcome, change, after, answer, next}
use Rattle.mtas.proofs.Facts.{All, all_in, in_one, put-new}
use Rattle.mtas.proofs.Hierarchy.{reaches-complete}
use Rattle.mtas.proofs.Authorized.{attachments-numbered, authorized_sound}
use Rattle.mtas.proofs.Law.{rooted, cut_lawful, put_lawful, put_one_lawful, put_acyclic, attach_acyclic}
use Rattle.mtas.proofs.Sessions.{closed}
use Rattle.mtas.proofs.Guards.{Admitted, Passed, passed}

pub differ : ◌≡◌ {A = ℕ} 0 1 → ⊥
differ z = omega arith

-- the facts that open no session, attach no role and activate none
abbrev plain : Fact → Bool
plain (enrolled i) = true
plain (trusts i j) = true
plain (user i u) = true
plain (role i r) = true
plain (permission i p) = true
plain (public i r) = true
plain (holds i u r) = true
plain (granted j p i r) = true
plain (attached j q i r) = false
plain (opened i s u) = false
plain (active i s u r) = false

module _ (st : State) (L : Lawful st) where
  no_link : {f : Fact} → plain f ≡ true → (j q i r : ℕ) → f ≡ attached j q i r → ⊥
  no_link h j q i r e = clash h (ap plain e)

  -- a plain fact with what it needs
  put_plain : (f : Fact) → All (λ g. st.stands g ≡ true) (needs f) → Below16 (numbers f) → plain f ≡ true → Lawful (put (f ∷ []) st)
  put_plain f sup num h =
      put_one_lawful st L f sup num (λ i s u v e. absurd (clash h (ap plain e)))
      (put_acyclic st L (f ∷ []) (λ j q i r m. no_link h j q i r (in_one m))) (λ i s u r e. absurd (clash h (ap plain e)))

  trusts_itself : (i : ℕ) → st.stands (enrolled i) ≡ true → st.stands (trusts i i) ≡ true
  trusts_itself i h = L.supported (enrolled i) (trusts i i) h here

  -- the caller's number and the arguments are below 16
  own : (c : ℕ) (l : List ℕ) → Admitted st issuer's c l → Below16 (c ∷ l)
  own c l a = ((L.numbered (enrolled c) (a.known refl)).0, a.small)

  keeps : (c : ℕ) (k : Call) → Passed st c k → Lawful (change (rule (user_of st c) c k).effect st)
  keeps c (AddIssuer i) p =
      put_lawful st L (enrolment i)
      (λ f n m. all_in (λ x. (put (enrolment i) st).stands x ≡ true) (all_in (λ y. All (λ x. (put (enrolment i) st).stands x ≡ true) (needs y)) ((t, tt), ((e, (t, (e, (t, tt)))), tt)) m))
      (λ f m. all_in (λ x. Below16 (numbers x)) (let a = p.front.small in omega arith) m)
      (λ j s u v m h. absurd (clash (all_in (λ y. plain y ≡ true) (refl, (refl, tt)) m) refl))
      (put_acyclic st L (enrolment i) (λ j q k r m. clash (all_in (λ y. plain y ≡ true) (refl, (refl, tt)) m) refl))
      (λ j s u r m. absurd (clash (all_in (λ y. plain y ≡ true) (refl, (refl, tt)) m) refl))
    where
      e : (put (enrolment i) st).stands (enrolled i) ≡ true
      e = put-new (enrolment i) st here

      t : (put (enrolment i) st).stands (trusts i i) ≡ true
      t = put-new (enrolment i) st (there here)
  keeps c (RemoveIssuer i) p = cut_lawful st L (enrolled i)
  keeps c (AssignTrust j) p = put_plain (trusts c j) (let e = p.front.known refl in search trusts_itself) (own c (j ∷ []) p.front) refl
  keeps c (RevokeTrust j) p = cut_lawful st L (trusts c j)
  keeps c (AddUser u) p = put_plain (user c u) (let e = p.front.known refl in search trusts_itself) (own c (u ∷ []) p.front) refl
  keeps c (RemoveUser u) p = cut_lawful st L (user c u)
  keeps c (AddRole r) p = put_plain (role c r) (let e = p.front.known refl in search trusts_itself) (own c (r ∷ []) p.front) refl
  keeps c (RemoveRole r) p = cut_lawful st L (role c r)
  keeps c (AddPerm x) p = put_plain (permission c x) (let e = p.front.known refl in search trusts_itself) (own c (x ∷ []) p.front) refl
  keeps c (RemovePerm x) p = cut_lawful st L (permission c x)
  keeps c (AssignUser u r) p = put_plain (holds c u r) (let e = p.front.known refl in search trusts_itself) (own c (u ∷ r ∷ []) p.front) refl
  keeps c (RevokeUser u r) p = cut_lawful st L (holds c u r)
  keeps c (AssignPerm x i r) p = put_plain (granted c x i r) (let e = p.front.known refl in search trusts_itself) (own c (x ∷ i ∷ r ∷ []) p.front) refl
  keeps c (RevokePerm x i r) p = cut_lawful st L (granted c x i r)
  keeps c (AssignRH q i r) p =
      put_one_lawful st L (attached c q i r) (let e = p.front.known refl in search trusts_itself) (own c (q ∷ i ∷ r ∷ []) p.front) (λ i s u v e. cc)
      (attach_acyclic st L c q i r (λ w. clash (reaches-complete (attachments st) (attachments-numbered st L.numbered) w) p.own.1.1.1.1.1.1.0)) (λ k s u t e. absurd (differ (cc)))
  keeps c (RevokeRH q i r) p = cut_lawful st L (attached c q i r)
  keeps c (CreateSession s u) p =
      put_one_lawful st L (opened c s u) (let e = p.front.known refl in search trusts_itself) (own c (s ∷ u ∷ []) p.front)
      (λ i t v w e. let e0 : c ≡ i = cc in let e1 : s ≡ t = cc in rw (← e0, ← e1) (closed st (rooted L) c s p.own.1.0 w))
      (put_acyclic st L (opened c s u ∷ []) (λ j q i r m. let n : opened c s u ≡ attached j q i r = in_one m in differ (cc))) (λ i t v r e. absurd (differ (cc)))
  keeps c (DeleteSession s) p = cut_lawful st L (opened c s (user_of st c s))
  keeps c (AddActiveRole s r) p =
      let e = p.front.known refl in
      let a = L.numbered (opened c s (user_of st c s)) p.own.1.0 in
      let b = L.numbered (role c r) p.own.0 in
      let u = L.supported (opened c s (user_of st c s)) (user c (user_of st c s)) p.own.1.0 here in
      put_one_lawful st L (active c s (user_of st c s) r) (search trusts_itself) (omega arith) (λ i t v w x. cc)
      (put_acyclic st L (active c s (user_of st c s) r ∷ []) (λ j q i k m. let n : active c s (user_of st c s) r ≡ attached j q i k = in_one m in differ (cc)))
      (λ i t v k x.
      let e0 : c ≡ i = cc in
      let e1 : user_of st c s ≡ v = cc in
      let e2 : r ≡ k = cc in
      rw (← e0, ← e1, ← e2) (authorized_sound st (attachments st) c (user_of st c s) r p.own.1.1.0))
  keeps c (DropActiveRole s r) p = cut_lawful st L (active c s (user_of st c s) r)
  keeps c (CheckAccess x i s) p = L
  keeps c (PublishRole r) p = put_plain (public c r) (let e = p.front.known refl in search trusts_itself) (own c (r ∷ []) p.front) refl
  keeps c (UnpublishRole r) p = cut_lawful st L (public c r)

  -- every call, accepted or not
  pub next_lawful : (c : ℕ) (k : Call) → Lawful (next st c k)
  unfolding next
  next_lawful c k = go (outcome st c k) refl
    where
      go : (o : Outcome) → outcome st c k ≡ o → Lawful (after st (rule (user_of st c) c k).effect o)
      go accepted e = keeps c k (passed st c k e)
      go (refused n) e = L

-- an accepted call leaves its effect
pub leaves : (st : State) (c : ℕ) (k : Call) → outcome st c k ≡ accepted → next st c k ≡ change (rule (user_of st c) c k).effect st
unfolding next
leaves st c k e = rw e

-- a refused call answers its number with verdict 0, and leaves the state equal
pub refused-answer : (st : State) (c : ℕ) (k : Call) (n : ℕ) → outcome st c k ≡ refused n → answer st c k ≡ refuses n
unfolding answer
refused-answer st c k n e = rw e

pub refused_equal : (st : State) (c : ℕ) (k : Call) (n : ℕ) → outcome st c k ≡ refused n → next st c k ≡ st
unfolding next
refused_equal st c k n e = rw e
