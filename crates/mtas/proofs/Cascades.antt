-- Each accepted call leaves what documents 01 and 02 say: a put adds its facts, a cut clears those that its sentence names, and settling the active roles beyond reach.
use mathlib.Core.Path.{◌≡◌, refl, ◌∙◌}
use mathlib.Core.List.{List, [], ◌∷◌}
use mathlib.Core.Logic.{◌⊎◌, inl, inr, ◌≢◌}
use mathlib.Core.Bool.{true, false}
use Prim.Native.Nat.{ℕ}
use lib.Dec.{eqb}
use borrow.Author.Tests.{eqb-false}
use Rattle.bits.proofs.Booleans.{clash, untrue}
use Rattle.mtas.specs.Fact.{Fact, enrolled, trusts, user, role, permission, public, holds, granted, attached, opened, active}
use Rattle.mtas.specs.Needs.{enrolment, exposed}
use Rattle.mtas.specs.State.{State, put, cut, user_of}
use Rattle.mtas.specs.Law.{In, here, there, Lawful}
use Rattle.mtas.specs.Settle.{settle}
use Rattle.mtas.specs.Cascades.{Clears, Breaks, Adds, Withdrawn, UserRemoved, RoleRemoved, PermissionRemoved, Struck, Closed, Deactivated, Unpublished, Enrolled, Cascades}
use Rattle.mtas.proofs.Exposed.{public_in, exposed_has}
use Rattle.mtas.proofs.Facts.{All, all_in, roots, put-new, put_other, cut-gone, cut-other, cut-old}
use Rattle.mtas.proofs.Law.{rooted, cut_rooted}
use Rattle.mtas.proofs.Sessions.{closed}
use Rattle.mtas.proofs.Guards.{passed}
use Rattle.mtas.proofs.Step.{differ, leaves}
use Rattle.mtas.proofs.Settling.{settle_breaks, settle_clears}

-- ---- a put
adds : (st : State) (l : List Fact) (New : Fact → Type 0) → All New l → ((f : Fact) → New f → In f l) → Adds New st (put l st)
adds st l New all only = record {
  new = λ f n. put-new l st (only f n);
  kept = λ f n. put_other l st f (λ m. n (all_in New all m));
}

adds_one : (st : State) (f : Fact) → Adds (λ g. g ≡ f) st (put (f ∷ []) st)
adds_one st f = adds st (f ∷ []) (λ g. g ≡ f) (refl, tt) (λ g e. rw e here)

-- ---- a cut
-- Goes f g: g goes where f is cut. An issuer's trust in itself, which no call cuts, takes all that needs it.
abbrev Goes : Fact → Fact → Type 0
Goes (enrolled i) g = Struck i g
Goes (trusts i j) g = (Withdrawn i j g) ⊎ ((i ≡ j) × In (trusts i j) (roots g))
Goes (user i u) g = UserRemoved i u g
Goes (role i r) g = RoleRemoved i r g
Goes (permission j p) g = PermissionRemoved j p g
Goes (public i r) g = Unpublished i r g
Goes (holds i u r) g = g ≡ holds i u r
Goes (granted j p i r) g = g ≡ granted j p i r
Goes (attached j q i r) g = g ≡ attached j q i r
Goes (opened i s u) g = Closed i s g
Goes (active i s u r) g = Deactivated i s r g

-- a root that is trust: withdrawn, or an issuer's in itself
ruleset trust = (inl, inr, here, there)

-- a link goes with the role that exposes it to the other owner
exposed-goes : (g : Fact) (j i r : ℕ) → RoleRemoved i r g → (j ≢ i → Unpublished i r g) → Goes (exposed j i r) g
exposed-goes g j i r removed unpublished = exposed_has (λ f. Goes f g) j i r (λ _. removed) (λ e. unpublished (eqb-false j i e))

-- a fact goes with each of its roots, by the sentences that name it
goes : (g : Fact) → All (λ f. Goes f g) (roots g)
goes (enrolled i) = search (Struck.the_enrolment, trust) depth 20
goes (trusts i j) = search (Withdrawn.the_trust, Struck.its_trust, Struck.trust_in_it, trust) depth 20
goes (user i u) = search (UserRemoved.the_user, Struck.its_users, trust) depth 20
goes (role i r) = search (RoleRemoved.the_role, Struck.its_roles, trust) depth 20
goes (permission j p) = search (PermissionRemoved.the_permission, Struck.its_permissions, trust) depth 20
goes (public i r) = search (Unpublished.the_publication, RoleRemoved.its_publication, Struck.its_publications, trust) depth 20
goes (holds i u r) = search (UserRemoved.what_it_held, RoleRemoved.from_held, Struck.its_holdings, trust) depth 20
goes (granted j p i r) = search (exposed-goes (granted j p i r) j i r RoleRemoved.from_grants Unpublished.others'_grants, PermissionRemoved.its_grants, RoleRemoved.from_grants, Withdrawn.grants, Struck.its_grants, Struck.grants_to_it, trust) depth 20
goes (attached j q i r) = search (exposed-goes (attached j q i r) j i r RoleRemoved.as_senior Unpublished.others'_attachments, RoleRemoved.as_junior, RoleRemoved.as_senior, Withdrawn.attachments, Struck.its_juniors, Struck.its_seniors, trust) depth 20
goes (opened i s u) = search (Closed.the_session, UserRemoved.its_sessions, Struck.its_sessions, trust) depth 20
goes (active i s u r) = search (Deactivated.in_session, Closed.its_roles, UserRemoved.their_roles, RoleRemoved.from_sessions, Struck.their_roles, trust) depth 20

module _ (st : State) (L : Lawful st) where
  session_open : (i s u r : ℕ) → st.stands (active i s u r) ≡ true → st.stands (opened i s u) ≡ true
  session_open i s u r h = L.supported (active i s u r) (opened i s u) h here

  -- and with its roots alone, since a session has one user
  root : (f : Fact) → st.stands f ≡ true → (g : Fact) → st.stands g ≡ true → Goes f g → In f (roots g)
  root (enrolled i) h g k Struck.the_enrolment = here
  root (enrolled i) h g k Struck.its_trust = there here
  root (enrolled i) h g k Struck.trust_in_it = search (here, there)
  root (enrolled i) h g k Struck.its_users = there here
  root (enrolled i) h g k Struck.its_roles = there here
  root (enrolled i) h g k Struck.its_permissions = there here
  root (enrolled i) h g k Struck.its_holdings = search (here, there)
  root (enrolled i) h g k Struck.its_grants = search (here, there) depth 9
  root (enrolled i) h g k Struck.grants_to_it = search (here, there) depth 9
  root (enrolled i) h g k Struck.its_juniors = search (here, there) depth 9
  root (enrolled i) h g k Struck.its_seniors = search (here, there) depth 9
  root (enrolled i) h g k Struck.its_sessions = there (there here)
  root (enrolled i) h g k Struck.their_roles = search (here, there) depth 7
  root (enrolled i) h g k Struck.its_publications = there (there here)
  root (trusts i j) h g k (inl Withdrawn.the_trust) = here
  root (trusts i j) h g k (inl Withdrawn.grants) = search (here, there)
  root (trusts i j) h g k (inl Withdrawn.attachments) = search (here, there)
  root (trusts i j) h g k (inr x) = x.1
  root (user i u) h g k UserRemoved.the_user = here
  root (user i u) h g k UserRemoved.what_it_held = there here
  root (user i u) h g k UserRemoved.its_sessions = there here
  root (user i u) h g k UserRemoved.their_roles = search (here, there)
  root (role i r) h g k RoleRemoved.the_role = here
  root (role i r) h g k RoleRemoved.from_held = there (there here)
  root (role i r) h g k RoleRemoved.from_sessions = search (here, there)
  root (role i r) h g k RoleRemoved.from_grants = there (there here)
  root (role i r) h g k RoleRemoved.as_senior = there (there here)
  root (role i r) h g k RoleRemoved.as_junior = there here
  root (role i r) h g k RoleRemoved.its_publication = there here
  root (permission j p) h g k PermissionRemoved.the_permission = here
  root (permission j p) h g k PermissionRemoved.its_grants = there here
  root (public i r) h g k Unpublished.the_publication = here
  root (public i r) h g k (Unpublished.others'_grants {j} {p} n) = public_in j i r (there (there (there here))) n
  root (public i r) h g k (Unpublished.others'_attachments {j} {q} n) = public_in j i r (there (there (there here))) n
  root (holds i u r) h g k e = rw e here
  root (granted j p i r) h g k e = rw e here
  root (attached j q i r) h g k e = rw e here
  root (opened i s u) h g k (Closed.the_session {u = v}) = rw (L.one_user i s u v h k) here
  root (opened i s u) h g k (Closed.its_roles {u = v} {r}) = rw (L.one_user i s u v h (session_open i s v r k)) (there here)
  root (active i s u r) h g k (Deactivated.in_session {u = v}) = rw (L.one_user i s u v (session_open i s u r h) (session_open i s v r k)) here

  cut_clears : (f : Fact) → st.stands f ≡ true → Clears (Goes f) st (cut f st)
  cut_clears f h = record {
    gone = λ g x. untrue _ (λ k. clash k (cut-gone f st g (root f h g (cut-old f st g k) x)));
    kept = λ g n. cut-other f st g (λ m. n (all_in (λ x. Goes x g) (goes g) m));
  }

  breaks : (f : Fact) → st.stands f ≡ true → Breaks (Goes f) st (settle (cut f st))
  breaks f h = settle_breaks st (cut f st) (cut_rooted st L f).numbered (cut_clears f h)

  -- a cut that takes no attachment, and no holding but with all that its user has active, breaks no reach
  clears : (f : Fact) → ((j q i r : ℕ) → Goes f (attached j q i r) → ⊥) → ((i s u r h : ℕ) → Goes f (holds i u h) → Goes f (active i s u r))
      → st.stands f ≡ true → Clears (Goes f) st (settle (cut f st))
  clears f no_link with_it h = settle_clears st (cut f st) (cut_rooted st L f).numbered (cut_clears f h) L.reached no_link with_it

  -- trust between two issuers (refusal 8)
  withdraws : (i j : ℕ) → st.stands (trusts i j) ≡ true → eqb i j ≡ false → Breaks (Withdrawn i j) st (settle (cut (trusts i j) st))
  withdraws i j h d = record {
    gone = λ g x. (breaks (trusts i j) h).gone g (inl x);
    dropped = (breaks (trusts i j) h).dropped;
    kept = λ g n. (breaks (trusts i j) h).kept g (elim [ inl x ↦ n x | inr x ↦ eqb-false i j d x.0 ]);
  }

  -- a closed session has no active role, and opening it makes none active
  idle : (i s u v r : ℕ) → st.stands (opened i s (user_of st i s)) ≡ false → (put (opened i s u ∷ []) st).stands (active i s v r) ≡ false
  idle i s u v r h =
      (adds_one st (opened i s u)).kept (active i s v r) (λ e. differ (cc))
      ∙ untrue _ (λ k. clash (session_open i s v r k) (closed st (rooted L) i s h v))

-- a user's holdings go with its active roles
with_the_user : {c u : ℕ} (i s v r h : ℕ) → UserRemoved c u (holds i v h) → UserRemoved c u (active i s v r)
with_the_user i s v r h UserRemoved.what_it_held = UserRemoved.their_roles

-- what enrolling sets is listed
enrolment_new : {i : ℕ} (f : Fact) → Enrolled i f → In f (enrolment i)
enrolment_new f Enrolled.the_enrolment = here
enrolment_new f Enrolled.trust_in_itself = there here

pub cascades : Cascades
cascades = record {
  enrols = λ c i st L e. rw leaves (adds st (enrolment i) (Enrolled i) (Enrolled.the_enrolment, (Enrolled.trust_in_itself, tt)) enrolment_new);
  strikes = λ c i st L e. rw leaves (breaks st L (enrolled i) (search (passed _ _ _ e)));
  gives_trust = λ c j st L e. rw leaves (adds_one st (trusts c j));
  withdraws_trust = λ c j st L e. rw leaves (withdraws st L c j (search (passed _ _ _ e)) (search (passed _ _ _ e)));
  adds_user = λ c u st L e. rw leaves (adds_one st (user c u));
  removes_user = λ c u st L e. rw leaves (clears st L (user c u) (λ j q i r x. elim x [ ]) with_the_user (search (passed _ _ _ e)));
  adds_role = λ c r st L e. rw leaves (adds_one st (role c r));
  removes_role = λ c r st L e. rw leaves (breaks st L (role c r) (search (passed _ _ _ e)));
  adds_permission = λ c p st L e. rw leaves (adds_one st (permission c p));
  removes_permission = λ c p st L e. rw leaves (clears st L (permission c p) (λ j q i r x. elim x [ ]) (λ i s v r h x. elim x [ ]) (search (passed _ _ _ e)));
  gives_role = λ c u r st L e. rw leaves (adds_one st (holds c u r));
  takes_role = λ c u r st L e. rw leaves (breaks st L (holds c u r) (search (passed _ _ _ e)));
  grants = λ c p i r st L e. rw leaves (adds_one st (granted c p i r));
  ungrants = λ c p i r st L e. rw leaves (clears st L (granted c p i r) (λ j q k t x. differ (cc)) (λ k s v t h x. absurd (differ (cc))) (search (passed _ _ _ e)));
  attaches = λ c q i r st L e. rw leaves (adds_one st (attached c q i r));
  detaches = λ c q i r st L e. rw leaves (breaks st L (attached c q i r) (search (passed _ _ _ e)));
  opens = λ c s u st L e. rw leaves (adds_one st (opened c s u));
  opens_idle = λ c s u st L e. rw leaves (λ v r. idle st L c s u v r (search (passed _ _ _ e)));
  closes = λ c s st L e. rw leaves (clears st L (opened c s (user_of st c s)) (λ j q i r x. elim x [ ]) (λ i t v r h x. elim x [ ]) (search (passed _ _ _ e)));
  activates = λ c s r st L e. rw leaves (user_of st c s, search (passed _ _ _ e), adds_one st (active c s (user_of st c s) r));
  deactivates = λ c s r st L e. rw leaves (clears st L (active c s (user_of st c s) r) (λ j q i t x. elim x [ ]) (λ i t v k h x. elim x [ ]) (search (passed _ _ _ e)));
  checks = λ c p i s st L e. rw leaves;
  publishes = λ c r st L e. rw leaves (adds_one st (public c r));
  unpublishes = λ c r st L e. rw leaves (breaks st L (public c r) (search (passed _ _ _ e)));
}
