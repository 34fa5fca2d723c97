-- Across estates links stand on public roles; refusal 14 is given exactly for a private role of another issuer; a new role is private.
use mathlib.Core.Path.{◌≡◌, refl, ap, sym, ◌∙◌}
use mathlib.Core.Logic.{◌⊎◌, inl, inr, ◌↔◌, ◌≢◌}
use mathlib.Core.List.{List, [], ◌∷◌, ◌++◌}
use mathlib.Core.Bool.{true, false, not}
use Prim.Native.Nat.{ℕ}
use native.Mathlib.Decide.{ℕ_discrete}
use native.Mathlib.Omega.{arith}
use borrow.Author.Tests.{eq-eqb, ne_eqb, ltb-true, lt-ltb, not-true}
use Rattle.bits.proofs.Booleans.{clash, untrue}
use Rattle.mtas.specs.Fact.{Fact, enrolled, trusts, role, permission, public, granted, attached}
use Rattle.mtas.specs.Needs.{exposed}
use Rattle.mtas.specs.State.{State, put}
use Rattle.mtas.specs.Hierarchy.{◌#◌}
use Rattle.mtas.specs.Law.{here, there, Lawful}
use Rattle.mtas.specs.Call.{Call, AddRole, arguments}
use Rattle.mtas.specs.Rule.{Guard, absent, present, reached, issuer's, link_causes, front}
use Rattle.mtas.specs.Answer.{accepted, refused, first_cause, outcome, next}
use Rattle.mtas.specs.Layout.{view}
use Rattle.mtas.specs.PublicRoles.{LinksTo, grant, ungrant, attach, detach, Indoors, PublicRoles}
use Rattle.mtas.proofs.Exposed.{own_exposed, other_exposed}
use Rattle.mtas.proofs.Facts.{in_one, put_other, none_above_15}
use Rattle.mtas.proofs.Guards.{Clear, admitted, passed}
use Rattle.mtas.proofs.Step.{differ, leaves, next_lawful}
use Rattle.mtas.proofs.Words.{view-encode}
use Rattle.mtas.proofs.Tried.{spares, stopped, stops}
use Rattle.mtas.proofs.Monitor.{monitor-lawful}
use Rattle.mtas.proofs.Answered.{is_accepted, is_refused, gives}

-- ---- refusal 14
module _ (st : State) (L : Lawful st) (c i r : ℕ) where
  on_public : c ≢ i → st.stands (exposed c i r) ≡ true → st.stands (public i r) ≡ true
  on_public n h = sym (ap st.stands (other_exposed c i r (ne_eqb c i n))) ∙ h

  -- what is tried before it
  abbrev before : List ℕ → Fact → List Guard
  before args own = front issuer's c args ++ (absent 7 (enrolled i) ∷ absent 9 (trusts i c) ∷ absent 10 own ∷ absent 10 (role i r) ∷ [])

  indoors : (k : Call) (own : Fact) → Clear st (before (arguments k) own) → not (st.stands (exposed c i r)) ≡ true → Indoors st c i r k own
  indoors k own h a =
      let (f, o) = admitted st issuer's c (arguments k) (absent 7 (enrolled i) ∷ absent 9 (trusts i c) ∷ absent 10 own ∷ absent 10 (role i r) ∷ []) h in
      record {
        is_issuer = ltb-true c 16 f.may;
        is_enrolled = f.known refl;
        small = f.small;
        is_trusted = o.1.0;
        has_own = o.1.1.0;
        is_there = o.1.1.1.0;
        another = other o.1.1.1.0;
        is_private = sym (ap st.stands (other_exposed c i r (ne_eqb c i (other o.1.1.1.0)))) ∙ unexposed;
      }
    where
      unexposed : st.stands (exposed c i r) ≡ false
      unexposed = not-true _ a

      other : st.stands (role i r) ≡ true → c ≢ i
      other o e = clash o (sym (ap st.stands (own_exposed c i r (eq-eqb c i e))) ∙ unexposed)

  all_before : (k : Call) (own : Fact) → Indoors st c i r k own → Clear st (before (arguments k) own)
  all_before k own x = (
    ap not (lt-ltb c 16 x.is_issuer),
    (
      x.is_enrolled,
      (
        none_above_15 (arguments k) x.small,
        (L.supported (trusts i c) (enrolled i) x.is_trusted here, (x.is_trusted, (x.has_own, (x.is_there, tt)))),
      ),
    ),
  )

  refused_iff : (k : Call) (own : Fact) (l : List Guard) → spares 14 l ≡ true
      → (first_cause st (front issuer's c (arguments k) ++ link_causes c i r own l) ≡ refused 14) ↔ Indoors st c i r k own
  refused_iff k own l s = (
    λ h. let (b, a) = stopped st (absent 14 (exposed c i r)) l s (before (arguments k) own) refl h in indoors k own b a,
    λ x.
        stops st (absent 14 (exposed c i r)) l (before (arguments k) own) (all_before k own x)
        (ap not (ap st.stands (other_exposed c i r (ne_eqb c i x.another)) ∙ x.is_private)),
  )

  outcome_iff : {k : Call} {own : Fact} → LinksTo c i r k own → (outcome st c k ≡ refused 14) ↔ Indoors st c i r k own
  unfolding outcome
  outcome_iff {k} (grant {p}) = refused_iff k (permission c p) (present 12 (granted c p i r) ∷ []) refl
  outcome_iff {k} (ungrant {p}) = refused_iff k (permission c p) (absent 12 (granted c p i r) ∷ []) refl
  outcome_iff {k} (attach {q}) = refused_iff k (role c q) (present 12 (attached c q i r) ∷ reached 13 (c # q) (i # r) ∷ []) refl
  outcome_iff {k} (detach {q}) = refused_iff k (role c q) (absent 12 (attached c q i r) ∷ []) refl

  -- an accepted link is to a role that its caller can use
  used : {k : Call} {own : Fact} → LinksTo c i r k own → outcome st c k ≡ accepted → (c ≡ i) ⊎ ((st.stands (trusts i c) ≡ true) × (st.stands (public i r) ≡ true))
  used t e = go (ℕ_discrete c i) (shown t e)
    where
      shown : {k : Call} {own : Fact} → LinksTo c i r k own → outcome st c k ≡ accepted → (st.stands (trusts i c) ≡ true) × (st.stands (exposed c i r) ≡ true)
      shown {k} grant a = let p = (passed st c k a).own in (p.1.0, p.1.1.1.1.0)
      shown {k} ungrant a = let p = (passed st c k a).own in (p.1.0, p.1.1.1.1.0)
      shown {k} attach a = let p = (passed st c k a).own in (p.1.0, p.1.1.1.1.0)
      shown {k} detach a = let p = (passed st c k a).own in (p.1.0, p.1.1.1.1.0)

      go : Dec (c ≡ i) → (st.stands (trusts i c) ≡ true) × (st.stands (exposed c i r) ≡ true) → (c ≡ i) ⊎ ((st.stands (trusts i c) ≡ true) × (st.stands (public i r) ≡ true))
      go (yes q) h = inl q
      go (no n) (h, x) = inr (h, on_public n x)

-- ---- on words and bytes
pub public_roles : PublicRoles
public_roles = record {
  public_present = λ ws W i r h. W.lawful.supported (public i r) (role i r) h here;
  grants_on_public = λ ws W j p i r n h. on_public (view ws) W.lawful j i r n (W.lawful.supported (granted j p i r) (exposed j i r) h (there (there here)));
  attachments_on_public = λ ws W j q i r n h. on_public (view ws) W.lawful j i r n (W.lawful.supported (attached j q i r) (exposed j i r) h (there (there here)));
  can_use = λ ws b {c} {i} {r} W t d z. used (view ws) W.lawful c i r t (is_accepted ws b W d z);
  private_iff = λ ws b {c} {i} {r} W t d. (
    λ h. (outcome_iff (view ws) W.lawful c i r t).0 (is_refused ws b W d 14 (omega arith) h),
    λ x. gives ws b W d 14 ((outcome_iff (view ws) W.lawful c i r t).1 x),
  );
  starts_private = λ ws b c r W d z.
      rw (monitor-lawful ws b W, d, view-encode (next (view ws) c (AddRole r)) (next_lawful (view ws) W.lawful c (AddRole r)), leaves (view ws) c (AddRole r) (is_accepted ws b W d z))
      (new (view ws) W.lawful c r (passed (view ws) c (AddRole r) (is_accepted ws b W d z)).own.0);
}
  where
    new : (st : State) → Lawful st → (c r : ℕ) → st.stands (role c r) ≡ false → (put (role c r ∷ []) st).stands (public c r) ≡ false
    new st L c r h =
        put_other (role c r ∷ []) st (public c r) (λ m. let n : role c r ≡ public c r = in_one m in differ (cc))
        ∙ untrue _ (λ k. clash (L.supported (public c r) (role c r) k here) h)
