-- Who holds a senior may activate the junior; kind 19 gives 11 exactly where the session's user isn't authorized for the role, and is accepted exactly where it is and the role isn't active already.
use mathlib.Core.Path.{◌≡◌, refl, ap, sym, ◌∙◌, subst}
use mathlib.Core.Logic.{◌↔◌}
use mathlib.Core.List.{List, [], ◌∷◌, ◌++◌}
use mathlib.Core.Bool.{true, false, not}
use Prim.Native.Nat.{ℕ}
use native.Mathlib.Omega.{arith}
use borrow.Author.Tests.{ltb-true, lt-ltb}
use Rattle.mtas.specs.Fact.{role, opened, active}
use Rattle.mtas.specs.State.{State, user_of}
use Rattle.mtas.specs.Hierarchy.{itself, down}
use Rattle.mtas.specs.Law.{attachments, Authorized, Lawful}
use Rattle.mtas.specs.Settle.{authorized}
use Rattle.mtas.specs.Call.{AddActiveRole}
use Rattle.mtas.specs.Rule.{Guard, absent, present, unauthorized, issuer's, front}
use Rattle.mtas.specs.Answer.{accepted, refused, first_cause, outcome}
use Rattle.mtas.specs.Layout.{view}
use Rattle.mtas.specs.Activation.{MayActivate, Activation}
use Rattle.mtas.proofs.Facts.{none_above_15}
use Rattle.mtas.proofs.Authorized.{attachments-numbered, authorized_sound, authorized_complete}
use Rattle.mtas.proofs.Law.{rooted}
use Rattle.mtas.proofs.Sessions.{user_is}
use Rattle.mtas.proofs.Guards.{Clear, admitted, passed}
use Rattle.mtas.proofs.Tried.{stopped, stops, as_caused}
use Rattle.mtas.proofs.Answered.{is_accepted, accepts, is_refused, gives}

module _ (st : State) (L : Lawful st) (c s r : ℕ) where
  abbrev its : ℕ
  its = user_of st c s

  -- what is tried before 11
  abbrev before : List Guard
  before = front issuer's c (s ∷ r ∷ []) ++ (absent 10 (role c r) ∷ absent 10 (opened c s its) ∷ [])

  shown : Clear st before → MayActivate st c s its r
  shown h =
      let (f, o) = admitted st issuer's c (s ∷ r ∷ []) (absent 10 (role c r) ∷ absent 10 (opened c s its) ∷ []) h in
      record { is_issuer = ltb-true c 16 f.may; is_enrolled = f.known refl; small = f.small; is_there = o.0; is_open = o.1.0 }

  all_before : MayActivate st c s its r → Clear st before
  all_before x = (ap not (lt-ltb c 16 x.is_issuer), (x.is_enrolled, (none_above_15 (s ∷ r ∷ []) x.small, (x.is_there, (x.is_open, tt)))))

  test : Authorized st (attachments st) c its r → authorized st (attachments st) c its r ≡ true
  test A = authorized_complete st (attachments st) c its r L.numbered (attachments-numbered st L.numbered) A

  refused_iff : (outcome st c (AddActiveRole s r) ≡ refused 11) ↔ ((u : ℕ) × MayActivate st c s u r × (Authorized st (attachments st) c u r → ⊥))
  unfolding outcome
  refused_iff = (
    λ h.
        let (b, a) = stopped st (unauthorized 11 c its r) (present 12 (active c s its r) ∷ []) refl before refl h in
        (its, shown b, (as_caused st L (unauthorized 11 c its r)).0 a),
    λ z.
        let e = user_is st (rooted L) c s z.0 z.1.is_open in
        stops st (unauthorized 11 c its r) (present 12 (active c s its r) ∷ []) before (all_before (subst (λ u. MayActivate st c s u r) (sym e) z.1))
        ((as_caused st L (unauthorized 11 c its r)).1 (λ A. z.2 (subst (λ u. Authorized st (attachments st) c u r) e A))),
  )

  goes : MayActivate st c s its r → Authorized st (attachments st) c its r → st.stands (active c s its r) ≡ false → outcome st c (AddActiveRole s r) ≡ accepted
  unfolding outcome first_cause
  goes x A n = rw (lt-ltb c 16 x.is_issuer, x.is_enrolled, none_above_15 (s ∷ r ∷ []) x.small, x.is_there, x.is_open, test A, n, first_cause)

  accepted_iff : (outcome st c (AddActiveRole s r) ≡ accepted) ↔ ((u : ℕ) × MayActivate st c s u r × Authorized st (attachments st) c u r × (st.stands (active c s u r) ≡ false))
  accepted_iff = (
    λ h.
        let p = passed st c (AddActiveRole s r) h in (
          its,
          record { is_issuer = ltb-true c 16 p.front.may; is_enrolled = p.front.known refl; small = p.front.small; is_there = p.own.0; is_open = p.own.1.0 },
          authorized_sound st (attachments st) c its r p.own.1.1.0,
          p.own.1.1.1.0,
        ),
    λ z.
        let e = user_is st (rooted L) c s z.0 z.1.is_open in
        goes (subst (λ u. MayActivate st c s u r) (sym e) z.1) (subst (λ u. Authorized st (attachments st) c u r) (sym e) z.2) (ap (λ u. st.stands (active c s u r)) e ∙ z.3),
  )

pub activation : Activation
activation = record {
  junior = λ st i u h r e a. record { through = h; is_held = e; is_reached = down itself a };
  unauthorized_iff = λ ws b c s r W d. (
    λ h. (refused_iff (view ws) W.lawful c s r).0 (is_refused ws b W d 11 (omega arith) h),
    λ x. gives ws b W d 11 ((refused_iff (view ws) W.lawful c s r).1 x),
  );
  accepted_iff = λ ws b c s r W d. (
    λ h. (accepted_iff (view ws) W.lawful c s r).0 (is_accepted ws b W d h),
    λ x. accepts ws b W d ((accepted_iff (view ws) W.lawful c s r).1 x),
  );
}
