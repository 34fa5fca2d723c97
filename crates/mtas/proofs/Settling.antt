-- What settling does, and that a sentence with reach is kept by clearing its facts and then settling, and leaves one state only.
use mathlib.Core.Path.{◌≡◌, refl, sym, ◌∙◌}
use mathlib.Core.Logic.{◌⊎◌, inl, inr}
use mathlib.Core.Bool.{Bool, true, false}
use Prim.Native.Nat.{ℕ}
use Rattle.bits.proofs.Booleans.{clash, untrue, same_test}
use Rattle.mtas.specs.Fact.{Fact, holds, attached, active}
use Rattle.mtas.specs.State.{State}
use Rattle.mtas.specs.Law.{attachments, Authorized}
use Rattle.mtas.specs.Settle.{authorized, settle, Unreached, beyond}
use Rattle.mtas.specs.Cascades.{Clears, Breaks}
use Rattle.mtas.specs.Settling.{Settling}
use Rattle.mtas.proofs.Authorized.{AllNumbered, attachments-numbered, authorized_sound, authorized_complete, more-authorized}
use Rattle.mtas.proofs.Settle.{Fixed, IsActive, settle_is, settle_old, settle_reached, settle_kept, lawful_settled}
use Rattle.mtas.proofs.Step.{next_lawful}

settle-drops : (st : State) → AllNumbered st → Clears (Unreached st) st (settle st)
settle-drops st n = record { gone = λ f x. drop f x; kept = λ f k. keep f k (settle_is f) }
  where
    drop : (f : Fact) → Unreached st f → (settle st).stands f ≡ false
    drop f (beyond {i} {s} {u} {r} x) = untrue _ (λ k. x (settle_reached st i s u r k))

    keep : (f : Fact) → (Unreached st f → ⊥) → (Fixed f) ⊎ (IsActive f) → (settle st).stands f ≡ st.stands f
    keep f k (inl e) = e st
    keep f k (inr (i, s, u, r, e)) = rw e (settle_kept st n i s u r (go (authorized st (attachments st) i u r) refl))
      where
        go : (b : Bool) → authorized st (attachments st) i u r ≡ b → Authorized st (attachments st) i u r
        go true d = authorized_sound st (attachments st) i u r d
        go false d = absurd (k (rw e (beyond (λ A. clash (authorized_complete st (attachments st) i u r n (attachments-numbered st n) A) d))))

-- ---- one state only: what the one leaves the other leaves too
module _ {Gone : Fact → Type 0} {a b c : State} (x : Breaks Gone a b) (y : Breaks Gone a c) where
  stays : (f : Fact) → b.stands f ≡ true → (Unreached c f → ⊥) → c.stands f ≡ true
  stays f h n = y.kept f (λ g. clash h (x.gone f g)) n ∙ sym (x.kept f (λ g. clash h (x.gone f g)) (λ z. clash h (x.dropped f z))) ∙ h

  authorized_too : {i u r : ℕ} → Authorized b (attachments b) i u r → Authorized c (attachments c) i u r
  authorized_too {i} {u} A =
      more-authorized (λ h e. stays (holds i u h) e (λ z. elim z [ ])) (λ p q e. stays (attached q.issuer q.number p.issuer p.number) e (λ z. elim z [ ])) A

  left_too : (f : Fact) → b.stands f ≡ true → c.stands f ≡ true
  left_too f h = stays f h (λ z. clash h (x.dropped f (back z)))
    where
      back : {g : Fact} → Unreached c g → Unreached b g
      back (beyond n) = beyond (λ A. n (authorized_too A))

pub settling : Settling
settling = record {
  drops = settle-drops;
  lawful_settled = lawful_settled;
  always_settled = λ st L c k. lawful_settled _ (next_lawful st L c k);
  one_state = λ Gone a b c x y. λ t. record { stands = λ f. same_test (b.stands f) (c.stands f) (left_too x y f) (left_too y x f) t };
}

-- ---- facts go, and what is left is settled
module _ (st mid : State) (numbered : AllNumbered mid) {Gone : Fact → Type 0} (C : Clears Gone st mid) where
  abbrev D : Clears (Unreached mid) mid (settle mid)
  D = settle-drops mid numbered

  -- exactly those facts go, and the active roles that no held role reaches then
  pub settle_breaks : Breaks Gone st (settle mid)
  settle_breaks = record {
    gone = λ f g. untrue _ (λ k. clash (settle_old mid f k) (C.gone f g));
    dropped = λ f z. D.gone f (back z);
    kept = λ f n m. D.kept f (λ z. m (on z)) ∙ C.kept f n;
  }
    where
      back : {f : Fact} → Unreached (settle mid) f → Unreached mid f
      back (beyond {i} {s} {u} {r} n) =
          beyond (λ A. n (more-authorized (λ h e. D.kept (holds i u h) (λ z. elim z [ ]) ∙ e) (λ p q e. D.kept (attached q.issuer q.number p.issuer p.number) (λ z. elim z [ ]) ∙ e) A))

      on : {f : Fact} → Unreached mid f → Unreached (settle mid) f
      on (beyond {i} {s} {u} {r} n) =
          beyond (λ A. n (more-authorized (λ h e. settle_old mid (holds i u h) e) (λ p q e. settle_old mid (attached q.issuer q.number p.issuer p.number) e) A))

  -- where no attachment went, and with a holding the active roles of its user, no reach is broken
  pub settle_clears : ((i s u r : ℕ) → st.stands (active i s u r) ≡ true → Authorized st (attachments st) i u r) → ((j q i r : ℕ) → Gone (attached j q i r) → ⊥)
      → ((i s u r h : ℕ) → Gone (holds i u h) → Gone (active i s u r)) → Clears Gone st (settle mid)
  settle_clears reached no_link with_it = record {
    gone = settle_breaks.gone;
    kept = λ f n. same_test _ _ (settle_old mid f) (λ k. D.kept f (unbroken f n k) ∙ k) ∙ C.kept f n;
  }
    where
      whole : (i s u r : ℕ) → (Gone (active i s u r) → ⊥) → mid.stands (active i s u r) ≡ true → Authorized mid (attachments mid) i u r
      whole i s u r n k =
          more-authorized
          (λ h e. C.kept (holds i u h) (λ y. n (with_it i s u r h y)) ∙ e)
          (λ p q e. C.kept (attached q.issuer q.number p.issuer p.number) (no_link q.issuer q.number p.issuer p.number) ∙ e)
          (reached i s u r (sym (C.kept (active i s u r) n) ∙ k))

      unbroken : (f : Fact) → (Gone f → ⊥) → mid.stands f ≡ true → Unreached mid f → ⊥
      unbroken f n k (beyond {i} {s} {u} {r} x) = x (whole i s u r n k)
