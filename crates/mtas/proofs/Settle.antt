-- What settling leaves: every fact but the active roles, and of these the ones that a held role reaches.
use mathlib.Core.Path.{◌≡◌, refl, sym, ◌∙◌}
use mathlib.Core.Logic.{◌⊎◌, inl, inr}
use mathlib.Core.Bool.{true, ◌&&◌, and-true}
use Prim.Native.Nat.{ℕ}
use Rattle.bits.proofs.Booleans.{and_left, and_right, same_test}
use Rattle.mtas.specs.Fact.{Fact, enrolled, trusts, user, role, permission, public, holds, granted, attached, opened, active}
use Rattle.mtas.specs.Needs.{needs, exposed}
use Rattle.mtas.specs.State.{State}
use Rattle.mtas.specs.Hierarchy.{Role}
use Rattle.mtas.specs.Law.{In, attachments, Authorized, Lawful}
use Rattle.mtas.specs.Settle.{authorized, settle}
use Rattle.mtas.proofs.Exposed.{exposed_has}
use Rattle.mtas.proofs.Facts.{All, all_in}
use Rattle.mtas.proofs.Authorized.{AllNumbered, attachments-numbered, authorized_sound, authorized_complete, more-authorized}

-- a fact that settling leaves as it was
abbrev pub Fixed : Fact → Type 0
Fixed f = (st : State) → (settle st).stands f ≡ st.stands f

-- only an active role is none
abbrev pub IsActive : Fact → Type 0
IsActive f = (i s u r : ℕ) × (f ≡ active i s u r)

pub settle_is : (f : Fact) → (Fixed f) ⊎ (IsActive f)
unfolding settle
settle_is (enrolled i) = inl (λ st. refl)
settle_is (trusts i j) = inl (λ st. refl)
settle_is (user i u) = inl (λ st. refl)
settle_is (role i r) = inl (λ st. refl)
settle_is (permission i p) = inl (λ st. refl)
settle_is (public i r) = inl (λ st. refl)
settle_is (holds i u r) = inl (λ st. refl)
settle_is (granted j p i r) = inl (λ st. refl)
settle_is (attached j q i r) = inl (λ st. refl)
settle_is (opened i s u) = inl (λ st. refl)
settle_is (active i s u r) = inr (i, s, u, r, refl)

module _ (st : State) where
  pub settle_active : (i s u r : ℕ) → (settle st).stands (active i s u r) ≡ st.stands (active i s u r) && authorized st (attachments st) i u r
  unfolding settle
  settle_active i s u r = refl

  pub settle_opened : (i s u : ℕ) → (settle st).stands (opened i s u) ≡ st.stands (opened i s u)
  unfolding settle
  settle_opened i s u = refl

  settle_holds : (i u r : ℕ) → (settle st).stands (holds i u r) ≡ st.stands (holds i u r)
  unfolding settle
  settle_holds i u r = refl

  settle_links : (a b : Role) → attachments (settle st) a b ≡ attachments st a b
  unfolding settle
  settle_links a b = refl

  pub settle_old : (f : Fact) → (settle st).stands f ≡ true → st.stands f ≡ true
  settle_old f h = go (settle_is f)
    where
      go : (Fixed f) ⊎ (IsActive f) → st.stands f ≡ true
      go (inl e) = sym (e st) ∙ h
      go (inr (i, s, u, r, e)) = rw e (and_left (st.stands (active i s u r)) (authorized st (attachments st) i u r) (sym (settle_active i s u r) ∙ (rw e at h)))

  exposed_settled : (j i r : ℕ) → (settle st).stands (exposed j i r) ≡ st.stands (exposed j i r)
  unfolding settle
  exposed_settled j i r = exposed_has (λ f. (settle st).stands f ≡ st.stands f) j i r (λ _. refl) (λ _. refl)

  -- no fact needs an active role
  needs_settled : (f : Fact) → All (λ g. (settle st).stands g ≡ st.stands g) (needs f)
  unfolding settle
  needs_settled (enrolled i) = search
  needs_settled (trusts i j) = search
  needs_settled (user i u) = search
  needs_settled (role i r) = search
  needs_settled (permission i p) = search
  needs_settled (public i r) = search
  needs_settled (holds i u r) = search
  needs_settled (granted j p i r) = search exposed_settled
  needs_settled (attached j q i r) = search exposed_settled
  needs_settled (opened i s u) = search
  needs_settled (active i s u r) = search

  pub settle_need : (f g : Fact) → In g (needs f) → (settle st).stands g ≡ st.stands g
  settle_need f g m = all_in (λ x. (settle st).stands x ≡ st.stands x) (needs_settled f) m

  -- who is authorized is so before and after
  pub settle_authorized : {i u r : ℕ} → Authorized st (attachments st) i u r → Authorized (settle st) (attachments (settle st)) i u r
  settle_authorized {i} {u} A = more-authorized (λ h e. settle_holds i u h ∙ e) (λ a b e. settle_links a b ∙ e) A

  -- an active role that stays is reached
  pub settle_reached : (i s u r : ℕ) → (settle st).stands (active i s u r) ≡ true → Authorized st (attachments st) i u r
  settle_reached i s u r h =
      authorized_sound st (attachments st) i u r (and_right (st.stands (active i s u r)) (authorized st (attachments st) i u r) (sym (settle_active i s u r) ∙ h))

  -- one that is reached stays
  pub settle_kept : AllNumbered st → (i s u r : ℕ) → Authorized st (attachments st) i u r → (settle st).stands (active i s u r) ≡ st.stands (active i s u r)
  settle_kept n i s u r A =
      settle_active i s u r ∙ rw (authorized_complete st (attachments st) i u r n (attachments-numbered st n) A) (and-true (st.stands (active i s u r)))

-- where every active role is reached settling changes nothing, and so on a lawful state
pub reached-settled : (st : State) → AllNumbered st → ((i s u r : ℕ) → st.stands (active i s u r) ≡ true → Authorized st (attachments st) i u r) → settle st ≡ st
reached-settled st n reached = λ t. record { stands = λ f. go f (settle_is f) t }
  where
    go : (f : Fact) → (Fixed f) ⊎ (IsActive f) → (settle st).stands f ≡ st.stands f
    go f (inl e) = e st
    go f (inr (i, s, u, r, e)) = rw e (same_test _ _ (settle_old st (active i s u r)) (λ k. settle_kept st n i s u r (reached i s u r k) ∙ k))

pub lawful_settled : (st : State) → Lawful st → settle st ≡ st
lawful_settled st L = reached-settled st L.numbered L.reached
