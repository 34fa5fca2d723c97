-- A guard that alone has its number: it is given exactly where all before it passed and it applies. What a guard's test says is its cause.
use mathlib.Core.Path.{◌≡◌, refl, ap}
use mathlib.Core.List.{List, [], ◌∷◌, ◌++◌}
use mathlib.Core.Bool.{Bool, true, false, not, ◌&&◌}
use Prim.Native.Nat.{ℕ}
use lib.Dec.{eqb}
use borrow.Author.Tests.{eq-eqb, not-true}
use Rattle.bits.proofs.Booleans.{clash, untrue, and_left, and_right}
use Rattle.mtas.specs.State.{State}
use Rattle.mtas.specs.Law.{attachments}
use Rattle.mtas.specs.Rule.{Guard, absent, present, wrong, reached, unauthorized, cause, applies}
use Rattle.mtas.specs.Answer.{refused, first_cause}
use Rattle.mtas.specs.Refusals.{AsCaused}
use Rattle.mtas.proofs.Hierarchy.{reaches-sound, reaches-complete}
use Rattle.mtas.proofs.Authorized.{attachments-numbered, authorized_sound, authorized_complete}
use Rattle.mtas.proofs.Guards.{Passes, Clear, passes}
use Rattle.mtas.proofs.Step.{differ}

-- no guard of the list has the number n
abbrev pub spares : ℕ → List Guard → Bool
spares n [] = true
spares n (g ∷ l) = not (eqb (cause g) n) && spares n l

module _ (st : State) where
  not_refused : (n : ℕ) (l : List Guard) → spares n l ≡ true → first_cause st l ≡ refused n → ⊥
  unfolding first_cause
  not_refused n [] s h = differ (cc)
  not_refused n (g ∷ l) s h = go (not_refused n l (and_right (not (eqb (cause g) n)) (spares n l) s)) (applies st g) refl
    where
      go : (first_cause st l ≡ refused n → ⊥) → (b : Bool) → applies st g ≡ b → ⊥
      go rec true e =
          let q : cause g ≡ n = cc (rw (e, first_cause) at h) in
          clash (eq-eqb (cause g) n q) (not-true _ (and_left (not (eqb (cause g) n)) (spares n l) s))
      go rec false e = rec (rw (e, first_cause) at h)

  module _ (g : Guard) (l : List Guard) (behind : spares (cause g) l ≡ true) where
    -- where its number is given, all before it passed, and it applies
    pub stopped : (m : List Guard) → spares (cause g) m ≡ true → first_cause st (m ++ (g ∷ l)) ≡ refused (cause g) → Clear st m × (applies st g ≡ true)
    unfolding first_cause
    stopped [] s h = (tt, go (applies st g) refl)
      where
        go : (b : Bool) → applies st g ≡ b → applies st g ≡ true
        go true e = e
        go false e = absurd (not_refused (cause g) l behind (rw (e, first_cause) at h))
    stopped (x ∷ m) s h = go (stopped m (and_right (not (eqb (cause x) (cause g))) (spares (cause g) m) s)) (applies st x) refl
      where
        go : (first_cause st (m ++ (g ∷ l)) ≡ refused (cause g) → Clear st m × (applies st g ≡ true)) → (b : Bool) → applies st x ≡ b → Clear st (x ∷ m) × (applies st g ≡ true)
        go rec true e =
            let q : cause x ≡ cause g = cc (rw (e, first_cause) at h) in
            absurd (clash (eq-eqb (cause x) (cause g) q) (not-true _ (and_left (not (eqb (cause x) (cause g))) (spares (cause g) m) s)))
        go rec false e = let (c, a) = rec (rw (e, first_cause) at h) in ((passes st x e, c), a)

  passed_over : (g : Guard) → Passes st g → applies st g ≡ false
  passed_over (absent n f) h = ap not h
  passed_over (present n f) h = h
  passed_over (wrong n b) h = h
  passed_over (reached n a b) h = h
  passed_over (unauthorized n i u r) h = ap not h

  pub stops : (g : Guard) (l m : List Guard) → Clear st m → applies st g ≡ true → first_cause st (m ++ (g ∷ l)) ≡ refused (cause g)
  unfolding first_cause
  stops g l [] c a = rw (a, first_cause)
  stops g l (x ∷ m) c a = rw (passed_over x c.0, first_cause) (stops g l m c.1 a)

-- on a lawful state a guard applies exactly where its cause of refusal does
pub as_caused : AsCaused
as_caused st L (absent n f) = (λ h. not-true _ h, λ h. ap not h)
as_caused st L (present n f) = (λ h. h, λ h. h)
as_caused st L (wrong n b) = (λ h. h, λ h. h)
as_caused st L (reached n a b) = (reaches-sound (attachments st) a b, λ w. reaches-complete (attachments st) (attachments-numbered st L.numbered) w)
as_caused st L (unauthorized n i u r) = (
  λ h A. clash (authorized_complete st (attachments st) i u r L.numbered (attachments-numbered st L.numbered) A) (not-true _ h),
  λ k. ap not (untrue _ (λ e. k (authorized_sound st (attachments st) i u r e))),
)
