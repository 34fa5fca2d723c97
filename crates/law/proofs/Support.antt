-- Supported words are those with no stray bits: what a fact needs at first hand brings the rest.
use Rattle.std.proofs.Common.{◌≡◌, refl, sym, ◌∙◌, List, ◌∷◌, ◌↔◌, true, ℕ, ◌<◌, arith, get_or}
use Rattle.bits.specs.Gather.{gather}
use Rattle.bits.proofs.Gather.{gather-zero}
use Rattle.mtas.specs.Fact.{Fact, enrolled, trusts, user, role, permission, public, holds, granted, attached, opened, active, numbers, Below16}
use Rattle.mtas.specs.Needs.{enrolment, exposed, needs}
use Rattle.mtas.specs.Law.{In, here, there}
use Rattle.mtas.specs.Layout.{Word, bit_of, place, view}
use Rattle.mtas.proofs.Exposed.{exposed_has}
use Rattle.mtas.proofs.Facts.{All, all_in}
use Rattle.mtas.proofs.Words.{view_says, view_numbered}
use Rattle.law.specs.Supported.{Supported}
use Rattle.law.specs.Stray.{issuer_stray}
use Rattle.law.proofs.Conditions.{Stated, Conditions, issuer_zero}

module _ (ws : List ℕ) where
  abbrev Stands : Fact → Type 0
  Stands f = (view ws).stands f ≡ true

  stated : (f : Fact) → Stands f → Stated ws f
  stated f h = sym (view_says ws f (view_numbered ws f h)) ∙ h

  stood : (f : Fact) → Below16 (numbers f) → Stated ws f → Stands f
  stood f b h = view_says ws f b ∙ h

  module _ (of : (i : ℕ) → i < 16 → Conditions ws i) where
    enrolment_stands : (i : ℕ) → i < 16 → Stated ws (enrolled i) → All Stands (enrolment i)
    enrolment_stands i l h = (stood (enrolled i) (omega arith) h, (stood (trusts i i) (omega arith) ((of i l).itself h), tt))

    trusts_need : (i j : ℕ) → Stands (trusts i j) → All Stands (needs (trusts i j))
    trusts_need i j h =
        let (li, (lj, _)) = view_numbered ws (trusts i j) h in
        let (a, b) = (of i li).trust j lj (stated (trusts i j) h) in
        let (x, (y, _)) = enrolment_stands i li a in
        (x, (y, enrolment_stands j lj b))

    user_needs : (i u : ℕ) → Stands (user i u) → All Stands (enrolment i)
    user_needs i u h = let (li, (lu, _)) = view_numbered ws (user i u) h in enrolment_stands i li ((of i li).users_of u lu (stated (user i u) h))

    holds_need : (i u r : ℕ) → Stands (holds i u r) → All Stands (needs (holds i u r))
    holds_need i u r h =
        let (li, (lu, (lr, _))) = view_numbered ws (holds i u r) h in
        let (a, b) = (of i li).held_by u lu r lr (stated (holds i u r) h) in
        let x = stood (user i u) (omega arith) a in
        (x, (stood (role i r) (omega arith) b, user_needs i u x))

    -- an exposed role is there
    exposed_needs : (j i r : ℕ) → i < 16 → r < 16 → Stated ws (exposed j i r) → Stands (role i r) × Stands (exposed j i r)
    exposed_needs j i r li lr =
        exposed_has (λ f. Stated ws f → Stands (role i r) × Stands f) j i r
        (λ _ y. let x = stood (role i r) (omega arith) y in (x, x))
        (λ _ y. (stood (role i r) (omega arith) ((of i li).public_of r lr y), stood (public i r) (omega arith) y))

    -- what a grant and an attachment need
    link_needs : (f : Fact) (j i r : ℕ) → j < 16 → i < 16 → r < 16 → Below16 (numbers f) → Stated ws f × Stated ws (trusts i j) × Stated ws (exposed j i r)
        → All Stands (f ∷ role i r ∷ exposed j i r ∷ trusts i j ∷ needs (trusts i j))
    link_needs f j i r lj li lr b (x, t, y) =
        let z = stood (trusts i j) (omega arith) t in
        let (o, e) = exposed_needs j i r li lr y in
        (stood f b x, (o, (e, (z, trusts_need i j z))))

    needs_stand : (f : Fact) (w : Word) (n : ℕ) → place f ≡ bit_of w n → Stands f → All Stands (needs f)
    needs_stand (enrolled i) w n e h = let (li, _) = view_numbered ws (enrolled i) h in (enrolment_stands i li (stated (enrolled i) h)).1
    needs_stand (trusts i j) w n e h = trusts_need i j h
    needs_stand (user i u) w n e h = user_needs i u h
    needs_stand (role i r) w n e h = let (li, (lr, _)) = view_numbered ws (role i r) h in enrolment_stands i li ((of i li).roles_of r lr (stated (role i r) h))
    needs_stand (permission i p) w n e h =
        let (li, (lp, _)) = view_numbered ws (permission i p) h in
        enrolment_stands i li ((of i li).permissions_of p lp (stated (permission i p) h))
    needs_stand (public i r) w n e h =
        let (li, (lr, _)) = view_numbered ws (public i r) h in
        let x = (of i li).public_of r lr (stated (public i r) h) in
        (stood (role i r) (omega arith) x, enrolment_stands i li ((of i li).roles_of r lr x))
    needs_stand (holds i u r) w n e h = holds_need i u r h
    needs_stand (granted j p i r) w n e h =
        let (lj, (lp, (li, (lr, _)))) = view_numbered ws (granted j p i r) h in
        link_needs (permission j p) j i r lj li lr (omega arith) ((of j lj).grants p lp i li r lr (stated (granted j p i r) h))
    needs_stand (attached j q i r) w n e h =
        let (lj, (lq, (li, (lr, _)))) = view_numbered ws (attached j q i r) h in
        link_needs (role j q) j i r lj li lr (omega arith) ((of j lj).attachments_of q lq i li r lr (stated (attached j q i r) h))
    needs_stand (opened i s u) w n p h = absurd (let z : ◌≡◌ {A = ℕ} 0 1 = cc in omega arith)
    needs_stand (active i s u r) w n p h = absurd (let z : ◌≡◌ {A = ℕ} 0 1 = cc in omega arith)

    conditions_supported : Supported ws
    conditions_supported = record { supported = λ f g w n p h m. all_in Stands (needs_stand f w n p h) m }

  module _ (wide : (k : ℕ) → get_or ws k 0 < 65536) (S : Supported ws) where
    need : (f g : Fact) {w : Word} {n : ℕ} → place f ≡ bit_of w n → Below16 (numbers f) → Stated ws f → In g (needs f) → Stated ws g
    need f g {w} {n} p b h m = stated g (S.supported f g w n p (stood f b h) m)

    supported_conditions : (i : ℕ) → i < 16 → Conditions ws i
    supported_conditions i li = record {
      trust = λ j lj h. (need (trusts i j) (enrolled i) refl (omega arith) h here, need (trusts i j) (enrolled j) refl (omega arith) h (search (here, there)));
      itself = λ h. need (enrolled i) (trusts i i) refl (omega arith) h here;
      users_of = λ u lu h. need (user i u) (enrolled i) refl (omega arith) h here;
      roles_of = λ r lr h. need (role i r) (enrolled i) refl (omega arith) h here;
      permissions_of = λ p lp h. need (permission i p) (enrolled i) refl (omega arith) h here;
      public_of = λ r lr h. need (public i r) (role i r) refl (omega arith) h here;
      held_by = λ u lu r lr h. (need (holds i u r) (user i u) refl (omega arith) h here, need (holds i u r) (role i r) refl (omega arith) h (there here));
      grants = λ p lp k lk r lr h. (
        need (granted i p k r) (permission i p) refl (omega arith) h here,
        need (granted i p k r) (trusts k i) refl (omega arith) h (there (there (there here))),
        need (granted i p k r) (exposed i k r) refl (omega arith) h (there (there here)),
      );
      attachments_of = λ q lq k lk r lr h. (
        need (attached i q k r) (role i q) refl (omega arith) h here,
        need (attached i q k r) (trusts k i) refl (omega arith) h (there (there (there here))),
        need (attached i q k r) (exposed i k r) refl (omega arith) h (there (there here)),
      );
    }

  pub supported_zero : ((k : ℕ) → get_or ws k 0 < 65536) → (gather 16 (issuer_stray ws) ≡ 0) ↔ Supported ws
  supported_zero wide = (
    λ e. conditions_supported (λ i l. (issuer_zero ws wide i l).0 ((gather-zero 16 (issuer_stray ws)).0 e i l)),
    λ S. (gather-zero 16 (issuer_stray ws)).1 (λ i l. (issuer_zero ws wide i l).1 (supported_conditions wide S i l)),
  )
