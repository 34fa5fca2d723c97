-- What an action needs, what it changes, and whom a press obeys.
use Rattle.std.proofs.Common.{◌≡◌, refl, ap, sym, subst, ◌∙◌, ◌↔◌, ◌≢◌, List, [], ◌∷◌, ℕ, suc, ◌<◌, arith, length, get_or, length-set, get_or-set_same, get_or-set_other}
use mathlib.Core.Option.{some}
use native.Mathlib.Decide.{ℕ_discrete}
use lib.ListN.{get_elem?}
use Rattle.mtas.specs.Chain.{Chain}
use Rattle.mtas.specs.Layout.{view}
use Rattle.mtas.proofs.Chain.{chains}
use Rattle.press.specs.Acted.{act}
use Rattle.press.specs.Errors.{Given, misfits, is_turned_away, at_wrong_stage, goes_ahead}
use Rattle.press.specs.Floor.{Request, floor}
use Rattle.press.specs.Laws.{Fits, MayGoAhead, OnlyThatPress, PressLaws}
use Rattle.press.proofs.Misfits.{fitting, no_misfit}
use Rattle.press.proofs.Asking.{yes_iff}
use Rattle.press.proofs.Errors.{Went, Ended, ahead, stopped, ended, errors}

module _ (ws owners stages : List ℕ) (press action i s : ℕ) where
  abbrev owner : ℕ
  owner = get_or owners press 0

  zero_went : (act ws owners stages press action i s).error ≡ 0 → Went ws owners stages press action i s
  zero_went z = go (ended ws owners stages press action i s)
    where
      go : Ended ws owners stages press action i s → Went ws owners stages press action i s
      go (ahead w) = w
      go (stopped n d g h) = absurd (d (ap (λ r. r.error) (sym h) ∙ z))

  its_fit : Went ws owners stages press action i s → Fits owners stages press action
  its_fit w = fitting owners stages press action w.in_its_order

  fits_iff : ((act ws owners stages press action i s).error ≢ 17) ↔ Fits owners stages press action
  fits_iff = (
    λ n. fitting owners stages press action (λ m. n ((errors ws owners stages press action i s 17).1 (misfits m))),
    λ f e. go f ((errors ws owners stages press action i s 17).0 e) refl,
  )
    where
      go : Fits owners stages press action → {n : ℕ} → Given ws owners stages press action i s n → n ≡ 17 → ⊥
      go f (misfits m) e = no_misfit owners stages press action f m
      go f (is_turned_away x t) e = omega (arith, e)
      go f (at_wrong_stage x a t) e = omega (arith, e)
      go f (goes_ahead x a t) e = omega (arith, e)

  ahead_iff : ((act ws owners stages press action i s).error ≡ 0) ↔ MayGoAhead ws owners stages press action i s
  ahead_iff = (λ z. needed (zero_went z), λ m. (errors ws owners stages press action i s 0).1 (enough m))
    where
      needed : Went ws owners stages press action i s → MayGoAhead ws owners stages press action i s
      needed w =
          let (W, m) = (yes_iff ws owner action i s).0 w.its_welcome in
          record { fits = its_fit w; lawful = W; may = m; next = w.next; leads = w.leads }

      enough : MayGoAhead ws owners stages press action i s → Given ws owners stages press action i s 0
      enough m = goes_ahead (no_misfit owners stages press action m.fits) ((yes_iff ws owner action i s).1 (m.lawful, m.may)) (λ x. x m.next m.leads)

  -- the press is among the stages
  in_range : Went ws owners stages press action i s → press < length stages
  in_range w = omega (arith, (its_fit w).stages_32, (its_fit w).a_press)

  only_that : Went ws owners stages press action i s → OnlyThatPress press action stages (act ws owners stages press action i s).stages
  only_that w = rw w.left (record {
    as_long = length-set stages press w.next;
    led = rw (get_or-set_same stages press w.next 0 (in_range w)) w.leads;
    others = λ k n. get_or-set_other stages press k w.next 0 n;
  })

  kept : (act ws owners stages press action i s).error ≢ 0 → (act ws owners stages press action i s).stages ≡ stages
  kept n = go (ended ws owners stages press action i s)
    where
      go : Ended ws owners stages press action i s → (act ws owners stages press action i s).stages ≡ stages
      go (ahead w) = absurd (n (ap (λ r. r.error) w.left))
      go (stopped m d g h) = ap (λ r. r.stages) h

  words_kept : (act ws owners stages press action i s).words ≡ ws
  words_kept = go (ended ws owners stages press action i s)
    where
      go : Ended ws owners stages press action i s → (act ws owners stages press action i s).words ≡ ws
      go (ahead w) = ap (λ r. r.words) w.left
      go (stopped m d g h) = ap (λ r. r.words) h

  chained : (act ws owners stages press action i s).error ≡ 0 → Chain (view ws) i owner
  chained z = let m = ahead_iff.0 z in chains.used (view ws) m.lawful.lawful owner action i s m.may

  -- the byte of a press that isn't moved
  byte_kept : (k : ℕ) → (press ≡ k → Chain (view ws) i (get_or owners k 0) → ⊥) → get_or (act ws owners stages press action i s).stages k 0 ≡ get_or stages k 0
  byte_kept k n = go (ℕ_discrete (act ws owners stages press action i s).error 0) (ℕ_discrete press k)
    where
      go : Dec ((act ws owners stages press action i s).error ≡ 0) → Dec (press ≡ k) → get_or (act ws owners stages press action i s).stages k 0 ≡ get_or stages k 0
      go (no e) d = ap (λ l. get_or l k 0) (kept e)
      go (yes z) (yes p) = absurd (n p (subst (λ x. Chain (view ws) i (get_or owners x 0)) p (chained z)))
      go (yes z) (no p) = (only_that (zero_went z)).others k (λ q. p (sym q))

still : (ws owners stages : List ℕ) (k : ℕ) (l : List Request)
    → ((n : ℕ) (q : Request) → get_elem? l n ≡ some q → q.press ≡ k → Chain (view ws) q.issuer (get_or owners k 0) → ⊥)
    → get_or (floor ws owners stages l).stages k 0 ≡ get_or stages k 0
unfolding floor
still ws owners stages k [] none = refl
still ws owners stages k (q ∷ l) none =
    let r = act ws owners stages q.press q.action q.issuer q.session in
    let w : r.words ≡ ws = words_kept ws owners stages q.press q.action q.issuer q.session in
    still r.words owners r.stages k l (λ n. rw w (none (suc n)))
    ∙ byte_kept ws owners stages q.press q.action q.issuer q.session k (none 0 q refl)

pub press_laws : PressLaws
press_laws = record {
  fits_iff = fits_iff;
  ahead_iff = ahead_iff;
  one_byte = λ ws owners stages press action i s z. only_that ws owners stages press action i s (zero_went ws owners stages press action i s z);
  no_byte = kept;
  words_stay = words_kept;
  no_chain = λ ws owners stages press action i s n.
      let e : (act ws owners stages press action i s).error ≢ 0 = (λ z. n (chained ws owners stages press action i s z)) in
      (e, kept ws owners stages press action i s e);
  stands_still = still;
}
