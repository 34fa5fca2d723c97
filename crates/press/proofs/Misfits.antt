-- The test for error 17 says its causes.
use Rattle.std.proofs.Common.{sym, ◌≡◌, refl, ap, ◌⊎◌, inl, inr, ◌≢◌, ◌∙◌, Bool, true, false, not, ◌||◌, List, [], ◌∷◌, ℕ, zero, suc, ◌<◌, ◌≤◌, arith, eqb, ltb, length, take, get_or, eq-eqb, ne_eqb, lt-ltb, ltb-true}
use native.Mathlib.Decide.{ℕ_discrete}
use native.Mathlib.Numerals.{add-one}
use lib.ListN.{get_or-eq_default}
use borrow.Author.Tests.{not-true}
use Rattle.bits.proofs.Booleans.{clash, or_left, or_right, below_or_not}
use Rattle.std.specs.List.{fold, list_any}
use Rattle.std.proofs.lemmas.List.Folds.{Any-from_list_any, list_any_at, list_any_more}
use Rattle.std.proofs.lemmas.List.Sums.{fold_more}
use Rattle.std.proofs.lemmas.List.{get_or_read_under, take_all}
use Rattle.press.specs.Acted.{some_above, some_of, misfit}
use Rattle.press.specs.Errors.{Misfit, owners_not_32, stages_not_32, press_above_31, action_above_4, owner_above_15, stage_above_3}
use Rattle.press.specs.Laws.{Fits}

-- what passes is found by looking at each
pub fold_any : (p : ℕ → Bool) (l : List ℕ) → fold (λ a b. a || p b) false l ≡ list_any p l
fold_any p l = ap (fold (λ a b. a || p b) false) (sym all) ∙ front (length l) (omega arith) ∙ ap (list_any p) all
  where
    all : take (length l) l ≡ l
    all = take_all (length l) l (omega arith)

    front : (k : ℕ) → k ≤ length l → fold (λ a b. a || p b) false (take k l) ≡ list_any p (take k l)
    front zero h = refl
    front (suc k) h = rw (← add-one k, fold_more (λ a b. a || p b) false l k 0 (omega arith), list_any_more p l k 0 (omega arith), front k (omega arith))

pub above_elim : (n : ℕ) (l : List ℕ) → some_above n l ≡ true → (k : ℕ) × (n < get_or l k 0)
above_elim n l h =
    let (k, x, m, e, p) = Any-from_list_any (λ b. ltb n b) l h in
    let f : x ≡ get_or l k 0 = get_or_read_under l k (length l) x 0 (sym e) m refl in
    (k, ltb-true n _ (rw f at p))

above_intro : (n : ℕ) (l : List ℕ) (k : ℕ) → n < get_or l k 0 → some_above n l ≡ true
above_intro n l k h = go (below_or_not k (length l))
  where
    go : (k < length l) ⊎ (length l ≤ k) → some_above n l ≡ true
    go (inl m) = list_any_at (λ b. ltb n b) l k 0 m (lt-ltb n _ h)
    go (inr m) = absurd (omega (arith, get_or-eq_default l 0 m))

unequal : (n m : ℕ) → not (eqb n m) ≡ true → n ≢ m
unequal n m h e = clash (eq-eqb n m e) (not-true _ h)

-- some test of the list is true, and which
abbrev Some : List Bool → Type 0
Some [] = ⊥
Some (b ∷ l) = (b ≡ true) ⊎ Some l

some_elim : (l : List Bool) → some_of l ≡ true → Some l
some_elim [] h = absurd (clash h refl)
some_elim (true ∷ l) h = inl refl
some_elim (false ∷ l) h = inr (some_elim l h)

some_intro : (l : List Bool) → Some l → some_of l ≡ true
some_intro [] h = elim h [ ]
some_intro (b ∷ l) (inl h) = or_left b (some_of l) h
some_intro (b ∷ l) (inr h) = or_right b (some_of l) (some_intro l h)

module _ (owners stages : List ℕ) (press action : ℕ) where
  abbrev tests : List Bool
  tests = not (eqb (length owners) 32) ∷ not (eqb (length stages) 32) ∷ ltb 31 press ∷ ltb 4 action ∷ some_above 15 owners ∷ some_above 3 stages ∷ []

  told : Misfit owners stages press action → Some tests
  told (owners_not_32 n) = inl (ap not (ne_eqb _ _ n))
  told (stages_not_32 n) = inr (inl (ap not (ne_eqb _ _ n)))
  told (press_above_31 h) = inr (inr (inl (lt-ltb 31 press h)))
  told (action_above_4 h) = inr (inr (inr (inl (lt-ltb 4 action h))))
  told (owner_above_15 k h) = inr (inr (inr (inr (inl (above_intro 15 owners k h)))))
  told (stage_above_3 k h) = inr (inr (inr (inr (inr (inl (above_intro 3 stages k h))))))

  cause : Some tests → Misfit owners stages press action
  cause (inl t) = owners_not_32 (unequal _ _ t)
  cause (inr (inl t)) = stages_not_32 (unequal _ _ t)
  cause (inr (inr (inl t))) = press_above_31 (ltb-true 31 press t)
  cause (inr (inr (inr (inl t)))) = action_above_4 (ltb-true 4 action t)
  cause (inr (inr (inr (inr (inl t))))) = let (k, m) = above_elim 15 owners t in owner_above_15 k m
  cause (inr (inr (inr (inr (inr (inl t)))))) = let (k, m) = above_elim 3 stages t in stage_above_3 k m
  cause (inr (inr (inr (inr (inr (inr t)))))) = absurd t

  pub misfit_complete : Misfit owners stages press action → misfit owners stages press action ≡ true
  unfolding misfit
  misfit_complete m = some_intro tests (told m)

  pub misfit_sound : misfit owners stages press action ≡ true → Misfit owners stages press action
  unfolding misfit
  misfit_sound h = cause (some_elim tests h)

  pub in_order : misfit owners stages press action ≡ false → Misfit owners stages press action → ⊥
  in_order e m = clash (misfit_complete m) e

-- ---- no cause of 17 is what fits
pub fitting : (owners stages : List ℕ) (press action : ℕ) → (Misfit owners stages press action → ⊥) → Fits owners stages press action
fitting owners stages press action f = record {
  owners_32 = equal (length owners) (λ n. f (owners_not_32 n));
  stages_32 = equal (length stages) (λ n. f (stages_not_32 n));
  a_press = below press 32 (λ h. f (press_above_31 (omega arith)));
  an_action = below action 5 (λ h. f (action_above_4 (omega arith)));
  issuers = λ k. below (get_or owners k 0) 16 (λ h. f (owner_above_15 k (omega arith)));
  four_stages = λ k. below (get_or stages k 0) 4 (λ h. f (stage_above_3 k (omega arith)));
}
  where
    equal : (n : ℕ) → (n ≢ 32 → ⊥) → n ≡ 32
    equal n h = go (ℕ_discrete n 32)
      where
        go : Dec (n ≡ 32) → n ≡ 32
        go (yes e) = e
        go (no d) = absurd (h d)

    below : (n m : ℕ) → (m ≤ n → ⊥) → n < m
    below n m h = go (below_or_not n m)
      where
        go : (n < m) ⊎ (m ≤ n) → n < m
        go (inl l) = l
        go (inr l) = absurd (h l)

pub no_misfit : (owners stages : List ℕ) (press action : ℕ) → Fits owners stages press action → Misfit owners stages press action → ⊥
no_misfit owners stages press action f (owners_not_32 n) = n f.owners_32
no_misfit owners stages press action f (stages_not_32 n) = n f.stages_32
no_misfit owners stages press action f (press_above_31 h) = omega (arith, f.a_press)
no_misfit owners stages press action f (action_above_4 h) = omega (arith, f.an_action)
no_misfit owners stages press action f (owner_above_15 k h) = omega (arith, f.issuers k)
no_misfit owners stages press action f (stage_above_3 k h) = omega (arith, f.four_stages k)
