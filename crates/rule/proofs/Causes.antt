-- A row has the causes that it is made of: at each place the one of that number, or none.
use Rattle.std.proofs.Common.{◌≡◌, refl, subst, ap, ◌∙◌, ℕ, zero, suc, ◌+◌, ◌<◌, ◌≤◌, List, [], ◌∷◌, length, get_or, arith}
use Rattle.std.specs.Prelude.{Option, None, map, slice_get}
use Rattle.std.specs.Array.{IsFromFnResult, IsFromFnResultFrom}
use Rattle.std.specs.Fn.{Called}
use denote.Param.Members.{Mut}
use mathlib.Core.Logic.{◌⊎◌, inl, inr}
use Rattle.std.proofs.lemmas.Bool.{cases_lt}
use Rattle.rule.specs.declared.Guard.{Guard}
use Rattle.rule.specs.Table.{guard_of, guards_of}

same_guards : (ys : List (Option Guard)) (gs : List Guard) → ((i : ℕ) → i < length ys → get_or ys i None ≡ slice_get gs i) → length gs ≤ length ys → guards_of ys ≡ map guard_of gs
same_guards [] [] h l = refl
same_guards [] (x ∷ gs) h l = absurd (omega arith)
same_guards (y ∷ ys) [] h l = rw (h 0 (omega arith)) (same_guards ys [] (λ i m. h (suc i) (omega arith)) (omega arith))
same_guards (y ∷ ys) (x ∷ gs) h l = rw (h 0 (omega arith)) (ap (λ m. guard_of x ∷ m) (same_guards ys gs (λ i m. h (suc i) (omega arith)) (omega arith)))

module _ {F : Type 0} {g : Mut F (ℕ × Unit {0}) (Option Guard)} {f : F} (gs : List Guard) (gives : (i : ℕ) (r : Option Guard) (q : F) → Called g f (i, tt) r q → (q ≡ f) × (r ≡ slice_get gs i)) where
  each : (ys : List (Option Guard)) (n t : ℕ) (p : F) → p ≡ f → IsFromFnResultFrom g p ys t n → (i : ℕ) → t ≤ i → i < t + n → get_or ys i None ≡ slice_get gs i
  each ys zero t p e made i l m = absurd (omega arith)
  each ys (suc n) t p e (q, y, here, called, rest) i l m =
      let now = gives t y q (subst (λ s. Called g s (t, tt) y q) e called) in
      at now (λ j. each ys n (t + 1) q now.0 rest i j (omega arith)) (cases_lt i (t + 1))
    where
      at : (q ≡ f) × (y ≡ slice_get gs t) → (t + 1 ≤ i → get_or ys i None ≡ slice_get gs i) → (i < t + 1) ⊎ (t + 1 ≤ i) → get_or ys i None ≡ slice_get gs i
      at now behind (inl j) = let s : i ≡ t = omega arith in rw s (here.1 None ∙ now.1)
      at now behind (inr j) = behind j

  pub all_causes : {ys : List (Option Guard)} {n : ℕ} → IsFromFnResult g f ys n → length gs ≤ n → guards_of ys ≡ map guard_of gs
  all_causes {ys} {n} made l = same_guards ys gs (λ i m. each ys n 0 f refl made.each i (omega arith) (omega (arith, made.long))) (omega (arith, made.long))
