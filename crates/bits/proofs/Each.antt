-- What the calls of a closure gave, place by place, where each call leaves the closure as it was.
use Rattle.std.proofs.Common.{◌≡◌, refl, subst, ◌∙◌, ℕ, zero, suc, ◌+◌, ◌<◌, ◌≤◌, List, get_or, arith}
use Rattle.std.specs.Array.{IsFromFnResult, IsFromFnResultFrom}
use Rattle.std.specs.Fn.{Called}
use denote.Param.Members.{Mut}
use mathlib.Core.Logic.{◌⊎◌, inl, inr}
use Rattle.bits.proofs.Booleans.{below_or_not}

module _ {F : Type 0} {g : Mut F (ℕ × Unit {0}) ℕ} {f : F} (h : ℕ → ℕ) (n : ℕ) (gives : (i r : ℕ) (q : F) → i < n → Called g f (i, tt) r q → (q ≡ f) × (r ≡ h i)) where
  from_each : (ys : List ℕ) (k t : ℕ) (p : F) → p ≡ f → t + k ≤ n → IsFromFnResultFrom g p ys t k → (i : ℕ) → t ≤ i → i < t + k → get_or ys i 0 ≡ h i
  from_each ys zero t p e b made i l m = absurd (omega arith)
  from_each ys (suc k) t p e b (q, y, here, called, rest) i l m =
      let now = gives t y q (omega arith) (subst (λ s. Called g s (t, tt) y q) e called) in
      at now (λ j. from_each ys k (t + 1) q now.0 (omega arith) rest i j (omega arith)) (below_or_not i (t + 1))
    where
      at : (q ≡ f) × (y ≡ h t) → (t + 1 ≤ i → get_or ys i 0 ≡ h i) → (i < t + 1) ⊎ (t + 1 ≤ i) → get_or ys i 0 ≡ h i
      at now behind (inl j) = let s : i ≡ t = omega arith in rw s (here.1 0 ∙ now.1)
      at now behind (inr j) = behind j

  pub from_fn_each : {ys : List ℕ} → IsFromFnResult g f ys n → (i : ℕ) → i < n → get_or ys i 0 ≡ h i
  from_fn_each {ys} made i l = from_each ys n 0 f refl (omega arith) made.each i (omega arith) (omega arith)
