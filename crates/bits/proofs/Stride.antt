-- What the tests of a place say, and loops over a run and over words a step apart, whatever they do at each word.
use mathlib.Core.Path.{◌≡◌, sym, ◌∙◌}
use mathlib.Core.Logic.{inl, inr, ◌⊎◌}
use mathlib.Core.Bool.{true}
use mathlib.Core.List.{List}
use Prim.Native.Nat.{ℕ, ◌+◌, ◌*◌, ◌<◌, ◌≤◌}
use native.Mathlib.Omega.{arith}
use Rattle.std.proofs.Math.Nat.{mul-lt-mul_of_pos_left}
use borrow.Author.Tests.{le-leb, lt-ltb, eq-eqb, leb-true, ltb-true, eqb-true}
use lib.ListN.{length, get_or, set}
use Rattle.bits.specs.Stride.{in_run, in_stride}
use Rattle.bits.specs.Update.{Updated}
use Rattle.bits.proofs.Below.{any_intro, any_elim}
use Rattle.bits.proofs.Booleans.{and_both, below_or_not}
use Rattle.bits.proofs.Update.{updated_none, updated_more}

module _ (from n k : ℕ) where
  pub run_in : from ≤ k → k < from + n → in_run from n k ≡ true
  unfolding in_run
  run_in a b = simp (le-leb _ _ a, lt-ltb _ _ b)

  pub run_out : in_run from n k ≡ true → (from ≤ k) × (k < from + n)
  unfolding in_run
  run_out e = let p = and_both _ _ e in (leb-true _ _ p.0, ltb-true _ _ p.1)

  pub stride_in : (step t : ℕ) → t < n → k ≡ from + step * t → in_stride step from n k ≡ true
  unfolding in_stride
  stride_in step t l e = any_intro n _ t l (eq-eqb _ _ e)

  pub stride_out : (step : ℕ) → in_stride step from n k ≡ true → (t : ℕ) × (t < n) × (k ≡ from + step * t)
  unfolding in_stride
  stride_out step e = let (t, l, h) = any_elim n _ e in (t, l, eqb-true _ _ h)

module _ {f : ℕ → ℕ → ℕ} (from : ℕ) where
  pub run_none : {l : List ℕ} → Updated (in_run from 0) f l l
  run_none = updated_none (λ k e. omega (arith, run_out from 0 k e))

  pub run_more : {l₀ l : List ℕ} (t : ℕ) {i v : ℕ} → i ≡ from + t → i < length l → v ≡ f i (get_or l i 0)
      → Updated (in_run from t) f l₀ l → Updated (in_run from (t + 1)) f l₀ (set l i v)
  run_more t {i} p h e =
      updated_more i h e
      (λ q. omega (arith, run_out from t i q))
      (run_in _ _ _ (omega arith) (omega arith))
      (λ k n q. let o = run_out from (t + 1) k q in run_in _ _ _ (omega arith) (omega arith))
      (λ k q. let o = run_out from t k q in run_in _ _ _ (omega arith) (omega arith))

  pub stride_none : {l : List ℕ} (step : ℕ) → Updated (in_stride step from 0) f l l
  stride_none step = updated_none (λ k e. let (t, l, h) = stride_out from 0 k step e in absurd (omega arith))

  pub stride_more : {l₀ l : List ℕ} (step t : ℕ) {i v : ℕ} → 0 < step → i ≡ from + step * t → i < length l → v ≡ f i (get_or l i 0)
      → Updated (in_stride step from t) f l₀ l → Updated (in_stride step from (t + 1)) f l₀ (set l i v)
  stride_more step t {i} pos p h e =
      updated_more i h e
      (λ q. let (u, l, s) = stride_out from t i step q in omega (arith, mul-lt-mul_of_pos_left l pos))
      (stride_in from (t + 1) i step t (omega arith) p)
      (λ k n q. let (u, l, s) = stride_out from (t + 1) k step q in other k n u s (below_or_not u t) l)
      (λ k q. let (u, l, s) = stride_out from t k step q in stride_in from (t + 1) k step u (omega arith) s)
    where
      other : (k : ℕ) → (k ≡ i → ⊥) → (u : ℕ) → k ≡ from + step * u → (u < t) ⊎ (t ≤ u) → u < t + 1 → in_stride step from t k ≡ true
      other k n u s (inl l) m = stride_in from t k step u l s
      other k n u s (inr l) m = let same : u ≡ t = omega arith in absurd (n (s ∙ rw same (sym p)))
