-- The lowest bit of a word: where its trailing zeros end.
use mathlib.Core.Path.{◌≡◌, refl, ◌∙◌}
use mathlib.Core.Bool.{true, false}
use Prim.Native.Nat.{ℕ, zero, suc, ◌/◌, ◌%◌, ◌^◌, ◌<◌}
use native.Mathlib.Nat.{pow-suc}
use native.Mathlib.Omega.{arith}
use lib.Count.{count_trailing_zeros, under}
use Rattle.bits.specs.Bit.{bit}
use Rattle.bits.proofs.Bit.{bit-zero, bit-suc}

-- below it no bit of w is set
abbrev Bare : ℕ → ℕ → Type 0
Bare w t = (m : ℕ) → m < t → bit w m ≡ false

pub lowest : (k w : ℕ) → w < 2 ^ k → (w ≡ 0 → ⊥) → (count_trailing_zeros k w < k) × (bit w (count_trailing_zeros k w) ≡ true) × Bare w (count_trailing_zeros k w)
unfolding count_trailing_zeros
lowest zero w l n = absurd (n (omega arith))
lowest (suc k) w l n = go (lowest k (w / 2) (omega (arith, pow-suc 2 k))) (w % 2) refl
  where
    t : ℕ
    t = count_trailing_zeros k (w / 2)

    bare : w % 2 ≡ 0 → Bare (w / 2) t → Bare w (suc t)
    bare e f zero m = bit-zero w ∙ rw e
    bare e f (suc i) m = bit-suc w i ∙ f i (omega arith)

    go : ((w / 2 ≡ 0 → ⊥) → (t < k) × (bit (w / 2) t ≡ true) × Bare (w / 2) t) → (d : ℕ) → w % 2 ≡ d
        → (under (w % 2) t < suc k) × (bit w (under (w % 2) t) ≡ true) × Bare w (under (w % 2) t)
    go rec zero e = let (p, q, f) = rec (λ z. n (omega arith)) in rw e (omega arith, bit-suc w t ∙ q, bare e f)
    go rec (suc zero) e = rw e (omega arith, bit-zero w ∙ rw e, λ m h. absurd (omega arith))
    go rec (suc (suc d)) e = absurd (omega arith)
