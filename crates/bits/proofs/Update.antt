-- A loop that changes a list word by word: nothing done, and one place more.
use mathlib.Core.Path.{◌≡◌, refl, ap, ◌∙◌}
use mathlib.Core.Bool.{Bool, true, cond}
use mathlib.Core.List.{List}
use Prim.Native.Nat.{ℕ, ◌<◌}
use native.Mathlib.Decide.{ℕ_discrete}
use lib.ListN.{length, get_or, set, length-set}
use lib.Seq.{get_or-set_same, get_or-set_other}
use Rattle.bits.specs.Update.{Updated}
use Rattle.bits.proofs.Booleans.{untrue, same_test}

pub updated_none : {S : ℕ → Bool} {f : ℕ → ℕ → ℕ} {l : List ℕ} → ((k : ℕ) → S k ≡ true → ⊥) → Updated S f l l
updated_none h = record { len = refl; each = λ k. rw (untrue _ (h k)) }

-- v is stored at the place i, which S' has beside those of S
pub updated_more : {S S' : ℕ → Bool} {f : ℕ → ℕ → ℕ} {l₀ l : List ℕ} (i : ℕ) {v : ℕ} → i < length l → v ≡ f i (get_or l i 0)
    → (S i ≡ true → ⊥) → S' i ≡ true
    → ((k : ℕ) → (k ≡ i → ⊥) → S' k ≡ true → S k ≡ true) → ((k : ℕ) → S k ≡ true → S' k ≡ true)
    → Updated S f l₀ l → Updated S' f l₀ (set l i v)
updated_more {S} {S'} {f} {l₀} {l} i {v} h e old new only keep u = record {
  len = simp length-set u.len;
  each = λ k. go k (ℕ_discrete k i);
}
  where
    go : (k : ℕ) → Dec (k ≡ i) → get_or (set l i v) k 0 ≡ cond (S' k) (f k (get_or l₀ k 0)) (get_or l₀ k 0)
    go k (yes q) = rw (q, get_or-set_same l i v 0 h, new) (e ∙ ap (f i) (rw (untrue _ old) at (u.each i)))
    go k (no n) = rw (get_or-set_other l i k v 0 n, same_test (S' k) (S k) (only k n) (keep k)) (u.each k)
