-- Sets of roles: the empty set, a role more, and a union.
use mathlib.Core.Path.{◌≡◌, refl, ap, sym, ◌∙◌}
use mathlib.Core.Logic.{◌⊎◌, inl, inr}
use mathlib.Core.Bool.{Bool, true, false, cond, ◌&&◌, ◌||◌, or-false, false≢true}
use mathlib.Core.List.{List}
use Prim.Native.Nat.{ℕ, zero, suc, ◌<◌, ◌≤◌}
use native.Mathlib.Omega.{arith}
use borrow.Author.Tests.{eq-eqb, eqb-true}
use lib.Bits.{bit_or}
use lib.Dec.{eqb}
use lib.ListN.{length, get_or, set, replicate, get_or-eq_default}
use Rattle.bits.specs.Bit.{bit, with_bit}
use Rattle.bits.specs.RoleSet.{in_set, Added, Union}
use Rattle.bits.specs.Update.{Updated}
use Rattle.bits.proofs.Bit.{bit_0, bit-or, bit_with, word_ext}
use Rattle.bits.proofs.Booleans.{below_or_not}
use Rattle.bits.proofs.Update.{updated_none, updated_more}

zeros : (n i : ℕ) → ◌≡◌ {A = ℕ} (get_or (replicate n 0) i 0) 0
zeros zero i = refl
zeros (suc n) zero = refl
zeros (suc n) (suc i) = zeros n i

pub in_empty : (i r : ℕ) → in_set (replicate 16 0) i r ≡ false
in_empty i r = rw (zeros 16 i) (bit_0 r)

-- a set without roles has no bits
pub no_bits : (s : List ℕ) (i : ℕ) → ((j q : ℕ) → in_set s j q ≡ false) → get_or s i 0 < 65536 → get_or s i 0 ≡ 0
no_bits s i none wide = word_ext 16 _ 0 wide (omega arith) (λ n l. none i n ∙ sym (bit_0 n))

pub added : {i r w : ℕ} {words : List ℕ} → i < length words → w ≡ with_bit (get_or words i 0) r → Added i r words (set words i w)
added {i} {r} {w} {words} h e = record { each = λ j q. ap (λ (x : ℕ). bit x q) (one.each j) ∙ go (eqb i j) (get_or words j 0) q }
  where
    one : Updated (eqb i) (λ k x. with_bit x r) words (set words i w)
    one =
        updated_more i h e false≢true (eq-eqb i i refl) (λ k n p. absurd (n (sym (eqb-true i k p)))) (λ k p. absurd (false≢true p))
        (updated_none {S = λ k. false} (λ k. false≢true))

    go : (b : Bool) (x q : ℕ) → bit (cond b (with_bit x r) x) q ≡ bit x q || (b && eqb r q)
    go true x q = bit_with x r q
    go false x q = sym (or-false (bit x q))

pub union : {left right both : List ℕ} → length left ≡ 16 → length right ≡ 16 → length both ≡ 16
    → ((i : ℕ) → i < 16 → get_or both i 0 ≡ bit_or (get_or left i 0) (get_or right i 0)) → Union left right both
union {left} {right} {both} hl hr hb h = record { each = λ j q. go j q (below_or_not j 16) }
  where
    go : (j q : ℕ) → (j < 16) ⊎ (16 ≤ j) → in_set both j q ≡ in_set left j q || in_set right j q
    go j q (inl l) = rw (h j l) (bit-or (get_or left j 0) (get_or right j 0) q)
    go j q (inr l) =
        rw (get_or-eq_default left 0 {n = j} (omega arith), get_or-eq_default right 0 {n = j} (omega arith), get_or-eq_default both 0 {n = j} (omega arith), bit_0 q)
        refl
