-- How many roles a set has: the set digits of its words, and one more with a role that wasn't in it.
use mathlib.Core.Path.{◌≡◌, refl, ap, sym, ◌∙◌}
use mathlib.Core.Logic.{◌≢◌}
use mathlib.Core.Bool.{Bool, true, false, ◌&&◌, ◌||◌, or-false}
use mathlib.Core.List.{List}
use Prim.Native.Nat.{ℕ, zero, suc, ◌+◌, ◌*◌, ◌/◌, ◌%◌, ◌^◌, ◌<◌, ◌≤◌}
use native.Mathlib.Nat.{pow-suc}
use native.Mathlib.Omega.{arith}
use borrow.Author.Tests.{eq-eqb, eqb-true}
use lib.Count.{ones, ones_step, ones-le}
use lib.Dec.{eqb}
use lib.ListN.{length, take, get_or}
use native.Mathlib.Numerals.{add-one}
use Rattle.std.specs.List.{sum_by}
use Rattle.std.proofs.lemmas.List.{take_all}
use Rattle.std.proofs.lemmas.List.Sums.{fold_more}
use Rattle.bits.specs.Bit.{bit}
use Rattle.bits.specs.Below.{tally}
use Rattle.bits.specs.RoleSet.{in_set, size, Added}
use Rattle.bits.proofs.Below.{tally-le, tally_ext, tally-none, tally-add, tally-one_more}
use Rattle.bits.proofs.Booleans.{and_both, and_intro, or_right, untrue}
use Rattle.bits.proofs.Bit.{bit-zero, bit-suc}

-- the lowest bit of a word, as a number
lowest-digit : (w : ℕ) → tally 1 (bit w) ≡ w % 2
unfolding tally
lowest-digit w = go (w % 2) refl
  where
    go : (d : ℕ) → w % 2 ≡ d → tally 1 (bit w) ≡ w % 2
    go zero e = let b : bit w 0 ≡ false = bit-zero w ∙ rw e in rw (b, tally) (sym e)
    go (suc zero) e = let b : bit w 0 ≡ true = bit-zero w ∙ rw e in rw (b, tally) (sym e)
    go (suc (suc d)) e = absurd (omega arith)

-- the set digits of a word of n bits
pub ones_tally : (n w : ℕ) → w < 2 ^ n → ones w ≡ tally n (bit w)
ones_tally zero w l = omega (arith, ones-le 0 w l, tally-le 0 (bit w))
ones_tally (suc n) w l =
    ones_step w ∙ omega (arith, lowest-digit w, ones_tally n (w / 2) (omega (arith, pow-suc 2 n)), rest, tally-add 1 n (bit w), first)
  where
    first : tally (suc n) (bit w) ≡ tally (1 + n) (bit w)
    first = let e : suc n ≡ 1 + n = omega arith in rw e refl

    rest : tally n (λ k. bit w (1 + k)) ≡ tally n (bit (w / 2))
    rest = tally_ext n (λ k. bit w (1 + k)) (bit (w / 2)) (λ k l. let e : 1 + k ≡ suc k = omega arith in rw e (bit-suc w k))

-- one word more
pub size-more : (words : List ℕ) (i : ℕ) → get_or words i 0 < 65536
    → tally (16 * (i + 1)) (λ k. in_set words (k / 16) (k % 16)) ≡ tally (16 * i) (λ k. in_set words (k / 16) (k % 16)) + ones (get_or words i 0)
size-more words i l = ap (λ n. tally n has) next ∙ omega (arith, tally-add (16 * i) 16 has, row, ones_tally 16 (get_or words i 0) l)
  where
    has : ℕ → Bool
    has k = in_set words (k / 16) (k % 16)

    next : 16 * (i + 1) ≡ 16 * i + 16
    next = omega arith

    row : tally 16 (λ k. has (16 * i + k)) ≡ tally 16 (bit (get_or words i 0))
    row = tally_ext 16 (λ k. has (16 * i + k)) (bit (get_or words i 0)) (λ k m.
        let q : (16 * i + k) / 16 ≡ i = omega arith in
        let r : (16 * i + k) % 16 ≡ k = omega arith in
        rw (q, r) refl)

-- a set's roles, counted word by word
pub size_sum : (words : List ℕ) → length words ≡ 16 → ((i : ℕ) → get_or words i 0 < 65536) → sum_by ones words ≡ size words
unfolding tally
size_sum words long wide = ap (sum_by ones) (sym (take_all 16 words (omega arith))) ∙ front 16 (omega arith)
  where
    front : (k : ℕ) → k ≤ 16 → sum_by ones (take k words) ≡ tally (16 * k) (λ k. in_set words (k / 16) (k % 16))
    front zero l = refl
    front (suc k) l =
        rw (← add-one k)
        (fold_more (λ a x. a + ones x) 0 words k 0 (omega arith) ∙ omega (arith, front k (omega arith), size-more words k (wide k)))

-- a role more
pub size_added : {i r : ℕ} {s t : List ℕ} → i < 16 → r < 16 → in_set s i r ≡ false → Added i r s t → size t ≡ size s + 1
size_added {i} {r} {s} {t} li lr n a =
    tally-one_more (λ k. in_set s (k / 16) (k % 16)) (λ k. in_set t (k / 16) (k % 16)) 256 (16 * i + r) (omega arith) (rw (q, e) n) (rw (q, e) there) elsewhere
  where
    q : (16 * i + r) / 16 ≡ i
    q = omega arith

    e : (16 * i + r) % 16 ≡ r
    e = omega arith

    there : in_set t i r ≡ true
    there = a.each i r ∙ or_right (in_set s i r) (eqb i i && eqb r r) (and_intro (eqb i i) (eqb r r) (eq-eqb i i refl) (eq-eqb r r refl))

    elsewhere : (k : ℕ) → k < 256 → k ≢ 16 * i + r → in_set s (k / 16) (k % 16) ≡ in_set t (k / 16) (k % 16)
    elsewhere k l d =
        sym (a.each (k / 16) (k % 16) ∙ ap (λ x. in_set s (k / 16) (k % 16) || x) another ∙ or-false (in_set s (k / 16) (k % 16)))
      where
        another : eqb i (k / 16) && eqb r (k % 16) ≡ false
        another = untrue _ (λ h.
            let (x, y) = and_both (eqb i (k / 16)) (eqb r (k % 16)) h in
            d (omega (arith, eqb-true i (k / 16) x, eqb-true r (k % 16) y)))

-- no role
pub size-empty : (s : List ℕ) → ((i r : ℕ) → in_set s i r ≡ false) → size s ≡ 0
size-empty s n = tally-none 256 (λ k. in_set s (k / 16) (k % 16)) (λ k l. n (k / 16) (k % 16))
