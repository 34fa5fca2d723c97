-- A slide over one word of sixteen: the set with one role more.
use Rattle.std.proofs.Common.{◌≡◌, ℕ, ◌+◌, ◌-◌, ◌/◌, ◌%◌, ◌<◌, ◌≤◌, Bool, true, false, cond, not, ◌&&◌, ◌||◌, eqb, ◌⊎◌, List, get_or, set, replicate, bit_and, bit_or, sym, refl, ap, ◌∙◌, inl, inr, arith, length-set, get_or-set_other, get_or-set_same, eq-eqb, ne_eqb, eqb-true}
use Rattle.std.proofs.Math.Bool.{or-false, and-false}
use native.Mathlib.Decide.{ℕ_discrete}
use Rattle.std.proofs.lemmas.List.{length-replicate, get_or-replicate}
use Rattle.bits.specs.Bit.{bit, with_bit}
use Rattle.bits.specs.RoleSet.{in_set, Added}
use Rattle.bits.specs.Stride.{in_run}
use Rattle.bits.specs.Update.{Updated}
use Rattle.bits.proofs.Bit.{bit_0, bit-and, bit-or, bit_not, bit_with}
use Rattle.bits.proofs.Booleans.{below_or_not, same_test, untrue}
use Rattle.bits.proofs.Stride.{run_in, run_out}
use Rattle.hierarchy.specs.Freed.{Slide}

pub the_slide : Slide (set (replicate 31 0) 15 65535)
the_slide = record {
  long = length-set {A = ℕ} (replicate 31 0) 15 65535 ∙ length-replicate {A = ℕ} 31 0;
  each = λ n l. go n l (ℕ_discrete n 15);
}
  where
    go : (n : ℕ) → n < 31 → Dec (n ≡ 15) → ◌≡◌ {A = ℕ} (get_or (set (replicate 31 0) 15 65535) n 0) (cond (eqb n 15) 65535 0)
    go n l (yes e) = rw e (get_or-set_same (replicate 31 0) 15 65535 0 (omega arith))
    go n l (no d) = rw (ne_eqb n 15 d) (get_or-set_other (replicate 31 0) 15 n 65535 0 d ∙ get_or-replicate {A = ℕ} 31 n 0 0 l)

-- a word through the slide: all its bits where the test holds, else none
seen : (b : Bool) (r q : ℕ) → r < 16 → bit (bit_and (cond b 65535 0) (with_bit 0 r)) q ≡ b && eqb r q
seen b r q l = bit-and (cond b 65535 0) (with_bit 0 r) q ∙ ap (λ x. bit (cond b 65535 0) q && x) (bit_with 0 r q ∙ ap (λ x. x || eqb r q) (bit_0 q)) ∙ go b (eqb r q) refl
  where
    go : (b c : Bool) → eqb r q ≡ c → bit (cond b 65535 0) q && c ≡ b && c
    go true true e = ap (λ x. x && true) (ap (λ n. bit 65535 n) (sym (eqb-true r q e)) ∙ bit_not 16 0 r (omega arith) l ∙ ap not (bit_0 r))
    go true false e = and-false (bit 65535 q)
    go false c e = ap (λ x. x && c) (bit_0 q)

pub through_slide : {k w : ℕ} {words before after : List ℕ} → k < 256 → Slide words → w ≡ with_bit 0 (k % 16)
    → Updated (in_run 0 16) (λ n x. bit_or x (bit_and (get_or words (15 - k / 16 + n) 0) w)) before after → Added (k / 16) (k % 16) before after
through_slide {k} {w} {words} {before} {after} h sl e u = record { each = λ j q. ap (λ (x : ℕ). bit x q) (u.each j) ∙ go j q (below_or_not j 16) }
  where
    here : (j : ℕ) → j < 16 → eqb (15 - k / 16 + j) 15 ≡ eqb (k / 16) j
    here j l =
        same_test (eqb (15 - k / 16 + j) 15) (eqb (k / 16) j) (λ p. eq-eqb (k / 16) j (omega (arith, eqb-true (15 - k / 16 + j) 15 p)))
        (λ p. eq-eqb (15 - k / 16 + j) 15 (omega (arith, eqb-true (k / 16) j p)))

    go : (j q : ℕ) → (j < 16) ⊎ (16 ≤ j)
        → bit (cond (in_run 0 16 j) (bit_or (get_or before j 0) (bit_and (get_or words (15 - k / 16 + j) 0) w)) (get_or before j 0)) q
        ≡ in_set before j q || (eqb (k / 16) j && eqb (k % 16) q)
    go j q (inl l) =
        rw (run_in 0 16 j (omega arith) (omega arith), sl.each (15 - k / 16 + j) (omega arith), here j l, e)
        (bit-or (get_or before j 0) (bit_and (cond (eqb (k / 16) j) 65535 0) (with_bit 0 (k % 16))) q ∙ ap (λ x. in_set before j q || x) (seen (eqb (k / 16) j) (k % 16) q (omega arith)))
    go j q (inr l) =
        rw (untrue (in_run 0 16 j) (λ p. omega (arith, run_out 0 16 j p)), ne_eqb (k / 16) j (λ p. omega arith)) (sym (or-false (in_set before j q)))
