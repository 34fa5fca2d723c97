-- Words with no stray bits, said bit by bit.
use Rattle.std.proofs.Common.{◌≡◌, refl, ap, sym, ◌∙◌, ◌↔◌, Bool, true, false, not, ◌&&◌, ◌||◌, ℕ, ◌^◌, ◌<◌, arith, eq-eqb, eqb-true, eqb}
use lib.Bits.{or_zero_l}
use lib.Pow.{pow-lt}
use Rattle.bits.specs.Bit.{bit, with_bit}
use Rattle.bits.proofs.Booleans.{and_left, and_right, and_intro}
use Rattle.bits.proofs.Bit.{bit_0, bit_not, bit_with}
use Rattle.bits.proofs.Gather.{stray_zero}
use Rattle.bits.specs.Gather.{outside}
use Rattle.law.specs.Stray.{only_if}

only_bit : (b : Bool) (a n : ℕ) → bit (only_if b a) n ≡ b && bit a n
only_bit true a n = refl
only_bit false a n = bit_0 n

only-wide : (b : Bool) (a : ℕ) → a < 65536 → only_if b a < 65536
only-wide true a l = l
only-wide false a l = omega arith

-- w has bits of a only, and none where the test fails
pub inside_if : (b : Bool) (w a : ℕ) → w < 65536 → a < 65536
    → (outside w (only_if b a) ≡ 0) ↔ ((n : ℕ) → n < 16 → bit w n ≡ true → (b ≡ true) × (bit a n ≡ true))
inside_if b w a lw la = (
  λ e n l h.
      let t : b && bit a n ≡ true = sym (only_bit b a n) ∙ zero.0 e n l h in
      (and_left b (bit a n) t, and_right b (bit a n) t),
  λ f. zero.1 (λ n l h. only_bit b a n ∙ and_intro b (bit a n) (f n l h).0 (f n l h).1),
)
  where
    zero : (outside w (only_if b a) ≡ 0) ↔ ((n : ℕ) → n < 16 → bit w n ≡ true → bit (only_if b a) n ≡ true)
    zero = stray_zero w (only_if b a) (only-wide b a la) lw

-- the same with a second test
pub inside_if_both : (b b' : Bool) (w a : ℕ) → w < 65536 → a < 65536
    → (outside w (only_if b (only_if b' a)) ≡ 0) ↔ ((n : ℕ) → n < 16 → bit w n ≡ true → (b ≡ true) × (b' ≡ true) × (bit a n ≡ true))
inside_if_both b b' w a lw la = (
  λ e n l h.
      let (p, q) = zero.0 e n l h in
      let t : b' && bit a n ≡ true = sym (only_bit b' a n) ∙ q in
      (p, and_left b' (bit a n) t, and_right b' (bit a n) t),
  λ f. zero.1 (λ n l h. let (p, q, t) = f n l h in (p, only_bit b' a n ∙ and_intro b' (bit a n) q t)),
)
  where
    zero : (outside w (only_if b (only_if b' a)) ≡ 0) ↔ ((n : ℕ) → n < 16 → bit w n ≡ true → (b ≡ true) × (bit (only_if b' a) n ≡ true))
    zero = inside_if b w (only_if b' a) lw (only-wide b' a la)

-- w has bits only where the test holds
pub none-unless : (b : Bool) (w : ℕ) → w < 65536 → (outside w (only_if b 65535) ≡ 0) ↔ ((n : ℕ) → n < 16 → bit w n ≡ true → b ≡ true)
none-unless b w lw = (
  λ e n l h. ((inside_if b w 65535 lw (omega arith)).0 e n l h).0,
  λ f. (inside_if b w 65535 lw (omega arith)).1 (λ n l h. (f n l h, bit_not 16 0 n (omega arith) l ∙ ap not (bit_0 n))),
)

-- w has bit i where the test holds
pub has_if : (b : Bool) (w i : ℕ) → w < 65536 → i < 16 → (outside (only_if b (with_bit 0 i)) w ≡ 0) ↔ (b ≡ true → bit w i ≡ true)
unfolding with_bit
has_if b w i lw li = (
  λ e h. zero.0 e i li (the_bit i ∙ and_intro b (eqb i i) h (eq-eqb i i refl)),
  λ f. zero.1 (λ n l h.
      let t : b && eqb i n ≡ true = sym (the_bit n) ∙ h in
      rw (← eqb-true i n (and_right b (eqb i n) t)) (f (and_left b (eqb i n) t))),
)
  where
    the_bit : (n : ℕ) → bit (only_if b (with_bit 0 i)) n ≡ b && eqb i n
    the_bit n = only_bit b (with_bit 0 i) n ∙ ap (λ x. b && x) (bit_with 0 i n ∙ ap (λ x. x || eqb i n) (bit_0 n))

    zero : (outside (only_if b (with_bit 0 i)) w ≡ 0) ↔ ((n : ℕ) → n < 16 → bit (only_if b (with_bit 0 i)) n ≡ true → bit w n ≡ true)
    zero = stray_zero (only_if b (with_bit 0 i)) w lw (only-wide b (with_bit 0 i) (rw (or_zero_l (2 ^ i)) (pow-lt li)))
