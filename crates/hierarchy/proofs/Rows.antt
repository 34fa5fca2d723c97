-- Rows of sixteen words against a set: whether each of the row's bits is in the set.
use Rattle.std.proofs.Common.{◌≡◌, ℕ, ◌+◌, ◌-◌, ◌*◌, ◌<◌, true, not, ◌&&◌, ◌↔◌, List, get_or, bit_and, sym, refl, ap, ◌∙◌, arith, w16, Fits}
use Rattle.std.proofs.lemmas.Nat.{and_le_r}
use Rattle.bits.specs.Bit.{bit}
use Rattle.bits.specs.Gather.{gather, outside, RowGathered}
use Rattle.bits.proofs.Bit.{bit_0, bit-and, bit_not, word_ext}
use Rattle.bits.proofs.Booleans.{and-not}
use Rattle.bits.proofs.Gather.{gather-zero, or-zero}
use Rattle.mtas.specs.Hierarchy.{Role, ◌#◌, nth_role}
use Rattle.hierarchy.specs.Links.{linked, among, Subset}
use Rattle.hierarchy.specs.Freed.{Due}
use Rattle.hierarchy.proofs.Links.{linked_numbered, linked_bit}

-- each element is a word of sixteen bits
pub record Wide (l : List ℕ) : Type 0 where
  pub each : (k : ℕ) → Fits w16 (get_or l k 0)

-- a word has no bits outside another: each of its first sixteen is the other's too, whatever the first has above them
stray_none : (w a : ℕ) → a < 65536 → (bit_and w (65535 - a) ≡ 0) ↔ ((n : ℕ) → n < 16 → bit w n ≡ true → bit a n ≡ true)
stray_none w a la = (
  λ e n l. (and-not (bit w n) (bit a n)).0 (sym (stray n l) ∙ rw e (bit_0 n)),
  λ h. word_ext 16 _ 0 (omega (arith, and_le_r w (65535 - a))) (omega arith) (λ n l. stray n l ∙ (and-not (bit w n) (bit a n)).1 (h n l) ∙ sym (bit_0 n)),
)
  where
    stray : (n : ℕ) → n < 16 → bit (bit_and w (65535 - a)) n ≡ bit w n && not (bit a n)
    stray n l = rw (bit_not 16 a n la l) at (bit-and w (65535 - a) n)

module _ (row : List ℕ) {set : List ℕ} (at : ℕ) (ws : Wide set) where
  -- no bit of the row is outside the set
  row_subset : (gather 16 (λ i. bit_and (get_or row (at + i) 0) (65535 - get_or set i 0)) ≡ 0)
      ↔ ((a : Role) → a.issuer < 16 → a.number < 16 → bit (get_or row (at + a.issuer) 0) a.number ≡ true → among set a ≡ true)
  row_subset = (
    λ e a l m. (stray_none _ _ (ws.each a.issuer).fits).0 ((gather-zero 16 _).0 e a.issuer l) a.number m,
    λ h. (gather-zero 16 _).1 (λ i l. (stray_none _ _ (ws.each i).fits).1 (λ n m. h (i # n) l m)),
  )

-- no role of the one set is outside the other
pub none-outside : {t s : List ℕ} → Wide s → (gather 16 (λ i. bit_and (get_or t (0 + i) 0) (65535 - get_or s i 0)) ≡ 0) ↔ Subset t s
none-outside {t} ws = (
  λ e. record { each = λ a l m h. (row_subset t 0 ws).0 e a l m (rw (first a.issuer) h) },
  λ w. (row_subset t 0 ws).1 (λ a l m p. w.each a l m (rw (first a.issuer) at p)),
)
  where
    first : (i : ℕ) → get_or t (0 + i) 0 ≡ get_or t i 0
    first i = ap (λ p. get_or t p 0) (omega arith)

-- the row of the k-th role has the bits of its direct seniors; r: those that are not in the set
pub all_due : (links : List ℕ) {set : List ℕ} {k r : ℕ} → k < 256 → Wide set
    → r ≡ gather 16 (λ i. bit_and (get_or links (16 * k + i) 0) (65535 - get_or set i 0)) → (r ≡ 0) ↔ Due (linked links) set (nth_role k)
all_due links {set} {k} h ws e = rw e (
  λ z a t. let (l, m, _, _) = linked_numbered links a (nth_role k) t in (row_subset links (16 * k) ws).0 z a l m (sym (row_link a l m) ∙ t),
  λ d. (row_subset links (16 * k) ws).1 (λ a l m b. d a (row_link a l m ∙ b)),
)
  where
    row_link : (a : Role) → a.issuer < 16 → a.number < 16 → linked links a (nth_role k) ≡ bit (get_or links (16 * k + a.issuer) 0) a.number
    row_link a l m =
        let e : 16 * (16 * (nth_role k).issuer + (nth_role k).number) + a.issuer ≡ 16 * k + a.issuer = omega arith in
        linked_bit links a (nth_role k) (omega arith, (omega arith, (l, (m, tt)))) ∙ ap (λ p. bit (get_or links p 0) a.number) e

-- no bit is in any of sixteen words
abbrev pub Nothing : List ℕ → Type 0
Nothing words = (i : ℕ) → i < 16 → get_or words i 0 ≡ 0

-- nothing is lacking with the row of the k-th role: nothing was before, and all of its direct seniors are in the set
pub none_lacking : {links set before after : List ℕ} {k : ℕ} → k < 256 → Wide set → RowGathered links (16 * k) set before after
    → Nothing after → Nothing before × Due (linked links) set (nth_role k)
none_lacking {links} {set} {before} {after} {k} h ws g z =
    (λ i l. (both i l).0, (all_due links {k = k} h ws refl).0 ((gather-zero 16 _).1 (λ i l. (both i l).1)))
  where
    both : (i : ℕ) → i < 16 → (get_or before i 0 ≡ 0) × (outside (get_or links (16 * k + i) 0) (get_or set i 0) ≡ 0)
    both i l = (or-zero _ _).0 (sym (g.each i l) ∙ z i l)
