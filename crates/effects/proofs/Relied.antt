-- The table of strips is right: a bit that a strip of f takes is a fact that relies on f. That each is taken stands in Taken.
use Rattle.std.proofs.Common.{◌≡◌, refl, sym, ◌∙◌, ◌≢◌, true, false, List, [], ◌∷◌, ℕ, ◌+◌, ◌-◌, ◌*◌, ◌/◌, ◌%◌, ◌^◌, ◌<◌, arith, eq-eqb, eqb-true}
use lib.Pow.{pow-lt}
use borrow.Author.Tests.{not-false}
use Rattle.bits.specs.Bit.{bit}
use Rattle.bits.proofs.Bit.{bit_not, bit-pow}
use Rattle.bits.proofs.Stride.{stride_out}
use Rattle.mtas.specs.Fact.{Fact, enrolled, trusts, user, role, permission, public, holds, granted, attached, opened, active, numbers, Below16}
use Rattle.mtas.specs.Needs.{exposed}
use Rattle.mtas.specs.Law.{In, here, there}
use Rattle.mtas.specs.Layout.{Word, enrolled_issuers, trusted, users, roles, permissions, held, holders, seniors, public_roles, Cell, sixteen, its_user, in_session, cell, address, word_at}
use Rattle.mtas.proofs.Address.{word_numbers, address_below, word_at-address}
use Rattle.mtas.proofs.Exposed.{public_in}
use Rattle.mtas.proofs.Facts.{roots}
use Rattle.effects.specs.Strips as strip
use Rattle.effects.specs.Strips.{Strip, strips, covers, Lies, AllLie}

-- ---- the mask of one bit
module _ {r : ℕ} (l : r < 16) where
  pub bit_dropped : bit (65535 - 2 ^ r) r ≡ false
  bit_dropped = bit_not 16 (2 ^ r) r (pow-lt l) l ∙ rw (bit-pow r r, eq-eqb r r refl)

  pub only_bit : (m : ℕ) → m < 16 → bit (65535 - 2 ^ r) m ≡ false → m ≡ r
  only_bit m h e = sym (eqb-true r m (not-false _ (sym (rw (bit-pow r m) at (bit_not 16 (2 ^ r) m (pow-lt l) h)) ∙ e)))

-- ---- what a strip takes
pub record Hits (s : Strip) (k n : ℕ) : Type 0 where
  pub covered : covers s k ≡ true
  pub unkept : bit s.keep n ≡ false

-- the fact of bit n relies on f; no strip takes a session's words
abbrev pub Relies : Fact → Cell → ℕ → Type 0
Relies f (sixteen g) n = In f (roots (g n))
Relies f (its_user i s) n = ⊥
Relies f (in_session i s g) n = ⊥

pub record Right (f : Fact) (s : Strip) : Type 0 where
  pub lies : Lies s
  pub each : (k n : ℕ) → n < 16 → Hits s k n → Relies f (cell (word_at k)) n

-- the bits of a word that aren't kept rely on f: all of them, or one
record Loses (f : Fact) (w : Word) (m : ℕ) : Type 0 where
  each : (n : ℕ) → n < 16 → bit m n ≡ false → Relies f (cell w) n

all_bits : {f : Fact} {w : Word} → ((n : ℕ) → Relies f (cell w) n) → Loses f w 0
all_bits h = record { each = λ n l e. h n }

one_bit : {f : Fact} {w : Word} {r : ℕ} → r < 16 → Relies f (cell w) r → Loses f w (65535 - 2 ^ r)
one_bit {r = r} l h = record { each = λ n k e. rw (only_bit l n k e) h }

-- one word, or several: each is at its place
module _ {f : Fact} where
  at_word : (w : Word) (k n : ℕ) {m : ℕ} → Below16 (word_numbers w) → k ≡ address w → Loses f w m → n < 16 → bit m n ≡ false → Relies f (cell (word_at k)) n
  at_word w k n b e h l u = rw (e, word_at-address w b) (h.each n l u)

  right_words : {step from c m : ℕ} → Lies (record { step = step; from = from; count = c; keep = m }) → (words : ℕ → Word) → ((t : ℕ) → t < c → Below16 (word_numbers (words t)) × (address (words t) ≡ from + step * t)) → ((t : ℕ) → t < c → Loses f (words t) m) → Right f (record { step = step; from = from; count = c; keep = m })
  right_words {step} {from} {c} lies words p h = record {
    lies = lies;
    each = λ k n l e.
        let (t, i, q) = stride_out from c k step e.covered in
        let (b, a) = p t i in
        at_word (words t) k n b (q ∙ sym a) (h t i) l e.unkept;
  }

  right_word : (w : Word) {m : ℕ} → Below16 (word_numbers w) → Loses f w m → Right f (strip.word (address w) m)
  right_word w b h = right_words (let l = address_below w b in omega arith) (λ t. w) (λ t l. (b, omega arith)) (λ t l. h)

abbrev pub AllRight : Fact → List Strip → Type 0
AllRight f [] = Unit
AllRight f (s ∷ l) = Right f s × AllRight f l

-- what each strip of a fact takes relies on it
pub right : (f : Fact) → Below16 (numbers f) → AllRight f (strips f)
right (enrolled i) h = (
  right_word enrolled_issuers tt (one_bit (omega arith) here),
  (
    right_words (omega arith) trusted (λ t l. omega arith) (λ t l. one_bit (omega arith) (search (here, there))),
    (
      right_word (trusted i) (omega arith) (all_bits (λ n. there here)),
      (
        right_word (users i) (omega arith) (all_bits (λ n. there here)),
        (
          right_word (roles i) (omega arith) (all_bits (λ n. there here)),
          (
            right_word (permissions i) (omega arith) (all_bits (λ n. there here)),
            (
              right_words (omega arith) (held i) (λ t l. omega arith) (λ t l. all_bits (λ n. search (here, there))),
              (
                right_words (omega arith) (λ t. holders i (t / 16) (t % 16)) (λ t l. omega arith) (λ t l. all_bits (λ n. search (here, there) depth 9)),
                (
                  right_words (omega arith) (λ t. holders (t / 16) (t % 16) i) (λ t l. omega arith) (λ t l. all_bits (λ n. search (here, there) depth 9)),
                  (
                    right_words (omega arith) (λ t. seniors i (t / 16) (t % 16)) (λ t l. omega arith) (λ t l. all_bits (λ n. search (here, there) depth 9)),
                    (
                      right_words (omega arith) (λ t. seniors (t / 16) (t % 16) i) (λ t l. omega arith) (λ t l. all_bits (λ n. search (here, there) depth 9)),
                      (right_word (public_roles i) (omega arith) (all_bits (λ n. there (there here))), tt),
                    ),
                  ),
                ),
              ),
            ),
          ),
        ),
      ),
    ),
  ),
)
right (trusts i j) h = (
  right_word (trusted i) (omega arith) (one_bit (omega arith) here),
  (
    right_words (omega arith) (λ t. holders j t i) (λ t l. omega arith) (λ t l. all_bits (λ n. search (here, there))),
    (right_words (omega arith) (λ t. seniors j t i) (λ t l. omega arith) (λ t l. all_bits (λ n. search (here, there))), tt),
  ),
)
right (user i u) h = (right_word (users i) (omega arith) (one_bit (omega arith) here), (right_word (held i u) (omega arith) (all_bits (λ n. there here)), tt))
right (role i r) h = (
  right_word (roles i) (omega arith) (one_bit (omega arith) here),
  (
    right_words (omega arith) (held i) (λ t l. omega arith) (λ t l. one_bit (omega arith) (there (there here))),
    (
      right_words (omega arith) (λ t. holders (t / 16) (t % 16) i) (λ t l. omega arith) (λ t l. one_bit (omega arith) (there (there here))),
      (
        right_words (omega arith) (λ t. seniors (t / 16) (t % 16) i) (λ t l. omega arith) (λ t l. one_bit (omega arith) (there (there here))),
        (
          right_words (omega arith) (seniors i r) (λ t l. omega arith) (λ t l. all_bits (λ n. there here)),
          (right_word (public_roles i) (omega arith) (one_bit (omega arith) (there here)), tt),
        ),
      ),
    ),
  ),
)
right (permission i p) h = (
  right_word (permissions i) (omega arith) (one_bit (omega arith) here),
  (right_words (omega arith) (holders i p) (λ t l. omega arith) (λ t l. all_bits (λ n. there here)), tt),
)
right (public i r) h = (
  right_word (public_roles i) (omega arith) (one_bit (omega arith) here),
  (
    right_words (omega arith) (λ t. holders (t / 16) (t % 16) i) (λ t l. omega arith) (λ t l. one_bit (omega arith) (used (t / 16) (λ e. omega arith))),
    (
      right_words (omega arith) (λ t. holders (i + 1 + t / 16) (t % 16) i) (λ t l. omega arith) (λ t l. one_bit (omega arith) (used (i + 1 + t / 16) (λ e. omega arith))),
      (
        right_words (omega arith) (λ t. seniors (t / 16) (t % 16) i) (λ t l. omega arith) (λ t l. one_bit (omega arith) (used (t / 16) (λ e. omega arith))),
        (right_words (omega arith) (λ t. seniors (i + 1 + t / 16) (t % 16) i) (λ t l. omega arith) (λ t l. one_bit (omega arith) (used (i + 1 + t / 16) (λ e. omega arith))), tt),
      ),
    ),
  ),
)
  where
    -- the fourth root of a link of j's
    used : (j : ℕ) {f g o : Fact} {l : List Fact} → j ≢ i → In (public i r) (f ∷ g ∷ o ∷ exposed j i r ∷ l)
    used j n = public_in j i r (there (there (there here))) n
right (holds i u r) h = (right_word (held i u) (omega arith) (one_bit (omega arith) here), tt)
right (granted j p i r) h = (right_word (holders j p i) (omega arith) (one_bit (omega arith) here), tt)
right (attached j q i r) h = (right_word (seniors j q i) (omega arith) (one_bit (omega arith) here), tt)
right (opened i s u) h = tt
right (active i s u r) h = tt

pub lie : (f : Fact) (l : List Strip) → AllRight f l → AllLie l
lie f [] a = tt
lie f (s ∷ l) a = (a.0.lies, lie f l a.1)
