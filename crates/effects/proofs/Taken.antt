-- Each bit of a fact that relies on f is taken by a strip of f.
use Rattle.std.proofs.Common.{◌≡◌, ◌⊎◌, inl, inr, ◌≢◌, false, List, ◌∷◌, ℕ, ◌+◌, ◌-◌, ◌*◌, ◌^◌, ◌<◌, ◌≤◌, arith, length, get_or}
use borrow.Author.Tests.{eqb-false}
use Rattle.bits.specs.Bit.{bit}
use Rattle.bits.proofs.Bit.{bit_0}
use Rattle.bits.proofs.Booleans.{clash, below_or_not}
use Rattle.bits.proofs.Stride.{stride_in}
use Rattle.mtas.specs.Fact.{Fact, enrolled, trusts, role, public, Below16}
use Rattle.mtas.specs.Needs.{enrolment, exposed}
use Rattle.mtas.specs.Layout.{Word, enrolled_issuers, trusted, users, roles, permissions, held, holders, seniors, session_user, active_roles, public_roles, Cell, sixteen, its_user, in_session, cell, address}
use Rattle.mtas.proofs.Address.{word_numbers}
use Rattle.mtas.proofs.Exposed.{exposed_has}
use Rattle.mtas.proofs.Facts.{All, same_refl, roots}
use Rattle.effects.specs.Strips as strip
use Rattle.effects.specs.Strips.{Strip, strips}
use Rattle.effects.specs.Cut.{Apart}
use Rattle.effects.proofs.Relied.{bit_dropped, Hits}

-- no strip takes a bit
abbrev pub nth : List Strip → ℕ → Strip
nth l k = get_or l k (strip.word 0 65535)

pub record Hit (f : Fact) (k n : ℕ) : Type 0 where
  pub by : ℕ
  pub known : by < length (strips f)
  pub hits : Hits (nth (strips f) by) k n

hit : {f : Fact} {k n : ℕ} (x : ℕ) → x < length (strips f) → Hits (nth (strips f) x) k n → Hit f k n
hit x l h = record { by = x; known = l; hits = h }

-- a mask that doesn't keep a bit: none at all, or this one alone
record Unkept (m n : ℕ) : Type 0 where
  is : bit m n ≡ false

none : {n : ℕ} → Unkept 0 n
none {n} = record { is = bit_0 n }

this : {n : ℕ} → n < 16 → Unkept (65535 - 2 ^ n) n
this l = record { is = bit_dropped l }

module _ {m n : ℕ} (d : Unkept m n) where
  hit_at : {step from c k : ℕ} (t : ℕ) → t < c → k ≡ from + step * t → Hits (record { step = step; from = from; count = c; keep = m }) k n
  hit_at {step} {from} {c} {k} t l e = record { covered = stride_in from c k step t l e; unkept = d.is }

  hit_word : {k : ℕ} → Hits (strip.word k m) k n
  hit_word = hit_at 0 (omega arith) (omega arith)

-- each root of the fact of bit n takes it
abbrev pub Taken : Word → Cell → ℕ → Type 0
Taken w (sixteen g) n = All (λ f. Apart f → Hit f (address w) n) (roots (g n))
Taken w (its_user i s) n = Unit
Taken w (in_session i s g) n = Unit

-- an issuer's trust in itself is no root of its own
itself : {i k n : ℕ} → Apart (trusts i i) → Hit (trusts i i) k n
itself {i} a = absurd (clash (same_refl (trusts i i)) (a i))

-- what a link of j's to i#n stands on takes it, but for its own end: what exposes the role to i is the role, and to another its bit, before i or behind it
on-role : (j i n : ℕ) {k : ℕ} → Hit (role i n) k n → (j < i → Hit (public i n) k n) → (i < j → Hit (public i n) k n) → Hit (trusts i j) k n → Hit (enrolled i) k n → Hit (enrolled j) k n
    → All (λ f. Apart f → Hit f k n) (role i n ∷ exposed j i n ∷ trusts i j ∷ enrolled i ∷ trusts i i ∷ enrolment j)
on-role j i n {k} own before behind trust trustor trustee = (
  λ _. own,
  (
    λ _. exposed_has (λ f. Hit f k n) j i n (λ _. own) (λ e. go (eqb-false j i e) (below_or_not j i)),
    (λ _. trust, (λ _. trustor, (itself, (λ _. trustee, (itself, tt))))),
  ),
)
  where
    go : j ≢ i → (j < i) ⊎ (i ≤ j) → Hit (public i n) k n
    go d (inl l) = before l
    go d (inr l) = behind (omega (arith, d))

pub taken : (w : Word) (n : ℕ) → Below16 (word_numbers w) → n < 16 → Taken w (cell w) n
taken enrolled_issuers n h l = (λ _. hit 0 (omega arith) (hit_word (this l)), (itself, tt))
taken (trusted i) n h l = (
  λ _. hit 0 (omega arith) (hit_word (this l)),
  (
    λ _. hit 2 (omega arith) (hit_word none),
    (
      itself,
      (λ _. hit 1 (omega arith) (hit_at (this l) i (omega arith) (omega arith)), (itself, tt)),
    ),
  ),
)
taken (users i) n h l = (λ _. hit 0 (omega arith) (hit_word (this l)), (λ _. hit 3 (omega arith) (hit_word none), (itself, tt)))
taken (roles i) n h l = (λ _. hit 0 (omega arith) (hit_word (this l)), (λ _. hit 4 (omega arith) (hit_word none), (itself, tt)))
taken (permissions i) n h l = (λ _. hit 0 (omega arith) (hit_word (this l)), (λ _. hit 5 (omega arith) (hit_word none), (itself, tt)))
taken (held i u) n h l = (
  λ _. hit 0 (omega arith) (hit_word (this l)),
  (
    λ _. hit 1 (omega arith) (hit_word none),
    (
      λ _. hit 1 (omega arith) (hit_at (this l) u (omega arith) (omega arith)),
      (λ _. hit 6 (omega arith) (hit_at none u (omega arith) (omega arith)), (itself, tt)),
    ),
  ),
)
taken (holders j p i) n h l = (
  λ _. hit 0 (omega arith) (hit_word (this l)),
  (
    λ _. hit 1 (omega arith) (hit_at none i (omega arith) (omega arith)),
    on-role j i n (hit 2 (omega arith) (hit_at (this l) (16 * j + p) (omega arith) (omega arith)))
        (λ b. hit 1 (omega arith) (hit_at (this l) (16 * j + p) (omega arith) (omega arith)))
        (λ b. hit 2 (omega arith) (hit_at (this l) (16 * (j - i - 1) + p) (omega arith) (omega arith)))
        (hit 1 (omega arith) (hit_at none p (omega arith) (omega arith)))
        (hit 8 (omega arith) (hit_at none (16 * j + p) (omega arith) (omega arith)))
        (hit 7 (omega arith) (hit_at none (16 * p + i) (omega arith) (omega arith))),
  ),
)
taken (seniors j q i) n h l = (
  λ _. hit 0 (omega arith) (hit_word (this l)),
  (
    λ _. hit 4 (omega arith) (hit_at none i (omega arith) (omega arith)),
    on-role j i n (hit 3 (omega arith) (hit_at (this l) (16 * j + q) (omega arith) (omega arith)))
        (λ b. hit 3 (omega arith) (hit_at (this l) (16 * j + q) (omega arith) (omega arith)))
        (λ b. hit 4 (omega arith) (hit_at (this l) (16 * (j - i - 1) + q) (omega arith) (omega arith)))
        (hit 2 (omega arith) (hit_at none q (omega arith) (omega arith)))
        (hit 10 (omega arith) (hit_at none (16 * j + q) (omega arith) (omega arith)))
        (hit 9 (omega arith) (hit_at none (16 * q + i) (omega arith) (omega arith))),
  ),
)
taken (session_user i s) n h l = tt
taken (active_roles i s) n h l = tt
taken (public_roles i) n h l = (
  λ _. hit 0 (omega arith) (hit_word (this l)),
  (λ _. hit 5 (omega arith) (hit_word (this l)), (λ _. hit 11 (omega arith) (hit_word none), (itself, tt))),
)
