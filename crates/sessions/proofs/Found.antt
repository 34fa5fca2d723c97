-- An issuer's sessions are in order where there is no stranger and nothing is beyond reach, and all sessions where each issuer's are.
use Rattle.std.proofs.Common.{◌≡◌, refl, ap, sym, ◌∙◌, subst, Bool, true, false, List, ℕ, ◌<◌, ◌↔◌, length, get_or, zero-add, arith}
use Rattle.std.specs.Bool.{MatchBool}
use Rattle.std.specs.List.{AllWithin, HoldsAt, range_with_len}
use Rattle.std.proofs.lemmas.List.FromFn.{get_or-range_with_len}
use Rattle.bits.specs.Bit.{bit}
use Rattle.bits.proofs.Bit.{bit_0, word_ext}
use Rattle.bits.proofs.Booleans.{clash, and-not}
use Rattle.sessions.specs.Lesser.{stranger, reached_in, Beyond, IssuerInOrder, InOrder}

-- `all` answered whether P holds of each item
abbrev pub Answered : (ℕ → Type 0) → List ℕ → Bool → Type 0
Answered P xs r = MatchBool r (AllWithin P xs 0 (length xs)) ((k : ℕ) × (k < length xs) × HoldsAt (λ x. P x → ⊥) xs k)

pub every : (P : ℕ → Type 0) (xs : List ℕ) (r : Bool) → Answered P xs r → (r ≡ true) ↔ ((k : ℕ) → k < length xs → P (get_or xs k 0))
every P xs true m = (λ e k l. m k 0 (omega arith) l, λ h. refl)
every P xs false (k, l, n) = (λ e. absurd (clash e refl), λ h. absurd (n 0 (h k l)))

-- the same of the numbers below 16
pub every_below : (P : ℕ → Type 0) (r : Bool) → Answered P (range_with_len 0 16) r → (r ≡ true) ↔ ((k : ℕ) → k < 16 → P k)
every_below P r m = (
  λ e k l. subst P (at k l) (all.0 e k l),
  λ h. all.1 (λ k l. subst P (sym (at k l)) (h k l)),
)
  where
    all : (r ≡ true) ↔ ((k : ℕ) → k < 16 → P (get_or (range_with_len 0 16) k 0))
    all = every P (range_with_len 0 16) r m

    at : (k : ℕ) → k < 16 → get_or (range_with_len 0 16) k 0 ≡ k
    at k l = get_or-range_with_len 0 16 k 0 l ∙ zero-add k

pub issuer_ordered : (ws : List ℕ) {i : ℕ} (words : List ℕ) {r : Bool} → length words ≡ 16 → ((s : ℕ) → get_or words s 0 < 65536) → Beyond ws i words
    → ((s : ℕ) → s < 16 → stranger ws i s ≡ 0) → Answered (λ w. w ≡ 0) words r → (r ≡ true) ↔ IssuerInOrder ws i
issuer_ordered ws {i} words {r} long wide x users m = (
  λ e. record { users = users; roles = λ s n ls ln. (and-not _ (reached_in ws i s n)).0 (sym (x.each s n ls ln) ∙ ap (λ w. bit w n) (all.0 e s (omega arith)) ∙ bit_0 n) },
  λ h. all.1 (λ s l. word_ext 16 _ 0 (wide s) (omega arith) (λ n ln. x.each s n (omega arith) ln ∙ (and-not _ (reached_in ws i s n)).1 (h.roles s n (omega arith) ln) ∙ sym (bit_0 n))),
)
  where
    all : (r ≡ true) ↔ ((s : ℕ) → s < length words → get_or words s 0 ≡ 0)
    all = every (λ w. w ≡ 0) words r m

pub all_ordered : (ws : List ℕ) {r : Bool} → Answered (IssuerInOrder ws) (range_with_len 0 16) r → (r ≡ true) ↔ InOrder ws
all_ordered ws {r} m = (
  λ e. record { users = λ i s li. (all.0 e i li).users s; roles = λ i s n li. (all.0 e i li).roles s n },
  λ h. all.1 (λ i li. record { users = λ s. h.users i s li; roles = λ s n. h.roles i s n li }),
)
  where
    all : (r ≡ true) ↔ ((i : ℕ) → i < 16 → IssuerInOrder ws i)
    all = every_below (IssuerInOrder ws) r m
