-- Lesser roles sifted one role after another: what is left is beyond reach.
use Rattle.std.proofs.Common.{◌≡◌, refl, ap, sym, ◌∙◌, Bool, true, false, cond, not, ◌&&◌, List, ℕ, ◌<◌, get_or, eq-eqb, ne_eqb}
use mathlib.Core.Bool.{and-true, and-false}
use native.Mathlib.Decide.{ℕ_discrete}
use Rattle.bits.specs.Gather.{gather}
use Rattle.bits.proofs.Gather.{gather_has}
use Rattle.bits.specs.Bit.{bit, without_bit, Lowest}
use Rattle.bits.proofs.Bit.{bit_without}
use Rattle.bits.proofs.Booleans.{clash, untrue}
use Rattle.mtas.specs.Layout.{session_user, active_roles, read}
use Rattle.sessions.specs.Lesser.{lesser, IsLesser, Over, holds_one, Spared, reached_in}
use Rattle.sessions.proofs.Reached.{one_held, none_beyond, is_beyond}

-- the roles of the rest are lesser ones, and of the others those are left that are beyond reach
pub record Sifted (ws : List ℕ) (i rest : ℕ) (words : List ℕ) : Type 0 where
  pub each : (s n : ℕ) → s < 16 → n < 16
      → bit (get_or words s 0) n ≡ cond (bit rest n) (bit (lesser ws i s) n) (bit (read ws (active_roles i s)) n && not (reached_in ws i s n))

module _ (ws : List ℕ) (wide : (k : ℕ) → get_or ws k 0 < 65536) {i : ℕ} (li : i < 16) where
  pub sifted_none : {words : List ℕ} {all : ℕ} → all ≡ gather 16 (λ s. get_or words s 0) → IsLesser ws i words → Sifted ws i all words
  sifted_none {words} {all} e x = record { each = λ s n ls ln. ap (λ w. bit w n) (x.each s ls) ∙ go s n ls ln (bit all n) refl }
    where
      go : (s n : ℕ) → s < 16 → n < 16 → (b : Bool) → bit all n ≡ b
          → bit (lesser ws i s) n ≡ cond b (bit (lesser ws i s) n) (bit (read ws (active_roles i s)) n && not (reached_in ws i s n))
      go s n ls ln true e = refl
      go s n ls ln false p =
          let none = untrue (bit (lesser ws i s) n) (λ h. clash (gather_has 16 (λ k. get_or words k 0) s n ls (ap (λ w. bit w n) (x.each s ls) ∙ h)) (ap (λ w. bit w n) (sym e) ∙ p)) in
          none ∙ sym (none_beyond ws wide li s n ln none)

  pub sifted_more : {r rest above : ℕ} {words after : List ℕ} → Lowest rest r → Over ws i r above → Spared ws i r above words after
      → Sifted ws i rest words → Sifted ws i (without_bit rest r) after
  sifted_more {r} {rest} {above} {words} {after} low o x y = record { each = λ s n ls ln. ap (λ w. bit w n) (x.each s ls) ∙ go s n ls ln (ℕ_discrete r n) }
    where
      one : (s : ℕ) → holds_one ws i (read ws (session_user i s)) above ≡ reached_in ws i s r
      one s = one_held ws wide li (read ws (session_user i s)) r o refl

      -- the role itself goes where it is reached
      this : (s : ℕ) → s < 16 → (b : Bool) → reached_in ws i s r ≡ b
          → bit (cond b (without_bit (get_or words s 0) r) (get_or words s 0)) r ≡ bit (read ws (active_roles i s)) r && not b
      this s ls true e = bit_without (get_or words s 0) r r low.place low.place ∙ rw (eq-eqb r r refl) (and-false (bit (get_or words s 0) r)) ∙ sym (and-false (bit (read ws (active_roles i s)) r))
      this s ls false e =
          y.each s r ls low.place ∙ rw low.is_set (sym (and-true (bit (lesser ws i s) r)) ∙ (rw e at (is_beyond ws wide li s r low.place)))

      -- the others stay
      other : (s n : ℕ) → s < 16 → n < 16 → (r ≡ n → ⊥) → (b : Bool) → bit (cond b (without_bit (get_or words s 0) r) (get_or words s 0)) n ≡ bit (get_or words s 0) n
      other s n ls ln d true = bit_without (get_or words s 0) r n low.place ln ∙ rw (ne_eqb r n d) (and-true (bit (get_or words s 0) n))
      other s n ls ln d false = refl

      go : (s n : ℕ) → s < 16 → n < 16 → Dec (r ≡ n)
          → bit (cond (holds_one ws i (read ws (session_user i s)) above) (without_bit (get_or words s 0) r) (get_or words s 0)) n
          ≡ cond (bit (without_bit rest r) n) (bit (lesser ws i s) n) (bit (read ws (active_roles i s)) n && not (reached_in ws i s n))
      go s n ls ln (yes e) =
          rw (← e, one s, bit_without rest r r low.place low.place, eq-eqb r r refl, and-false (bit rest r)) (this s ls (reached_in ws i s r) refl)
      go s n ls ln (no d) =
          other s n ls ln d (holds_one ws i (read ws (session_user i s)) above) ∙ y.each s n ls ln
          ∙ rw (bit_without rest r n low.place ln, ne_eqb r n d, and-true (bit rest n))
