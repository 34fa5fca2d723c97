-- The word that a text is, or none, from its length and its bytes.
use mathlib.Core.Path.{◌≡◌, refl, ap, ◌∙◌}
use mathlib.Core.Bool.{Bool, true, false}
use mathlib.Core.List.{List, [], ◌∷◌}
use Prim.Native.Nat.{ℕ, ◌≤◌, ◌+◌, suc}
use native.Mathlib.Omega.{arith}
use lib.ListN.{length, get_or}
use Rattle.std.proofs.lemmas.Slice.Eq.{bytes_eq-Decides, text_from_reads, HasBytesAt}
use Rattle.mtas.specs.Record.{kind_at}
use Rattle.sheet.specs.Form.{user, role, perm, trust, give, grant, attach}
use Rattle.sheet.specs.Reading.{same, kind_in, kind_named}
use Rattle.sheet.specs.Found.{count_of, Is}
use Rattle.sheet.proofs.Texts.{equal-same}

-- a text of another length, or with another byte
abbrev pub Differs : List ℕ → ℕ → List ℕ → Type 0
Differs t i [] = ⊥
Differs t i (x ∷ w) = get_or t i 0 ≡ x → Differs t (suc i) w

abbrev pub Other : List ℕ → List ℕ → Type 0
Other t w = length t ≡ length w → Differs t 0 w

differs : (t w : List ℕ) (i : ℕ) → ((k j : ℕ) → j ≡ i + k → get_or t j 0 ≡ get_or w k 0) → Differs t i w → ⊥
differs t [] i h d = d
differs t (x ∷ w) i h d = differs t w (suc i) (λ k j e. h (suc k) j (omega arith)) (d (h 0 i (omega arith)))

other_word : (t w : List ℕ) → Other t w → same t w ≡ false
other_word t w o = go (same t w) refl
  where
    go : (b : Bool) → same t w ≡ b → same t w ≡ false
    go false e = e
    go true e =
        let q : t ≡ w = (bytes_eq-Decides t w).0 (equal-same t w ∙ e) in
        absurd (differs t w 0 (λ k j e. let z : j ≡ k = omega arith in rw z (ap (λ l. get_or l k 0) q)) (o (ap length q)))

pub no_word : (t : List ℕ) → Other t user → Other t role → Other t perm → Other t trust → Other t give → Other t grant → Other t attach → kind_named t ≡ 0
unfolding kind_named
no_word t u r p j g n a = rw (other_word t user u, other_word t role r, other_word t perm p, other_word t trust j, other_word t give g, other_word t grant n, other_word t attach a, kind_in) refl

pub the_word : (w : List ℕ) (k count : ℕ) → k ≡ kind_named w → count ≡ count_of (kind_at (kind_named w)) → 1 ≤ count → count ≤ 3
    → (t : List ℕ) → length t ≡ length w → HasBytesAt t 0 w → Is t (record { kind = k; count = count })
the_word w k count s c o f t n h = rw (text_from_reads t w n h) (record { same_kind = s; same_count = c; some = o; few = f })
