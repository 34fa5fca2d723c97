-- Strips masked one after another: a bit stays where each of them spares it.
use Rattle.std.proofs.Common.{◌≡◌, refl, ap, sym, ◌∙◌, Bool, true, false, cond, not, ◌&&◌, List, [], ◌∷◌, ℕ, ◌<◌, ◌≤◌, arith, rules, bit_and, length, get_or, set, length-set, get_or-set_same, get_or-set_other}
use mathlib.Core.Bool.{and-true}
use native.Mathlib.Decide.{ℕ_discrete}
use lib.Bits.{and_le_l}
use Rattle.std.specs.List.{list_all}
use Rattle.bits.specs.Bit.{bit}
use Rattle.bits.specs.Stride.{in_stride}
use Rattle.bits.proofs.Bit.{bit-and}
use Rattle.bits.proofs.Booleans.{untrue}
use Rattle.bits.proofs.Stride.{stride_in, stride_out}
use Rattle.effects.specs.Strips.{Strip, word, covers, StripMasked, spares, Kept}

pub none_kept : {ws : List ℕ} → Kept [] ws ws
none_kept {ws} = record { len = refl; below = λ k. omega arith; each = λ k n. sym (and-true (bit (get_or ws k 0) n)) }

one_kept : {s : Strip} {l : List Strip} {ws us vs : List ℕ} → StripMasked s ws us → Kept l us vs → Kept (s ∷ l) ws vs
one_kept {s} {l} {ws} {us} {vs} m x = record { len = x.len ∙ m.words.words.len; below = λ k. omega (arith, less k, x.below k); each = step }
  where
    less : (k : ℕ) → get_or us k 0 ≤ get_or ws k 0
    less k = rw (m.words.words.each k) (go (covers s k))
      where
        go : (b : Bool) → cond b (bit_and (get_or ws k 0) s.keep) (get_or ws k 0) ≤ get_or ws k 0
        go true = and_le_l (get_or ws k 0) s.keep
        go false = omega arith

    here : (k n : ℕ) → bit (get_or us k 0) n ≡ bit (get_or ws k 0) n && spares s k n
    here k n = ap (λ (x : ℕ). bit x n) (m.words.words.each k) ∙ go (covers s k) (bit s.keep n) (bit-and (get_or ws k 0) s.keep n)
      where
        go : (a b : Bool) → bit (bit_and (get_or ws k 0) s.keep) n ≡ bit (get_or ws k 0) n && b → bit (cond a (bit_and (get_or ws k 0) s.keep) (get_or ws k 0)) n ≡ bit (get_or ws k 0) n && not (a && not b)
        go true true h = h
        go true false h = h
        go false b h = sym (and-true (bit (get_or ws k 0) n))

    turn : (a b c : Bool) → (a && b) && c ≡ a && (b && c)
    turn true b c = refl
    turn false b c = refl

    step : (k n : ℕ) → bit (get_or vs k 0) n ≡ bit (get_or ws k 0) n && list_all (λ t. spares t k n) (s ∷ l)
    step k n = x.each k n ∙ ap (λ b. b && list_all (λ t. spares t k n) l) (here k n) ∙ turn (bit (get_or ws k 0) n) (spares s k n) _

-- one word
pub word_masked : (ws : List ℕ) {at m : ℕ} → at < length ws → StripMasked (word at m) ws (set ws at (bit_and (get_or ws at 0) m))
word_masked ws {at} {m} l = record { words = record { words = record { len = simp length-set; each = λ k. go k (ℕ_discrete k at) } } }
  where
    go : (k : ℕ) → Dec (k ≡ at) → get_or (set ws at (bit_and (get_or ws at 0) m)) k 0 ≡ cond (in_stride 1 at 1 k) (bit_and (get_or ws k 0) m) (get_or ws k 0)
    go k (yes e) = rw (e, stride_in at 1 at 1 0 (omega arith) (omega arith)) (get_or-set_same ws at _ 0 l)
    go k (no n) = let o = untrue (in_stride 1 at 1 k) (λ t. let (u, l, s) = stride_out at 1 k 1 t in n (omega arith)) in rw o (get_or-set_other ws at k _ 0 n)

-- the first strip of a list
pub strip_kept : {l : List Strip} {step a b c d m n : ℕ} {ws us vs : List ℕ} → StripMasked (record { step = step; from = a; count = c; keep = m }) ws us → a ≡ b → c ≡ d → m ≡ n → Kept l us vs
    → Kept (record { step = step; from = b; count = d; keep = n } ∷ l) ws vs
strip_kept s p r q x = one_kept (rw (p, r, q) at s) x

-- a list of strips, one after another
pub ruleset strip_by_strip = (rules, none_kept, strip_kept)
