-- A field in front of bytes: where its text is TEXTDATA alone, it is that text, plain or between two quotes.
use mathlib.Core.Path.{◌≡◌, refl, sym, ap, ◌∙◌}
use mathlib.Core.Logic.{⊎_elim}
use mathlib.Core.Bool.{Bool, true, false, false≢true}
use mathlib.Core.List.{List, [], ◌∷◌}
use Prim.Native.Nat.{ℕ, suc, ◌+◌, ◌-◌, ◌≤◌, ◌<◌}
use native.Mathlib.Omega.{arith}
use borrow.Author.Tests.{eq-eqb, ne_eqb}
use lib.ListN.{length, get_or, take, drop, get_or-eq_default}
use lib.Seq.{get_or-drop, drop-drop}
use Rattle.bits.proofs.Booleans.{below_or_not}
use Rattle.sheet.specs.Rfc4180.{DQUOTE, textdata, quotable, Text}
use Rattle.sheet.specs.Reading.{Read, none, read, then, textual, with_first, quoted, field}
use Rattle.sheet.specs.Found.{NotPlain, no_field, not_text, plain, other, FieldIs}
use Rattle.sheet.proofs.Bytes.{the_quote, in_quotes}
use Rattle.sheet.proofs.Texts.{text-first, no_text-first}

-- ---- the text in front
abbrev InFront : List ℕ → Type 0
InFront l = (take (length (textual l)) l ≡ textual l) × (length (textual l) ≤ length l)

pub in_front : (l : List ℕ) → InFront l
unfolding textual
in_front [] = (refl, omega arith)
in_front (x ∷ l) = go (textdata x) refl (in_front l)
  where
    go : (b : Bool) → b ≡ textdata x → InFront l → InFront (x ∷ l)
    go true e (s, n) = rw (text-first x l e) (ap (λ t. x ∷ t) s, omega arith)
    go false e i = rw (no_text-first x l e) (refl, omega arith)

-- ---- a quoted field, behind its first quote
text_head : {x : ℕ} {t : List ℕ} → Text (x ∷ t) → textdata x ≡ true
text_head (Text.one_more h w) = h

text_tail : {x : ℕ} {t : List ℕ} → Text (x ∷ t) → Text t
text_tail (Text.one_more h w) = w

-- a byte that isn't TEXTDATA in a text
starts : (x : ℕ) → false ≡ textdata x → (q : Read (List ℕ)) → NotPlain (then q (with_first x))
starts x e none = no_field
starts x e (read t l) = not_text (λ w. false≢true (e ∙ text_head w))

goes_on : (x : ℕ) {q : Read (List ℕ)} → NotPlain q → NotPlain (then q (with_first x))
goes_on x no_field = no_field
goes_on x (not_text n) = not_text (λ w. n (text_tail w))

-- a byte of TEXTDATA
step : (x : ℕ) (l : List ℕ) → true ≡ textdata x → quoted false (x ∷ l) ≡ then (quoted false l) (with_first x)
unfolding quoted
step x l e =
    let d = ne_eqb x DQUOTE (λ q. false≢true (the_quote x q ∙ sym e)) in
    rw (d, in_quotes x (sym e), quoted)

-- where the TEXTDATA ends
abbrev pub end_of : List ℕ → ℕ
end_of l = length (textual l)

-- a quote that isn't doubled closes the field
pub closed : (l : List ℕ) → get_or l (end_of l) 0 ≡ DQUOTE → (get_or l (suc (end_of l)) 0 ≡ DQUOTE → ⊥) → quoted false l ≡ read (textual l) (drop (suc (end_of l)) l)
unfolding textual quoted
closed [] a b = absurd (omega arith)
closed (x ∷ l) a b = go (textdata x) refl (closed l) a b
  where
    last : (m : List ℕ) → (get_or m 0 0 ≡ DQUOTE → ⊥) → quoted true m ≡ read [] m
    last [] n = refl
    last (y ∷ m) n = rw (ne_eqb y DQUOTE n, quoted)

    go : (t : Bool) → t ≡ textdata x
        → (get_or l (end_of l) 0 ≡ DQUOTE → (get_or l (suc (end_of l)) 0 ≡ DQUOTE → ⊥) → quoted false l ≡ read (textual l) (drop (suc (end_of l)) l))
        → get_or (x ∷ l) (end_of (x ∷ l)) 0 ≡ DQUOTE → (get_or (x ∷ l) (suc (end_of (x ∷ l))) 0 ≡ DQUOTE → ⊥)
        → quoted false (x ∷ l) ≡ read (textual (x ∷ l)) (drop (suc (end_of (x ∷ l))) (x ∷ l))
    go true e f a b = rw (text-first x l e, step x l e) (ap (λ q. then q (with_first x)) (f (rw (text-first x l e) at a) (rw (text-first x l e) at b)))
    go false e f a b = rw (no_text-first x l e, eq-eqb x DQUOTE (rw (no_text-first x l e) at a), quoted) (last l (rw (no_text-first x l e) at b))

-- another byte isn't plain text, or ends the bytes
not-closed : (l : List ℕ) → (get_or l (end_of l) 0 ≡ DQUOTE → ⊥) → NotPlain (quoted false l)
unfolding quoted
not-closed [] n = no_field
not-closed (x ∷ l) n = go (textdata x) refl (not-closed l) n
  where
    stray : false ≡ textdata x → (x ≡ DQUOTE → ⊥) → (b : Bool) → b ≡ quotable x → NotPlain (quoted false (x ∷ l))
    stray e d true q = rw (ne_eqb x DQUOTE d, sym q, quoted) (starts x e (quoted false l))
    stray e d false q = rw (ne_eqb x DQUOTE d, sym q, quoted) no_field

    go : (t : Bool) → t ≡ textdata x → ((get_or l (end_of l) 0 ≡ DQUOTE → ⊥) → NotPlain (quoted false l)) → (get_or (x ∷ l) (end_of (x ∷ l)) 0 ≡ DQUOTE → ⊥) → NotPlain (quoted false (x ∷ l))
    go true e f n = rw (step x l e) (goes_on x (f (rw (text-first x l e) at n)))
    go false e f n = stray e (rw (no_text-first x l e) at n) (quotable x) refl

-- a doubled quote is a quote in the text
pub doubled : (l : List ℕ) → get_or l (end_of l) 0 ≡ DQUOTE → get_or l (suc (end_of l)) 0 ≡ DQUOTE → NotPlain (quoted false l)
unfolding quoted
doubled [] a b = no_field
doubled (x ∷ l) a b = go (textdata x) refl (doubled l) a b
  where
    second : (m : List ℕ) → get_or m 0 0 ≡ DQUOTE → NotPlain (quoted true m)
    second [] b = absurd (omega arith)
    second (y ∷ m) b = rw (eq-eqb y DQUOTE b, quoted) (starts DQUOTE (the_quote DQUOTE refl) (quoted false m))

    go : (t : Bool) → t ≡ textdata x → (get_or l (end_of l) 0 ≡ DQUOTE → get_or l (suc (end_of l)) 0 ≡ DQUOTE → NotPlain (quoted false l))
        → get_or (x ∷ l) (end_of (x ∷ l)) 0 ≡ DQUOTE → get_or (x ∷ l) (suc (end_of (x ∷ l))) 0 ≡ DQUOTE → NotPlain (quoted false (x ∷ l))
    go true e f a b = rw (step x l e) (goes_on x (f (rw (text-first x l e) at a) (rw (text-first x l e) at b)))
    go false e f a b = rw (eq-eqb x DQUOTE (rw (no_text-first x l e) at a), quoted) (second l (rw (no_text-first x l e) at b))

-- ---- what the code finds
-- a byte that isn't 0 lies in the bytes
pub in_range : (l : List ℕ) (k : ℕ) → 0 < get_or l k 0 → k < length l
in_range l k h = ⊎_elim (λ i. i) (λ i. absurd (omega (arith, get_or-eq_default l 0 i))) (below_or_not k (length l))

-- a plain field
pub unquoted : (l : List ℕ) {n : ℕ} → (get_or l 0 0 ≡ DQUOTE → ⊥) → n ≡ end_of l → FieldIs l (record { from = 0; to = n; next = n })
unfolding field
unquoted l {n} d e =
    let z : n - 0 ≡ end_of l = omega arith in
    record {
      meant = plain (rw (ne_eqb (get_or l 0 0) DQUOTE d, z, (in_front l).0, e, field));
      ordered = omega arith;
      behind = omega arith;
      inside = omega (arith, (in_front l).1);
    }

-- a quoted field: n bytes of TEXTDATA stand behind its first quote
module _ (l : List ℕ) (n : ℕ) (first : get_or l 0 0 ≡ DQUOTE) (e : n ≡ end_of (drop 1 l)) where
  opened : field l ≡ quoted false (drop 1 l)
  unfolding field
  opened = rw (eq-eqb (get_or l 0 0) DQUOTE first, field)

  behind_first : (k : ℕ) → get_or l (1 + k) 0 ≡ get_or (drop 1 l) k 0
  behind_first k = sym (get_or-drop 1 l k 0)

  second : get_or l (1 + n) 0 ≡ get_or (drop 1 l) (end_of (drop 1 l)) 0
  second = behind_first n ∙ ap (λ k. get_or (drop 1 l) k 0) e

  third : get_or l (1 + n + 1) 0 ≡ get_or (drop 1 l) (suc (end_of (drop 1 l))) 0
  third = let s : 1 + n + 1 ≡ 1 + suc n = omega arith in rw s (behind_first (suc n) ∙ ap (λ k. get_or (drop 1 l) (suc k) 0) e)

  pub between_quotes : get_or l (1 + n) 0 ≡ DQUOTE → (get_or l (1 + n + 1) 0 ≡ DQUOTE → ⊥) → FieldIs l (record { from = 1; to = 1 + n; next = 1 + n + 1 })
  between_quotes a b =
      let z : 1 + n - 1 ≡ end_of (drop 1 l) = omega arith in
      let s : 1 + n + 1 ≡ 1 + suc (end_of (drop 1 l)) = omega arith in
      record {
        meant = plain (opened ∙ closed (drop 1 l) (sym second ∙ a) (λ q. b (third ∙ q)) ∙ rw (z, (in_front (drop 1 l)).0, s) (ap (read (textual (drop 1 l))) (drop-drop (suc (end_of (drop 1 l))) 1 l)));
        ordered = omega arith;
        behind = omega arith;
        inside = omega (arith, in_range l (1 + n) (omega arith));
      }

  no_text : NotPlain (quoted false (drop 1 l)) → FieldIs l (record { from = 0; to = 0; next = 0 })
  no_text p = record { meant = other (rw opened p) refl; ordered = omega arith; behind = omega arith; inside = omega arith }

  pub not_between : (get_or l (1 + n) 0 ≡ DQUOTE → ⊥) → FieldIs l (record { from = 0; to = 0; next = 0 })
  not_between a = no_text (not-closed (drop 1 l) (λ q. a (second ∙ q)))

  pub with_a_quote : get_or l (1 + n) 0 ≡ DQUOTE → get_or l (1 + n + 1) 0 ≡ DQUOTE → FieldIs l (record { from = 0; to = 0; next = 0 })
  with_a_quote a b = no_text (doubled (drop 1 l) (sym second ∙ a) (sym third ∙ b))
