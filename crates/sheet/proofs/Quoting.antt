-- Rows of the same texts, of the form or not, are read as the same however they are quoted.
use mathlib.Core.Path.{◌≡◌, refl, ap, sym, ◌∙◌}
use mathlib.Core.Bool.{Bool, true, false}
use mathlib.Core.List.{List, [], ◌∷◌, ◌++◌, append_assoc}
use Prim.Native.Nat.{ℕ, zero, suc}
use native.Mathlib.Omega.{arith}
use lib.Dec.{leb}
use lib.ListN.{get_or}
use Rattle.mtas.specs.Call.{Call}
use Rattle.mtas.specs.Record.{Kind, unknown, known, kind_at}
use Rattle.sheet.specs.Rfc4180.{COMMA, textdata, Row}
use Rattle.sheet.specs.Reading.{Read, none, read, then, field, kind_named, number, numbered, with_first, argument, arguments, ended, with_arguments, row}
use Rattle.sheet.specs.Laws.{RowEnd}
use Rattle.sheet.proofs.Fields.{Edge, nothing, a_byte, field-complete}
use Rattle.sheet.proofs.RowLaws.{row_laws}

edge : {l : List ℕ} → RowEnd l → Edge l
unfolding textdata
edge RowEnd.at_the_end = nothing
edge RowEnd.in_crlf = a_byte refl refl

comma_edge : (l : List ℕ) → Edge (COMMA ∷ l)
unfolding textdata
comma_edge l = a_byte refl refl

-- in front of a row's end: nothing more, or a comma and rows of the same texts
data Alike (l : List ℕ) : List ℕ → List ℕ → Type 0 where
  same : Alike l l l
  after_comma : {b c : List ℕ} {ts : List (List ℕ)} → Row b ts → Row c ts → Alike l (COMMA ∷ (b ++ l)) (COMMA ∷ (c ++ l))

-- the fields in front of two rows of the same texts
abbrev Fronts : List ℕ → List ℕ → List ℕ → Type 0
Fronts l b c = (t : List ℕ) × (r : List ℕ) × (s : List ℕ) × (field (b ++ l) ≡ read t r) × (field (c ++ l) ≡ read t s) × Alike l r s

fronts : {b c : List ℕ} {ts : List (List ℕ)} (l : List ℕ) → RowEnd l → Row b ts → Row c ts → Fronts l b c
fronts l e (Row.last_field {t = t} f) (Row.last_field g) = (t, l, l, field-complete f (edge e), field-complete g (edge e), same)
fronts l e (Row.last_field f) (Row.one_more g w) = absurd (omega (arith, row_laws.some w))
fronts l e (Row.one_more f v) (Row.last_field g) = absurd (omega (arith, row_laws.some v))
fronts l e (Row.one_more {b = b} {t = t} {c = c} f v) (Row.one_more {b = d} {c = k} g w) =
    (t, COMMA ∷ (c ++ l), COMMA ∷ (k ++ l), ap field (append_assoc b (COMMA ∷ c) l) ∙ field-complete f (comma_edge (c ++ l)), ap field (append_assoc d (COMMA ∷ k) l) ∙ field-complete g (comma_edge (k ++ l)), after_comma v w)

then-then : {A : Type 0} (r : Read (List ℕ)) (x : ℕ) (f : List ℕ → List ℕ → Read A) → then (then r (with_first x)) f ≡ then r (λ xs l. f (x ∷ xs) l)
then-then none x f = refl
then-then (read xs l) x f = refl

-- so many arguments and then f, which no comma may follow
arguments_alike : (n : ℕ) {l r s : List ℕ} → RowEnd l → Alike l r s → (f : List ℕ → List ℕ → Read Call) → ((xs m : List ℕ) → f xs (COMMA ∷ m) ≡ none) → then (arguments n r) f ≡ then (arguments n s) f
unfolding arguments argument
arguments_alike zero e same f stops = refl
arguments_alike zero {l = l} e (after_comma {b = b} {c = c} v w) f stops = stops [] (b ++ l) ∙ sym (stops [] (c ++ l))
arguments_alike (suc n) e same f stops = refl
arguments_alike (suc n) {l = l} e (after_comma {b = b} {c = c} v w) f stops =
    let (t, r, s, p, q, a) = fronts l e v w in
    ap (λ y. then (then (then y numbered) (λ x m. then (arguments n m) (with_first x))) f) p ∙ numbers t r s a (leb (number t) 15) refl (arguments_alike n e a)
    ∙ sym (ap (λ y. then (then (then y numbered) (λ x m. then (arguments n m) (with_first x))) f) q)
  where
    numbers : (t r s : List ℕ) → Alike l r s → (y : Bool) → leb (number t) 15 ≡ y
        → ((f : List ℕ → List ℕ → Read Call) → ((xs m : List ℕ) → f xs (COMMA ∷ m) ≡ none) → then (arguments n r) f ≡ then (arguments n s) f)
        → then (then (numbered t r) (λ x m. then (arguments n m) (with_first x))) f ≡ then (then (numbered t s) (λ x m. then (arguments n m) (with_first x))) f
    numbers t r s a true h rest =
        rw (h, numbered) (then-then (arguments n r) (number t) f ∙ rest (λ xs m. f (number t ∷ xs) m) (λ xs m. stops (number t ∷ xs) m) ∙ sym (then-then (arguments n s) (number t) f))
    numbers t r s a false h rest = rw (h, numbered)

comma_no_end : (k : Call) (m : List ℕ) → ended k (COMMA ∷ m) ≡ none
unfolding ended
comma_no_end k [] = refl
comma_no_end k (y ∷ m) = refl

pub same_row : {b c : List ℕ} {ts : List (List ℕ)} (l : List ℕ) → Row b ts → Row c ts → RowEnd l → row (b ++ l) ≡ row (c ++ l)
unfolding row
same_row l v w e =
    let (t, r, s, p, q, a) = fronts l e v w in
    ap (λ y. then y (λ t r. with_arguments (kind_at (kind_named t)) r)) p ∙ of_kind r s a (kind_at (kind_named t)) ∙ sym (ap (λ y. then y (λ t r. with_arguments (kind_at (kind_named t)) r)) q)
  where
    of_kind : (r s : List ℕ) → Alike l r s → (k : Kind) → with_arguments k r ≡ with_arguments k s
    of_kind r s a unknown = refl
    of_kind r s a (known f) = arguments_alike f.count e a (λ xs m. ended (f.call (λ n. get_or xs n 0)) m) (λ xs m. comma_no_end (f.call (λ n. get_or xs n 0)) m)
