-- A sheet read from its front: fields, rows and calls.
use Rattle.std.specs.Prelude.{Bool, true, false, ◌&&◌, List, [], ◌∷◌, ℕ, zero, suc, ◌+◌, ◌-◌, eqb, leb, length, get_or, drop}
use Rattle.mtas.specs.Call.{Call}
use Rattle.mtas.specs.Record.{Kind, unknown, known, kind_at}
use Rattle.sheet.specs.Rfc4180.{COMMA, CR, DQUOTE, LF, textdata, quotable}
use Rattle.sheet.specs.Form.{user, role, perm, trust, give, grant, attach}

-- what the bytes begin with, and the bytes behind it
pub data Read (A : Type 0) : Type 0 where
  none : Read A
  read : A → List ℕ → Read A

abbrev pub then : {A B : Type 0} → Read A → (A → List ℕ → Read B) → Read B
then none f = none
then (read a l) f = f a l

-- ---- a field
-- the TEXTDATA in front
unfoldable pub textual : List ℕ → List ℕ
textual [] = []
textual (x ∷ l) = elim (textdata x) [ true ↦ x ∷ textual l | false ↦ [] ]

abbrev pub with_first : ℕ → List ℕ → List ℕ → Read (List ℕ)
with_first x t l = read (x ∷ t) l

-- a quoted field behind its first quote; of two quotes the first is held until the next byte says whether it closes the field
unfoldable pub quoted : Bool → List ℕ → Read (List ℕ)
quoted false [] = none
quoted false (x ∷ l) = elim (eqb x DQUOTE) [ true ↦ quoted true l | false ↦ elim (quotable x) [ true ↦ then (quoted false l) (with_first x) | false ↦ none ] ]
quoted true [] = read [] []
quoted true (x ∷ l) = elim (eqb x DQUOTE) [ true ↦ then (quoted false l) (with_first DQUOTE) | false ↦ read [] (x ∷ l) ]

unfoldable pub field : List ℕ → Read (List ℕ)
field l = elim (eqb (get_or l 0 0) DQUOTE) [ true ↦ quoted false (drop 1 l) | false ↦ read (textual l) (drop (length (textual l)) l) ]

-- ---- a word or a number
-- the words and the kinds of their calls
abbrev pub words : List (List ℕ × ℕ)
words = (user, 5) ∷ (role, 7) ∷ (perm, 9) ∷ (trust, 3) ∷ (give, 11) ∷ (grant, 13) ∷ (attach, 15) ∷ []

unfoldable pub same : List ℕ → List ℕ → Bool
same [] [] = true
same [] (y ∷ m) = false
same (x ∷ l) [] = false
same (x ∷ l) (y ∷ m) = eqb x y && same l m

abbrev pub kind_in : List (List ℕ × ℕ) → List ℕ → ℕ
kind_in [] t = 0
kind_in ((w, k) ∷ l) t = elim (same t w) [ true ↦ k | false ↦ kind_in l t ]

-- the kind that a word names, 0 for another text
unfoldable pub kind_named : List ℕ → ℕ
kind_named t = kind_in words t

-- the number that a last digit of at most m gives behind so many tens, 16 for another byte
abbrev pub with_digit : ℕ → ℕ → ℕ → ℕ
with_digit tens m x = elim (leb 48 x && leb x m) [ true ↦ tens + (x - 48) | false ↦ 16 ]

-- the number 0 to 15 that a text spells, 16 for another text
unfoldable pub number : List ℕ → ℕ
number [] = 16
number (x ∷ []) = with_digit 0 57 x
number (x ∷ y ∷ []) = elim (eqb x 49) [ true ↦ with_digit 10 53 y | false ↦ 16 ]
number (x ∷ y ∷ z ∷ t) = 16

-- ---- a row
-- the number that a field's text spells
abbrev pub numbered : List ℕ → List ℕ → Read ℕ
numbered t l = elim (leb (number t) 15) [ true ↦ read (number t) l | false ↦ none ]

-- a comma and the number behind it
unfoldable pub argument : List ℕ → Read ℕ
argument l = elim (eqb (get_or l 0 0) COMMA) [ true ↦ then (field (drop 1 l)) numbered | false ↦ none ]

unfoldable pub arguments : ℕ → List ℕ → Read (List ℕ)
arguments zero l = read [] l
arguments (suc n) l = then (argument l) (λ x r. then (arguments n r) (with_first x))

-- the row's end: the end of the sheet, or CRLF
unfoldable pub ended : Call → List ℕ → Read Call
ended k [] = read k []
ended k (x ∷ []) = none
ended k (x ∷ y ∷ l) = elim (eqb x CR && eqb y LF) [ true ↦ read k l | false ↦ none ]

abbrev pub with_arguments : Kind → List ℕ → Read Call
with_arguments unknown l = none
with_arguments (known f) l = then (arguments f.count l) (λ xs r. ended (f.call (λ n. get_or xs n 0)) r)

unfoldable pub row : List ℕ → Read Call
row l = then (field l) (λ t r. with_arguments (kind_at (kind_named t)) r)

-- ---- a sheet
-- its calls, or the line of the first row that isn't of the form
pub data Rows : Type 0 where
  calls : List Call → Rows
  wrong_at : ℕ → Rows

abbrev pub one_call : Call → Rows → Rows
one_call k (calls ks) = calls (k ∷ ks)
one_call k (wrong_at line) = wrong_at line

-- the rows from a line on; a row has a byte at least, so n bytes hold at most n rows
unfoldable pub rows_from : ℕ → ℕ → List ℕ → Rows
rows_from zero line left = wrong_at line
rows_from (suc n) line left =
    elim (eqb (length left) 0) [
      | true ↦ calls []
      | false ↦ elim (row left) [ none ↦ wrong_at line | read k behind ↦ one_call k (rows_from n (suc line) behind) ]
    ]

abbrev pub rows : List ℕ → Rows
rows csv = rows_from (suc (length csv)) 1 csv
