-- RFC 4180's grammar on bytes, its ABNF from the bytes to a record, with the text that each field stands for; `file` is `Form.Sheet`.
-- That all rows 'should contain the same number of fields' isn't asked: the form says how many each has.
use Rattle.std.specs.Prelude.{◌≡◌, Bool, true, ◌&&◌, ◌||◌, List, [], ◌∷◌, ◌++◌, ℕ, eqb, leb}

-- COMMA = %x2C, CR = %x0D, DQUOTE = %x22, LF = %x0A
abbrev pub COMMA : ℕ
COMMA = 44

abbrev pub CR : ℕ
CR = 13

abbrev pub DQUOTE : ℕ
DQUOTE = 34

abbrev pub LF : ℕ
LF = 10

-- TEXTDATA = %x20-21 / %x23-2B / %x2D-7E
unfoldable pub textdata : ℕ → Bool
textdata x = (leb 32 x && leb x 33) || ((leb 35 x && leb x 43) || (leb 45 x && leb x 126))

-- TEXTDATA / COMMA / CR / LF
abbrev pub quotable : ℕ → Bool
quotable x = textdata x || (eqb x COMMA || (eqb x CR || eqb x LF))

-- *TEXTDATA
pub data Text : List ℕ → Type 0 where
  no_more : Text []
  one_more : {x : ℕ} {t : List ℕ} → textdata x ≡ true → Text t → Text (x ∷ t)

-- *(TEXTDATA / COMMA / CR / LF / 2DQUOTE), and its text: 'a double-quote appearing inside a field must be escaped by preceding it with another double quote'
pub data Escaped : List ℕ → List ℕ → Type 0 where
  no_more : Escaped [] []
  one_more : {x : ℕ} {b t : List ℕ} → quotable x ≡ true → Escaped b t → Escaped (x ∷ b) (x ∷ t)
  two_quotes : {b t : List ℕ} → Escaped b t → Escaped (DQUOTE ∷ DQUOTE ∷ b) (DQUOTE ∷ t)

-- field = (escaped / non-escaped), escaped = DQUOTE *(..) DQUOTE, non-escaped = *TEXTDATA; the bytes, and their text
pub data Field : List ℕ → List ℕ → Type 0 where
  non_escaped : {t : List ℕ} → Text t → Field t t
  escaped : {b t : List ℕ} → Escaped b t → Field (DQUOTE ∷ b ++ (DQUOTE ∷ [])) t

-- record = field *(COMMA field); the bytes, and the fields' texts
pub data Row : List ℕ → List (List ℕ) → Type 0 where
  last_field : {b t : List ℕ} → Field b t → Row b (t ∷ [])
  one_more : {b t c : List ℕ} {ts : List (List ℕ)} → Field b t → Row c ts → Row (b ++ (COMMA ∷ c)) (t ∷ ts)
