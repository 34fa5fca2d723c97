-- The reading is RFC 4180's grammar and the card's form, no more and no less.
use Rattle.std.specs.Prelude.{◌≡◌, ◌↔◌, List, [], ◌∷◌, ◌++◌, ℕ, suc, ◌<◌, length}
use Rattle.mtas.specs.Call.{Call}
use Rattle.sheet.specs.Rfc4180.{COMMA, CR, LF, Field}
use Rattle.sheet.specs.Form.{Says, Sheet}
use Rattle.sheet.specs.Reading.{read, field, row, calls, wrong_at, rows}

-- what stands behind a field: nothing, a comma or a line's end
pub data FieldEnd : List ℕ → Type 0 where
  at_the_end : FieldEnd []
  at_comma : {l : List ℕ} → FieldEnd (COMMA ∷ l)
  at_cr : {l : List ℕ} → FieldEnd (CR ∷ l)

-- bytes that begin with a row of the form, which ends in CRLF or with them, and those behind it
pub data Begins : List ℕ → Call → List ℕ → Type 0 where
  at_the_end : {b : List ℕ} {k : Call} → Says b k → Begins b k []
  in_crlf : {b l : List ℕ} {k : Call} → Says b k → Begins (b ++ (CR ∷ LF ∷ l)) k l

-- rows of the form, each with its CRLF
pub data Lines : List ℕ → List Call → Type 0 where
  no_more : Lines [] []
  one_more : {b csv : List ℕ} {k : Call} {ks : List Call} → Says b k → Lines csv ks → Lines (b ++ (CR ∷ LF ∷ csv)) (k ∷ ks)

-- behind the lines before it stand bytes, and they begin with no row of the form
pub data WrongAt : List ℕ → ℕ → Type 0 where
  no_row : {front left : List ℕ} {ks : List Call} → Lines front ks → 0 < length left → ((k : Call) (l : List ℕ) → Begins left k l → ⊥) → WrongAt (front ++ left) (suc (length ks))

pub record Exact : Type 0 where
  -- a field of any text, of the form or not
  pub a_field : (b t l : List ℕ) → Field b t → FieldEnd l → field (b ++ l) ≡ read t l
  pub only_fields : (l t behind : List ℕ) → field l ≡ read t behind → (b : List ℕ) × (l ≡ b ++ behind) × Field b t
  pub a_row : (l : List ℕ) (k : Call) (behind : List ℕ) → (row l ≡ read k behind) ↔ Begins l k behind
  pub a_sheet : (csv : List ℕ) (ks : List Call) → (rows csv ≡ calls ks) ↔ Sheet csv ks
  pub a_wrong_line : (csv : List ℕ) (line : ℕ) → (rows csv ≡ wrong_at line) ↔ WrongAt csv line
