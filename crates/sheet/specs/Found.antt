-- What the code finds and answers, in the definition's terms.
use Rattle.std.specs.Prelude.{◌≡◌, Option, Some, None, Result, Ok, Err, List, [], ◌∷◌, ℕ, ◌+◌, ◌-◌, ◌*◌, ◌≤◌, length, take, drop}
use Rattle.mtas.specs.Call.{Call}
use Rattle.mtas.specs.Record.{Kind, unknown, known, kind_at, header, record_of, encode_call}
use Rattle.record.specs.declared.Slots.{Slots}
use Rattle.sheet.specs.Rfc4180.{Text}
use Rattle.sheet.specs.Reading.{Read, none, read, then, field, kind_named, number, argument, arguments, ended, row, Rows, calls, wrong_at, rows}
use Rattle.sheet.specs.Converted.{Answer, Result as Defined, records}
use Rattle.sheet.specs.declared.Answer.{Answer as Told}
use Rattle.sheet.specs.declared.Error.{Error}
use Rattle.sheet.specs.declared.Error.TheVariants.{Caller, Line, NoRoom}
use Rattle.sheet.specs.declared.csv.Field.{Field}
use Rattle.sheet.specs.declared.form.Named.{Named}
use Rattle.sheet.specs.declared.reading.Call.{Call as Called}

-- ---- a field
-- no field, or one whose text isn't TEXTDATA alone
pub data NotPlain : Read (List ℕ) → Type 0 where
  no_field : NotPlain none
  not_text : {t l : List ℕ} → (Text t → ⊥) → NotPlain (read t l)

abbrev pub text_in : List ℕ → Field → List ℕ
text_in l f = take (f.to - f.from) (drop f.from l)

pub data Meant (l : List ℕ) (f : Field) : Type 0 where
  plain : field l ≡ read (text_in l f) (drop f.next l) → Meant l f
  other : NotPlain (field l) → text_in l f ≡ [] → Meant l f

pub record FieldIs (l : List ℕ) (f : Field) : Type 0 where
  pub meant : Meant l f
  pub ordered : f.from ≤ f.to
  pub behind : f.to ≤ f.next
  pub inside : f.next ≤ length l

-- ---- a word
abbrev pub count_of : Kind → ℕ
count_of unknown = 0
count_of (known f) = f.count

pub record Is (t : List ℕ) (w : Named) : Type 0 where
  pub same_kind : w.kind ≡ kind_named t
  pub same_count : w.count ≡ count_of (kind_at (kind_named t))
  pub some : 1 ≤ w.count
  pub few : w.count ≤ 3

abbrev pub Names : List ℕ → Option Named → Type 0
Names t (Some w) = Is t w
Names t None = kind_named t ≡ 0

abbrev pub NumberIs : List ℕ → Option ℕ → Type 0
NumberIs t (Some n) = (n ≡ number t) × (n ≤ 15)
NumberIs t None = number t ≡ 16

-- ---- arguments
abbrev pub argument_of : List ℕ → Option (ℕ × ℕ) → Read ℕ
argument_of l (Some (n, next)) = read n (drop next l)
argument_of l None = none

pub record ArgumentIs (l : List ℕ) (r : Option (ℕ × ℕ)) : Type 0 where
  pub same : argument_of l r ≡ argument l
  pub inside : {n next : ℕ} → r ≡ Some (n, next) → (2 ≤ next) × (next ≤ length l)

abbrev pub arguments_of : ℕ → List ℕ → Option (Slots × ℕ) → Read (List ℕ)
arguments_of count l (Some (s, next)) = read (take count (s.x ∷ s.y ∷ s.z ∷ [])) (drop next l)
arguments_of count l None = none

pub record ArgumentsAre (count : ℕ) (l : List ℕ) (r : Option (Slots × ℕ)) : Type 0 where
  pub same : arguments_of count l r ≡ arguments count l
  pub inside : {s : Slots} {next : ℕ} → r ≡ Some (s, next) → (2 * count ≤ next) × (next ≤ length l)

-- ---- a row
abbrev pub end_of : Call → List ℕ → Option ℕ → Read Call
end_of k l (Some n) = read k (drop n l)
end_of k l None = none

pub record EndIs (l : List ℕ) (r : Option ℕ) : Type 0 where
  pub same : (k : Call) → end_of k l r ≡ ended k l
  pub inside : {n : ℕ} → r ≡ Some n → n ≤ length l

-- a call's record
abbrev pub recorded : ℕ → Read Call → Read (List ℕ)
recorded caller r = then r (λ k l. read (encode_call caller k) l)

abbrev pub slots_of : Called → List ℕ
slots_of k = take k.count (k.slots.x ∷ k.slots.y ∷ k.slots.z ∷ [])

abbrev pub row_of : ℕ → List ℕ → Option (Called × ℕ) → Read (List ℕ)
row_of caller l (Some (k, next)) = read (record_of k.kind caller (slots_of k)) (drop next l)
row_of caller l None = none

-- a row is at least as long as its record
pub record Sound (l : List ℕ) (k : Called) (next : ℕ) : Type 0 where
  pub few : k.count ≤ 3
  pub shorter : header + k.count ≤ next
  pub inside : next ≤ length l

pub record RowIs (l : List ℕ) (r : Option (Called × ℕ)) : Type 0 where
  pub same : (caller : ℕ) → row_of caller l r ≡ recorded caller (row l)
  pub sound : {k : Called} {next : ℕ} → r ≡ Some (k, next) → Sound l k next

-- ---- a sheet
-- how many bytes the records have, or the wrong line
abbrev pub size_of : ℕ → Rows → Result ℕ Error
size_of caller (calls ks) = Ok (length (records caller ks))
size_of caller (wrong_at line) = Err (Line line)

-- the calls of a sheet whose records have room in n bytes
pub record Fitting (caller : ℕ) (csv : List ℕ) (n : ℕ) : Type 0 where
  pub all : List Call
  pub good : rows csv ≡ calls all
  pub room : length (records caller all) ≤ n

abbrev pub records_in : ℕ → Rows → List ℕ
records_in caller (calls ks) = records caller ks
records_in caller (wrong_at line) = []

-- the numbers that a result tells
abbrev pub answer_of : Result ℕ Error → Answer
answer_of (Ok bytes) = record { error = 0; line = 0; bytes = bytes }
answer_of (Err Caller) = record { error = 15; line = 0; bytes = 0 }
answer_of (Err (Line line)) = record { error = 15; line = line; bytes = 0 }
answer_of (Err NoRoom) = record { error = 16; line = 0; bytes = 0 }

pub record Tells (r : Told) (a : Answer) : Type 0 where
  pub same_error : r.error ≡ a.error
  pub same_line : r.line ≡ a.line
  pub same_bytes : r.bytes ≡ a.bytes

-- the code's answer and buffer are the definition's
pub record Converts (defined : Defined) (r : Answer) (out : List ℕ) : Type 0 where
  pub same_error : r.error ≡ defined.answer.error
  pub same_line : r.line ≡ defined.answer.line
  pub same_bytes : r.bytes ≡ defined.answer.bytes
  pub same_out : out ≡ defined.out
