-- The journal program (document 01): how a journal is read into records, and the lines that are printed.
use Rattle.std.specs.Prelude.{◌≡◌, List, [], ◌∷◌, ◌++◌, true, false, ◌&&◌, ℕ, zero, suc, ◌+◌, ◌<◌, ◌≤◌, eqb, leb, ltb, length, take, drop}
use Rattle.mtas.specs.Record.{two_bytes, kind_of, caller_of}
use Rattle.mtas.specs.Monitor.{Result, monitor, initial_words}
use Rattle.mtas.specs.Histories.{History}

-- what the bytes that are left begin with: nothing, a whole record of some length, or one 'that has under 2 bytes left, a length below 5, or one past the end'
pub data Found : Type 0 where
  no_more : Found
  whole : ℕ → Found
  partial : Found

-- a length below this is broken
abbrev pub least_length : ℕ
least_length = 5

unfoldable pub first_of : List ℕ → Found
first_of left =
    elim (eqb (length left) 0) [
      | true ↦ no_more
      | false ↦
          elim (leb 2 (length left) && (leb least_length (two_bytes left 0) && leb (two_bytes left 0) (length left))) [ true ↦ whole (two_bytes left 0) | false ↦ partial ]
    ]

pub data Ending : Type 0 where
  complete : Ending
  broken_at : ℕ → Ending  -- the byte place, from 0

pub record Reading : Type 0 where
  pub records : History  -- each a part of the journal's own bytes
  pub ending : Ending

-- the records in the bytes that are left from a byte place on; a journal's record has 5 bytes at least, so n bytes hold at most n
unfoldable pub read_from : ℕ → ℕ → List ℕ → Reading
read_from zero at left = record { records = []; ending = broken_at at }
read_from (suc n) at left = elim (first_of left) [
  | no_more ↦ record { records = []; ending = complete }
  | whole len ↦ record { records = take len left ∷ (read_from n (at + len) (drop len left)).records; ending = (read_from n (at + len) (drop len left)).ending }
  | partial ↦ record { records = []; ending = broken_at at }
]

abbrev pub read_journal : List ℕ → Reading
read_journal j = read_from (suc (length j)) 0 j

-- a printed line
pub data Line : Type 0 where
  played : ℕ → ℕ → ℕ → ℕ → ℕ → Line  -- 'its place from 1, kind, caller, refusal, verdict'
  end : ℕ → Line  -- 'end and the number of records'
  broken : ℕ → Line  -- 'broken and the byte place'
  long : Line

abbrev pub line_of : ℕ → List ℕ → Result → Line
line_of place b r = played place (kind_of b) (caller_of b) r.answer.refusal r.answer.verdict

-- the lines of records played on a state, the first of which has this place
unfoldable pub lines_from : ℕ → List ℕ → History → List Line
lines_from place ws [] = []
lines_from place ws (b ∷ h) = line_of place b (monitor ws b) ∷ lines_from (suc place) (monitor ws b).words h

abbrev pub last_line : History → Ending → Line
last_line h complete = end (length h)
last_line h (broken_at k) = broken k

abbrev pub journal_limit : ℕ
journal_limit = 65536

-- 'Over 65,536 bytes it prints only long'
unfoldable pub output : List ℕ → List Line
output j =
    elim (ltb journal_limit (length j)) [
      | true ↦ long ∷ []
      | false ↦
          lines_from 1 initial_words (read_journal j).records ++ (last_line (read_journal j).records (read_journal j).ending ∷ [])
    ]

-- 5 bytes or more, with their number in front
abbrev pub Whole : List ℕ → Type 0
Whole b = (5 ≤ length b) × (two_bytes b 0 ≡ length b)

abbrev pub AllWhole : History → Type 0
AllWhole [] = Unit
AllWhole (b ∷ h) = Whole b × AllWhole h

abbrev pub joined : History → List ℕ
joined [] = []
joined (b ∷ h) = b ++ joined h

-- the bytes of a record 'that has under 2 bytes left, a length below 5, or one past the end'
pub data Broken (left : List ℕ) : Type 0 where
  under_2 : length left ≡ 1 → Broken left
  length_below_5 : 2 ≤ length left → two_bytes left 0 < 5 → Broken left
  length_past_the_end : 2 ≤ length left → length left < two_bytes left 0 → Broken left

-- what a journal prints, by its bytes
pub record JournalEnds : Type 0 where
  -- 'An empty journal prints end 0'
  pub empty : output [] ≡ end 0 ∷ []
  -- 'end and the number of records'
  pub whole_records : (h : History) → AllWhole h → length (joined h) ≤ 65536 → output (joined h) ≡ lines_from 1 initial_words h ++ (end (length h) ∷ [])
  -- 'broken and the byte place, from 0, of the record', behind any whole ones
  pub broken_behind : (h : History) (left : List ℕ) → AllWhole h → Broken left → length (joined h ++ left) ≤ 65536
      → output (joined h ++ left) ≡ lines_from 1 initial_words h ++ (broken (length (joined h)) ∷ [])
  -- 'Over 65,536 bytes it prints only long'
  pub too_long : (j : List ℕ) → 65536 < length j → output j ≡ long ∷ []
  -- whatever is read from a journal is whole
  pub all_whole : (j : List ℕ) → AllWhole (read_journal j).records
