-- What the converter answers, and the output buffer that it leaves (Card 5).
use Rattle.std.specs.Prelude.{true, false, List, ◌++◌, map, ℕ, ltb, length, drop}
use Rattle.mtas.specs.Call.{Call}
use Rattle.mtas.specs.Record.{encode_call}
use Rattle.mtas.specs.Journal.{joined}
use Rattle.sheet.specs.Reading.{Rows, calls, wrong_at, rows}

pub record Answer : Type 0 where
  pub error : ℕ
  pub line : ℕ
  pub bytes : ℕ

pub record Result : Type 0 where
  pub answer : Answer
  pub out : List ℕ

-- '0 is told and all of it is untouched'
abbrev refused : ℕ → ℕ → List ℕ → Result
refused error line out = record { answer = record { error = error; line = line; bytes = 0 }; out = out }

-- the calls' records, end to end
unfoldable pub records : ℕ → List Call → List ℕ
records caller ks = joined (map (encode_call caller) ks)

-- bytes written over the first ones
abbrev pub over : List ℕ → List ℕ → List ℕ
over bytes out = bytes ++ drop (length bytes) out

-- 'the bytes written are told and the rest of the output buffer stays'; '16, output shorter than the records, after 15'
abbrev pub given : ℕ → List ℕ → Rows → Result
given caller out (wrong_at line) = refused 15 line out
given caller out (calls ks) =
    elim (ltb (length out) (length (records caller ks))) [
      | true ↦ refused 16 0 out
      | false ↦ record { answer = record { error = 0; line = 0; bytes = length (records caller ks) }; out = over (records caller ks) out }
    ]

-- '15, a caller above 15, else the first row that isn't of this form'
unfoldable pub converted : List ℕ → ℕ → List ℕ → Result
converted csv caller out = elim (ltb 15 caller) [ true ↦ refused 15 0 out | false ↦ given caller out (rows csv) ]
