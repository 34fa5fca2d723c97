-- What a wrong definition of the conversion would break.
use Rattle.std.specs.Prelude.{◌≡◌, List, [], ◌∷◌, ◌++◌, map, ℕ, ◌≤◌, ◌<◌, length, take, drop}
use Rattle.mtas.specs.Call.{Call}
use Rattle.mtas.specs.Record.{request, decode, encode_call}
use Rattle.mtas.specs.Journal.{complete, read_journal}
use Rattle.lines.specs.Decimal.{decimal}
use Rattle.sheet.specs.Rfc4180.{COMMA, CR, LF, Row}
use Rattle.sheet.specs.Form.{user, role, perm, trust, give, grant, attach, Sheet}
use Rattle.sheet.specs.Reading.{row}
use Rattle.sheet.specs.Exact.{Lines, WrongAt}
use Rattle.sheet.specs.Converted.{converted, records, over}

-- with room for them, these bytes are written and told, at no line
abbrev pub Makes : List ℕ → ℕ → List ℕ → Type 0
Makes csv caller bytes =
    (out : List ℕ) → length bytes ≤ length out → converted csv caller out ≡ record { answer = record { error = 0; line = 0; bytes = length bytes }; out = over bytes out }

-- an error tells no bytes and leaves the buffer, whatever it is
abbrev pub Refused : List ℕ → ℕ → ℕ → ℕ → Type 0
Refused csv caller error line = (out : List ℕ) → converted csv caller out ≡ record { answer = record { error = error; line = line; bytes = 0 }; out = out }

-- a row's end
pub data RowEnd : List ℕ → Type 0 where
  at_the_end : RowEnd []
  in_crlf : {l : List ℕ} → RowEnd (CR ∷ LF ∷ l)

-- a comma and a number
abbrev pub arg : ℕ → List ℕ
arg n = COMMA ∷ decimal n

-- for a caller from 0 to 15
pub record SheetLaws (c : ℕ) : Type 0 where
  -- 'An empty file gives no records'
  pub empty : Makes [] c []
  -- each word gives its call's record
  pub users : (u : ℕ) → u ≤ 15 → Makes (user ++ arg u) c (6 ∷ 0 ∷ 5 ∷ 0 ∷ c ∷ u ∷ [])
  pub roles : (r : ℕ) → r ≤ 15 → Makes (role ++ arg r) c (6 ∷ 0 ∷ 7 ∷ 0 ∷ c ∷ r ∷ [])
  pub permissions : (p : ℕ) → p ≤ 15 → Makes (perm ++ arg p) c (6 ∷ 0 ∷ 9 ∷ 0 ∷ c ∷ p ∷ [])
  pub trusts : (j : ℕ) → j ≤ 15 → Makes (trust ++ arg j) c (6 ∷ 0 ∷ 3 ∷ 0 ∷ c ∷ j ∷ [])
  pub givings : (u r : ℕ) → u ≤ 15 → r ≤ 15 → Makes (give ++ arg u ++ arg r) c (7 ∷ 0 ∷ 11 ∷ 0 ∷ c ∷ u ∷ r ∷ [])
  pub grants : (p i r : ℕ) → p ≤ 15 → i ≤ 15 → r ≤ 15 → Makes (grant ++ arg p ++ arg i ++ arg r) c (8 ∷ 0 ∷ 13 ∷ 0 ∷ c ∷ p ∷ i ∷ r ∷ [])
  pub attachments : (q i r : ℕ) → q ≤ 15 → i ≤ 15 → r ≤ 15 → Makes (attach ++ arg q ++ arg i ++ arg r) c (8 ∷ 0 ∷ 15 ∷ 0 ∷ c ∷ q ∷ i ∷ r ∷ [])
  -- a sheet behind lines: the records of both, and behind a row that lacks its CRLF when it is given one
  pub behind_lines : (a b : List ℕ) (ks ls : List Call) → Lines a ks → Sheet b ls → Makes (a ++ b) c (records c ks ++ records c ls)
  pub behind_a_sheet : (a b : List ℕ) (ks ls : List Call) → Sheet a ks → (Lines a ks → ⊥) → Sheet b ls → Makes (a ++ (CR ∷ LF ∷ b)) c (records c ks ++ records c ls)
  -- the records are a journal of the calls, and are decoded into them
  pub journal : (ks : List Call) → read_journal (records c ks) ≡ record { records = map (encode_call c) ks; ending = complete }
  pub decoded : (ks : List Call) → map decode (map (encode_call c) ks) ≡ map (request c) ks
  -- '15, .. the first row that isn't of this form, its line from 1 told', whatever the buffer
  pub wrong : (csv : List ℕ) (line : ℕ) → WrongAt csv line → Refused csv c 15 line
  -- '16, output shorter than the records'
  pub short : (csv out : List ℕ) (ks : List Call) → Sheet csv ks → length out < length (records c ks) → converted csv c out ≡ record { answer = record { error = 16; line = 0; bytes = 0 }; out = out }

abbrev pub AllSheetLaws : Type 0
AllSheetLaws = (c : ℕ) → c ≤ 15 → SheetLaws c

-- the buffer at exit, for any caller and sheet: as long as it was, the records in front, and behind the bytes told as it was
pub record BufferLaws (csv out : List ℕ) (c : ℕ) : Type 0 where
  pub as_long : length (converted csv c out).out ≡ length out
  pub rest_stays : drop (converted csv c out).answer.bytes (converted csv c out).out ≡ drop (converted csv c out).answer.bytes out
  pub front : c ≤ 15 → (ks : List Call) → Sheet csv ks → length (records c ks) ≤ length out → take (length (records c ks)) (converted csv c out).out ≡ records c ks

-- the bytes written are a journal, whose records are decoded into the sheet's calls
abbrev pub ComesBack : Type 0
ComesBack = (csv out : List ℕ) (c : ℕ) → c ≤ 15 → (ks : List Call) → Sheet csv ks → length (records c ks) ≤ length out
    → map decode (read_journal (take (converted csv c out).answer.bytes (converted csv c out).out)).records ≡ map (request c) ks

-- no record is longer than its row, so a buffer as long as the sheet has room
abbrev pub EnoughRoom : Type 0
EnoughRoom = (csv : List ℕ) (c : ℕ) (ks : List Call) → Sheet csv ks → length (records c ks) ≤ length csv

-- '15, a caller above 15', whatever the sheet
abbrev pub StrangeCaller : Type 0
StrangeCaller = (csv : List ℕ) (caller : ℕ) → 15 < caller → Refused csv caller 15 0

-- rows of the same texts, however they are quoted, are read as the same; a last row of no bytes is no row
pub record QuotingIsNothing : Type 0 where
  pub same_row : {b c : List ℕ} {ts : List (List ℕ)} (l : List ℕ) → Row b ts → Row c ts → RowEnd l → row (b ++ l) ≡ row (c ++ l)
  pub same_sheet : {front b c : List ℕ} {ks : List Call} {ts : List (List ℕ)} (l : List ℕ) (caller : ℕ) (out : List ℕ) → Lines front ks → Row b ts → Row c ts → RowEnd l
      → 0 < length (b ++ l) → 0 < length (c ++ l) → converted (front ++ (b ++ l)) caller out ≡ converted (front ++ (c ++ l)) caller out
