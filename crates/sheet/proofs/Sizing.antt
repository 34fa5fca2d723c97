-- A sheet read up to a byte place: how many bytes its records have, or the line where it is wrong.
use mathlib.Core.Path.{◌≡◌, refl, sym, ap, ◌∙◌}
use Rattle.std.specs.Prelude.{Option, Some, None, Result, Ok, Err}
use mathlib.Core.List.{List, [], ◌∷◌}
use Prim.Native.Nat.{ℕ, suc, ◌+◌, ◌-◌, ◌^◌, ◌≤◌, ◌<◌}
use native.Mathlib.Numerals.{add-one}
use native.Mathlib.Omega.{arith}
use lib.ListN.{length, take, drop, length-take, length-drop, length-append, drop_of_length-le}
use lib.Seq.{drop-drop}
use mir.Syntax.{w64}
use mir.Val.{Fits}
use borrow.Author.Rules.{part_to_end}
use Rattle.mtas.specs.Call.{Call}
use Rattle.mtas.specs.Record.{header, record_of, encode_call}
use Rattle.sheet.specs.Reading.{Read, none, read, row, Rows, calls, wrong_at, one_call, rows_from, rows}
use Rattle.sheet.specs.Found.{recorded, slots_of, Sound, RowIs, size_of}
use Rattle.sheet.specs.Converted.{records}
use Rattle.sheet.specs.declared.Error.{Error}
use Rattle.sheet.specs.declared.Error.TheVariants.{Line}
use Rattle.sheet.specs.declared.reading.Call.{Call as Called}
use Rattle.sheet.proofs.Sheets.{rows_read, rows_wrong, rows_none}

-- ---- one row
unrecorded : (c : ℕ) (q : Read Call) → none ≡ recorded c q → q ≡ none
unrecorded c none e = refl
unrecorded c (read k l) e = let z : ◌≡◌ {A = ℕ} 0 1 = cc in absurd (omega arith)

-- the call whose record was read
pub record Got (c : ℕ) (q : Read Call) (b l : List ℕ) : Type 0 where
  pub call : Call
  pub was : q ≡ read call l
  pub bytes : encode_call c call ≡ b

got : (c : ℕ) (q : Read Call) (b l : List ℕ) → read b l ≡ recorded c q → Got c q b l
got c none b l e = let z : ◌≡◌ {A = ℕ} 0 1 = cc in absurd (omega arith)
got c (read k m) b l e = let s : l ≡ m = cc in record { call = k; was = ap (read k) (sym s); bytes = cc }

-- a record is as long as its header and its arguments
record_length : (c : ℕ) (k : Called) → k.count ≤ 3 → length (record_of k.kind c (slots_of k)) ≡ header + k.count
record_length c k h = omega (arith, length-take k.count (k.slots.x ∷ k.slots.y ∷ k.slots.z ∷ []))

-- what the code reads at a place of the sheet
module _ (csv : List ℕ) (at : ℕ) {r : Option (Called × ℕ)} (i : RowIs (take (length csv - at) (drop at csv)) r) where
  here : RowIs (drop at csv) r
  here = rw part_to_end at i

  pub no_call : r ≡ None → row (drop at csv) ≡ none
  no_call e = unrecorded 0 (row (drop at csv)) ((rw e at here).same 0)

  pub a_call : (c : ℕ) {k : Called} {next : ℕ} → r ≡ Some (k, next) → Got c (row (drop at csv)) (record_of k.kind c (slots_of k)) (drop (at + next) csv)
  a_call c {k} {next} e = rw (drop-drop next at csv) at (got c (row (drop at csv)) (record_of k.kind c (slots_of k)) (drop next (drop at csv)) ((rw e at here).same c))

  module _ {k : Called} {next : ℕ} (e : r ≡ Some (k, next)) where
    pub place : Sound (drop at csv) k next
    place = here.sound e

    pub few_arguments : k.count ≤ 3
    few_arguments = place.few

    pub lands : at < length csv → length csv < 2 ^ 64 → Fits w64 (at + next)
    lands h f = omega (arith, place.inside, length-drop at csv)

    pub less : at < length csv → length csv - (at + next) < length csv - at
    less h = omega (arith, place.shorter)

-- ---- its size
abbrev plus : ℕ → Result ℕ Error → Result ℕ Error
plus b (Ok n) = Ok (b + n)
plus b (Err e) = Err e

size-more : (c : ℕ) (k : Call) (s : Rows) → size_of c (one_call k s) ≡ plus (length (encode_call c k)) (size_of c s)
unfolding records
size-more c k (calls ks) = ap Ok (length-append (encode_call c k) (records c ks))
size-more c k (wrong_at line) = refl

plus-plus : (a b : ℕ) (s : Result ℕ Error) → plus a (plus b s) ≡ plus (a + b) s
plus-plus a b (Ok n) = ap Ok (omega arith)
plus-plus a b (Err e) = refl

-- the bytes of the records before a place, and the line there
pub record Sizing (csv : List ℕ) (bytes at line : ℕ) : Type 0 where
  pub inside : at ≤ length csv
  pub few : bytes ≤ at
  pub first : 1 ≤ line
  pub early : line ≤ at + 1
  pub rest : (c : ℕ) → size_of c (rows csv) ≡ plus bytes (size_of c (rows_from (length csv + 2 - line) line (drop at csv)))

pub sizing_start : (csv : List ℕ) → Sizing csv 0 0 1
sizing_start csv =
    let e : length csv + 2 - 1 ≡ suc (length csv) = omega arith in
    record { inside = omega arith; few = omega arith; first = omega arith; early = omega arith; rest = λ c. rw e (sym (nothing (size_of c (rows csv)))) }
  where
    nothing : (s : Result ℕ Error) → plus 0 s ≡ s
    nothing (Ok n) = ap Ok (omega arith)
    nothing (Err e) = refl

-- a row more
module _ {csv : List ℕ} {bytes at line : ℕ} (g : Sizing csv bytes at line) (more : at < length csv) {r : Option (Called × ℕ)} (i : RowIs (take (length csv - at) (drop at csv)) r) where
  fuel : length csv + 2 - line - 1 ≡ length csv + 2 - suc line
  fuel = omega (arith, g.early)

  enough : length (drop at csv) < length csv + 2 - line
  enough = omega (arith, g.early, length-drop at csv)

  left : 0 < length (drop at csv)
  left = omega (arith, length-drop at csv)

  pub sizing_wrong : r ≡ None → (c : ℕ) → Err (Line line) ≡ size_of c (rows csv)
  sizing_wrong e c =
      sym (g.rest c ∙ ap (λ s. plus bytes (size_of c s)) (rows_wrong (length csv + 2 - line) line (drop at csv) left enough (no_call csv at i e)))

  module _ {k : Called} {next : ℕ} (e : r ≡ Some (k, next)) where
    its : Sound (drop at csv) k next
    its = place csv at i e

    pub line_fits : length csv < 2 ^ 64 → Fits w64 (line + 1)
    line_fits h = omega (arith, its.inside, its.shorter, g.early, length-drop at csv)

    pub count_fits : Fits w64 (header + k.count)
    count_fits = omega (arith, its.few)

    pub bytes_fit : length csv < 2 ^ 64 → Fits w64 (bytes + (header + k.count))
    bytes_fit h = omega (arith, its.inside, its.shorter, g.few, length-drop at csv)

    pub sizing_next : Sizing csv (bytes + (header + k.count)) (at + next) (line + 1)
    sizing_next = rw add-one (record {
      inside = omega (arith, its.inside, length-drop at csv);
      few = omega (arith, g.few, its.shorter);
      first = omega arith;
      early = omega (arith, g.early, its.shorter);
      rest = λ c. g.rest c ∙ ap (plus bytes) (on c) ∙ plus-plus bytes (header + k.count) (rest_size c);
    })
      where
        rest_size : ℕ → Result ℕ Error
        rest_size c = size_of c (rows_from (length csv + 2 - suc line) (suc line) (drop (at + next) csv))

        on : (c : ℕ) → size_of c (rows_from (length csv + 2 - line) line (drop at csv)) ≡ plus (header + k.count) (rest_size c)
        on c =
            let t = a_call csv at i c e in
            let n = ap length t.bytes ∙ record_length c k its.few in
            let s = rw fuel at (rows_read (length csv + 2 - line) line (drop at csv) left enough t.was) in
            ap (size_of c) s ∙ size-more c t.call (rows_from (length csv + 2 - suc line) (suc line) (drop (at + next) csv)) ∙ ap (λ m. plus m (rest_size c)) n

pub sizing_end : {csv : List ℕ} {bytes at line : ℕ} → Sizing csv bytes at line → length csv ≤ at → (c : ℕ) → Ok bytes ≡ size_of c (rows csv)
unfolding records
sizing_end {csv} {bytes} {at} {line} g h c =
    let t : rows_from (length csv + 2 - line) line (drop at csv) ≡ calls [] = rw (drop_of_length-le csv h) (rows_none (length csv + 2 - line) line (omega (arith, g.early, g.inside))) in
    let z : bytes + 0 ≡ bytes = omega arith in
    sym (g.rest c ∙ ap (λ s. plus bytes (size_of c s)) t ∙ ap Ok z)
