-- The converter's answers, from the caller, the sheet's size and the buffer's length.
use mathlib.Core.Path.{◌≡◌, refl, sym, ◌∙◌}
use Rattle.std.specs.Prelude.{Result, Ok, Err}
use mathlib.Core.List.{List, ◌∷◌}
use Prim.Native.Nat.{ℕ, ◌≤◌, ◌<◌}
use native.Mathlib.Omega.{arith}
use lib.ListN.{length, length-append}
use borrow.Author.Tests.{lt-ltb, le-ltb}
use Rattle.mtas.specs.Call.{Call}
use Rattle.sheet.specs.Reading.{Rows, calls, wrong_at, rows}
use Rattle.sheet.specs.Rfc4180.{CR, LF}
use Rattle.sheet.specs.Exact.{Lines, WrongAt, no_row}
use Rattle.sheet.specs.Converted.{records, given, converted, over}
use Rattle.sheet.specs.Found.{answer_of, size_of, Fitting, records_in, Converts}
use Rattle.sheet.specs.declared.Error.{Error}
use Rattle.sheet.specs.declared.Error.TheVariants.{Line}
use Rattle.sheet.proofs.Exact.{exact}

-- what a size says of the rows
a_wrong_line : (c : ℕ) (s : Rows) (error : Error) → Err error ≡ size_of c s → (line : ℕ) × (error ≡ Line line) × (s ≡ wrong_at line)
a_wrong_line c (calls ks) error e = let z : ◌≡◌ {A = ℕ} 0 1 = cc in absurd (omega arith)
a_wrong_line c (wrong_at n) error e = (n, cc, refl)

all-calls : (c : ℕ) (s : Rows) (n : ℕ) → Ok n ≡ size_of c s → (ks : List Call) × (s ≡ calls ks) × (n ≡ length (records c ks))
all-calls c (calls ks) n e = (ks, refl, cc)
all-calls c (wrong_at line) n e = let z : ◌≡◌ {A = ℕ} 0 1 = cc in absurd (omega arith)

-- a line has a byte at least, and so has what is wrong behind the lines
lines_length : {csv : List ℕ} {ks : List Call} → Lines csv ks → length ks ≤ length csv
lines_length Lines.no_more = omega arith
lines_length (Lines.one_more {b = b} {csv = csv} s w) = omega (arith, lines_length w, length-append b (CR ∷ LF ∷ csv))

line-inside : {csv : List ℕ} {line : ℕ} → WrongAt csv line → line ≤ length csv
line-inside (no_row {front = front} {left = left} w some none) = omega (arith, lines_length w, length-append front left)

module _ (csv : List ℕ) (caller : ℕ) (out : List ℕ) where
  pub strange_caller : 15 < caller → Converts (converted csv caller out) (record { error = 15; line = 0; bytes = 0 }) out
  unfolding converted
  strange_caller h = rw (lt-ltb 15 caller h, converted) (record { same_error = refl; same_line = refl; same_bytes = refl; same_out = refl })

  module _ (own : caller ≤ 15) {s : Result ℕ Error} (size : (c : ℕ) → s ≡ size_of c (rows csv)) where
    by_rows : converted csv caller out ≡ given caller out (rows csv)
    unfolding converted
    by_rows = rw (le-ltb 15 caller own, converted)

    module _ {error : Error} (e : s ≡ Err error) where
      wrong : (line : ℕ) × (error ≡ Line line) × (rows csv ≡ wrong_at line)
      wrong = a_wrong_line caller (rows csv) error (sym e ∙ size caller)

      pub wrong_row : Converts (converted csv caller out) (answer_of (Err error)) out
      wrong_row = rw (by_rows, wrong.1, wrong.2) (record { same_error = refl; same_line = refl; same_bytes = refl; same_out = refl })

      pub wrong_line : ((answer_of (Err error)).line ≤ length csv) × ((answer_of (Err error)).bytes ≤ length out)
      wrong_line = rw wrong.1 (line-inside ((exact.a_wrong_line csv wrong.0).0 wrong.2), omega arith)

    module _ {n : ℕ} (e : s ≡ Ok n) where
      sheet : (ks : List Call) × (rows csv ≡ calls ks) × (n ≡ length (records caller ks))
      sheet = all-calls caller (rows csv) n (sym e ∙ size caller)

      pub too_short : length out < n → Converts (converted csv caller out) (record { error = 16; line = 0; bytes = 0 }) out
      too_short h =
          let t = lt-ltb (length out) (length (records caller sheet.0)) (omega (arith, sheet.2)) in
          rw (by_rows, sheet.1, t, given) (record { same_error = refl; same_line = refl; same_bytes = refl; same_out = refl })

      pub fitting : n ≤ length out → Fitting caller csv (length out)
      fitting h = record { all = sheet.0; good = sheet.1; room = omega (arith, sheet.2) }

      pub all_written : n ≤ length out → {after : List ℕ} → after ≡ over (records_in caller (rows csv)) out → Converts (converted csv caller out) (record { error = 0; line = 0; bytes = n }) after
      all_written h w =
          let t = le-ltb (length out) (length (records caller sheet.0)) (omega (arith, sheet.2)) in
          rw (by_rows, sheet.1, t, given) (record { same_error = refl; same_line = refl; same_bytes = sheet.2; same_out = rw sheet.1 at w })
