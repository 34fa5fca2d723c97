-- The converter's answer as one number.
use Rattle.std.specs.Prelude.{◌≡◌, true, false, List, ℕ, ◌+◌, ◌*◌, ◌/◌, ◌%◌, ◌<◌, eqb}
use Rattle.sheet.specs.Converted.{Result}

-- the error in bits 0 to 15, what is told in bits 16 to 63: all of it where it is below 2 to the 48th power
abbrev pub with_told : ℕ → ℕ → ℕ
with_told error told = error + 65536 * (told % 281474976710656)

-- the bytes written, or the line where the error is 15
abbrev pub packed_sheet : ℕ → ℕ → ℕ → ℕ
packed_sheet error line bytes = elim (eqb error 15) [ true ↦ with_told error line | false ↦ with_told error bytes ]

-- the number is the definition's answer, packed, and the buffer is the definition's
pub record Converts (defined : Result) (number : ℕ) (out : List ℕ) : Type 0 where
  pub same_answer : number ≡ packed_sheet defined.answer.error defined.answer.line defined.answer.bytes
  pub error_fits : defined.answer.error < 65536
  pub same_out : out ≡ defined.out

-- both numbers come back, and the buffer is the definition's to the last byte
pub record BothTold : Type 0 where
  pub line_of : {defined : Result} {number : ℕ} {out : List ℕ} → Converts defined number out → defined.answer.error ≡ 15 → defined.answer.line < 281474976710656
      → (number % 65536 ≡ 15) × (number / 65536 ≡ defined.answer.line)
  pub bytes_of : {defined : Result} {number : ℕ} {out : List ℕ} → Converts defined number out → (defined.answer.error ≡ 15 → ⊥) → defined.answer.bytes < 281474976710656
      → (number % 65536 ≡ defined.answer.error) × (number / 65536 ≡ defined.answer.bytes)
  pub buffer_of : {defined : Result} {number : ℕ} {out : List ℕ} → Converts defined number out → out ≡ defined.out
  pub third_line : packed_sheet 15 3 0 ≡ 196623
  pub twelve_bytes : packed_sheet 0 0 12 ≡ 786432
  pub too_short : packed_sheet 16 0 0 ≡ 16
