-- What the converter returns gives back the error, and what is told of it where that is below 2 to the 48th power.
use mathlib.Core.Path.{◌≡◌, refl, sym, ◌∙◌}
use mathlib.Core.List.{List}
use Prim.Native.Nat.{ℕ, ◌/◌, ◌%◌, ◌<◌}
use native.Mathlib.Omega.{arith}
use borrow.Author.Tests.{eq-eqb, ne_eqb}
use Rattle.sheet.specs.Converted.{Result}
use Rattle.yermoitu.specs.PackedSheet.{with_told, packed_sheet, Converts, BothTold}

module _ (error line bytes : ℕ) where
  pub tells_line : error ≡ 15 → with_told error line ≡ packed_sheet error line bytes
  tells_line e = rw (eq-eqb error 15 e, packed_sheet)

  pub tells_bytes : (error ≡ 15 → ⊥) → with_told error bytes ≡ packed_sheet error line bytes
  tells_bytes d = rw (ne_eqb error 15 d, packed_sheet)

-- both numbers come back
both : (error told : ℕ) → error < 65536 → told < 281474976710656 → (with_told error told % 65536 ≡ error) × (with_told error told / 65536 ≡ told)
both error told f h = (omega arith, omega arith)

module _ {defined : Result} {number : ℕ} {out : List ℕ} (c : Converts defined number out) where
  abbrev error : ℕ
  error = defined.answer.error

  line_of : error ≡ 15 → defined.answer.line < 281474976710656 → (number % 65536 ≡ error) × (number / 65536 ≡ defined.answer.line)
  line_of e h = rw (c.same_answer, sym (tells_line error defined.answer.line defined.answer.bytes e)) (both error defined.answer.line c.error_fits h)

  bytes_of : (error ≡ 15 → ⊥) → defined.answer.bytes < 281474976710656 → (number % 65536 ≡ error) × (number / 65536 ≡ defined.answer.bytes)
  bytes_of d h = rw (c.same_answer, sym (tells_bytes error defined.answer.line defined.answer.bytes d)) (both error defined.answer.bytes c.error_fits h)

pub both_told : BothTold
both_told = record {
  line_of = λ c e h. let (a, b) = line_of c e h in (a ∙ e, b);
  bytes_of = λ c d h. bytes_of c d h;
  buffer_of = λ c. c.same_out;
  third_line = refl;
  twelve_bytes = refl;
  too_short = refl;
}
