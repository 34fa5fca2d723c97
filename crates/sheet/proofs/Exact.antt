-- The reading is exact.
use mathlib.Core.Path.{◌≡◌, refl, subst, ◌∙◌}
use mathlib.Core.List.{List, ◌++◌}
use Prim.Native.Nat.{ℕ, suc, ◌+◌}
use native.Mathlib.Omega.{arith}
use lib.ListN.{length}
use Rattle.sheet.specs.Rfc4180.{textdata}
use Rattle.sheet.specs.Reading.{calls, wrong_at}
use Rattle.sheet.specs.Exact.{FieldEnd, WrongAt, Exact}
use Rattle.sheet.proofs.Fields.{Gives, Edge, nothing, a_byte, Splits, field-sound, field-complete}
use Rattle.sheet.proofs.Rows.{row_exact}
use Rattle.sheet.proofs.Sheets.{Wrong, wrong, rows_are}

wrong_line : {csv : List ℕ} {line : ℕ} → Wrong 1 csv line → WrongAt csv line
wrong_line (wrong {front = front} {left = left} {ks = ks} w some no_row q) =
    let e : suc (length ks) ≡ 1 + length ks = omega arith in
    subst (WrongAt (front ++ left)) (e ∙ q) (WrongAt.no_row w some no_row)

from-wrong_line : {csv : List ℕ} {line : ℕ} → WrongAt csv line → Wrong 1 csv line
from-wrong_line (WrongAt.no_row {ks = ks} w some no_row) =
    let e : 1 + length ks ≡ suc (length ks) = omega arith in
    wrong w some no_row e

edge : {l : List ℕ} → FieldEnd l → Edge l
unfolding textdata
edge FieldEnd.at_the_end = nothing
edge FieldEnd.at_comma = a_byte refl refl
edge FieldEnd.at_cr = a_byte refl refl

pub exact : Exact
exact = record {
  a_field = λ b t l f e. field-complete f (edge e);
  only_fields = λ l t behind e. subst (Gives (Splits l)) e (field-sound l);
  a_row = row_exact;
  a_sheet = λ csv ks. rows_are csv (calls ks);
  a_wrong_line = λ csv line. let (sound, complete) = rows_are csv (wrong_at line) in (λ e. wrong_line (sound e), λ w. complete (from-wrong_line w));
}
