-- `sheet::reading::read_argument` meets its contract: no comma, no number from 0 to 15 behind it, or one.
use borrow.Author.Rules.{part_to_end}
use native.Mathlib.Omega.{arith}
use Rattle.sheet.proofs.Following.{no_comma, no_number_behind, a_number}
use Rattle.sheet.proofs.reading.read_argument.Goals as goal

pub returns-then-byte_at-ne-COMMA : goal.returns-then-byte_at-ne-COMMA
returns-then-byte_at-ne-COMMA c = no_comma _ (λ q. omega arith)

pub returns-in_err-n : goal.returns-in_err-n
returns-in_err-n c = rw c.from_residual.ensures (no_number_behind _ c.read_field-f.result (omega arith) (rw part_to_end at c.read_field-f.ensures) (rw part_to_end at c.number.ensures) c.in_err-n.was)

pub returns : goal.returns
returns c = a_number _ c.read_field-f.result (omega arith) (rw part_to_end at c.read_field-f.ensures) (rw part_to_end at c.number.ensures) c.in_ok-n.was
