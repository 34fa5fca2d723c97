-- `sheet::reading::read_row` meets its contract: no word, no such arguments, no end, or a row.
use native.Mathlib.Omega.{arith}
use Rattle.sheet.proofs.Made.{no_word_in_front, few_arguments, wrong_arguments, numbers-inside, at_fits, wrong_end, next_fits, a_row}
use Rattle.sheet.proofs.reading.read_row.Goals as goal

pub returns-in_err-kind : goal.returns-in_err-kind
returns-in_err-kind c = rw c.from_residual.ensures (no_word_in_front _ _ c.read_field-f.ensures c.call_named.ensures c.in_err-kind.was)

pub read_arguments-requires : goal.read_arguments-requires
read_arguments-requires c = few_arguments _ _ c.read_field-f.ensures c.call_named.ensures c.in_ok-kind.was

pub returns-in_err-slots : goal.returns-in_err-slots
returns-in_err-slots c = rw c.from_residual-in_err-slots.ensures (wrong_arguments _ _ c.read_field-f.ensures c.call_named.ensures c.in_ok-kind.was c.read_arguments.ensures c.in_err-slots.was)

pub slice_bounds-read_end-count : goal.slice_bounds-read_end-count
slice_bounds-read_end-count c = numbers-inside c.read_arguments.ensures c.in_ok-slots.was

pub slice_bounds-read_end-start : goal.slice_bounds-read_end-start
slice_bounds-read_end-start c = numbers-inside c.read_arguments.ensures c.in_ok-slots.was

pub returns-in_err-n : goal.returns-in_err-n
returns-in_err-n c = rw c.from_residual-in_err-n.ensures (wrong_end _ _ c.read_field-f.ensures c.call_named.ensures c.in_ok-kind.was c.read_arguments.ensures c.in_ok-slots.was c.read_end.ensures c.in_err-n.was)

pub overflow_add-result : goal.overflow_add-result
overflow_add-result c = at_fits _ _ c.read_field-f.ensures c.call_named.ensures c.in_ok-kind.was c.read_arguments.ensures c.in_ok-slots.was (omega arith)

pub overflow_add-result-2 : goal.overflow_add-result-2
overflow_add-result-2 c = next_fits _ _ c.read_field-f.ensures c.call_named.ensures c.in_ok-kind.was c.read_arguments.ensures c.in_ok-slots.was c.read_end.ensures c.in_ok-n.was (omega arith)

pub returns : goal.returns
returns c = a_row _ _ c.read_field-f.ensures c.call_named.ensures c.in_ok-kind.was c.read_arguments.ensures c.in_ok-slots.was c.read_end.ensures c.in_ok-n.was
