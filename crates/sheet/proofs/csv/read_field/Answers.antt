-- `sheet::csv::read_field` meets its contract: a plain field, one between quotes, or one whose text isn't TEXTDATA alone.
use mathlib.Core.Path.{◌∙◌}
use borrow.Author.Rules.{part_to_end}
use Prim.Native.Nat.{◌+◌}
use native.Mathlib.Omega.{arith}
use lib.ListN.{drop, length-drop}
use Rattle.sheet.proofs.Plain.{in_front, in_range, unquoted, between_quotes, not_between, with_a_quote}
use Rattle.sheet.proofs.Texts.{passed}
use Rattle.sheet.proofs.csv.read_field.Goals as goal

pub returns-then-byte_at-ne-DQUOTE : goal.returns-then-byte_at-ne-DQUOTE
returns-then-byte_at-ne-DQUOTE c = unquoted _ (λ q. omega arith) (c.text_length-to.ensures ∙ passed _)

pub slice_bounds-text_length-count : goal.slice_bounds-text_length-count
slice_bounds-text_length-count c = in_range c.args.left.now 0 (omega arith)

pub slice_bounds-text_length-start : goal.slice_bounds-text_length-start
slice_bounds-text_length-start c = in_range c.args.left.now 0 (omega arith)

pub overflow_add-to : goal.overflow_add-to
overflow_add-to c =
    omega (arith, (in_front (drop 1 c.args.left.now)).1, length-drop 1 c.args.left.now, in_range c.args.left.now 0 (omega arith), rw part_to_end at (c.text_length-to-2.ensures ∙ passed _))

pub overflow_add-to-then-byte_at-eq-DQUOTE : goal.overflow_add-to-then-byte_at-eq-DQUOTE
overflow_add-to-then-byte_at-eq-DQUOTE c = omega (arith, in_range c.args.left.now (1 + c.text_length-to-2.result) (omega arith))

pub overflow_add-result : goal.overflow_add-result
overflow_add-result c = omega (arith, in_range c.args.left.now (1 + c.text_length-to-2.result) (omega arith))

pub returns-then-byte_at-ne-DQUOTE-2 : goal.returns-then-byte_at-ne-DQUOTE-2
returns-then-byte_at-ne-DQUOTE-2 c = let e = rw part_to_end at (c.text_length-to-2.ensures ∙ passed _) in between_quotes _ _ (omega arith) e (omega arith) (λ q. omega arith)

pub returns-else-byte_at-ne-DQUOTE-2 : goal.returns-else-byte_at-ne-DQUOTE-2
returns-else-byte_at-ne-DQUOTE-2 c = let e = rw part_to_end at (c.text_length-to-2.ensures ∙ passed _) in with_a_quote _ _ (omega arith) e (omega arith) (omega arith)

pub returns-else-byte_at-eq-DQUOTE : goal.returns-else-byte_at-eq-DQUOTE
returns-else-byte_at-eq-DQUOTE c = let e = rw part_to_end at (c.text_length-to-2.ensures ∙ passed _) in not_between _ _ (omega arith) e (λ q. omega arith)
