-- `sheet::write` meets its contract: a good sheet has no wrong row, and each record has room behind the others.
use mathlib.Core.Path.{◌∙◌}
use native.Mathlib.Omega.{arith}
use Rattle.sheet.proofs.Sizing.{lands, less, few_arguments}
use Rattle.sheet.proofs.Writing.{writing_some, room_for, writing_next, writing_end}
use Rattle.sheet.proofs.write.Goals as goal

pub unwrap-next-requires : goal.unwrap-next-requires
unwrap-next-requires c = writing_some c.loop-at.invariant (omega arith) c.read_row.ensures

pub record_of-made-requires : goal.record_of-made-requires
record_of-made-requires c = few_arguments c.args.csv.now c.loop-at.at c.read_row.ensures c.unwrap-next.ensures

pub overflow_add-at : goal.overflow_add-at
overflow_add-at c = lands c.args.csv.now c.loop-at.at c.read_row.ensures c.unwrap-next.ensures (omega arith) (omega arith)

pub loop-at-smaller : goal.loop-at-smaller
loop-at-smaller c = less c.args.csv.now c.loop-at.at c.read_row.ensures c.unwrap-next.ensures (omega arith)

pub slice_bounds-copy_from_slice-end : goal.slice_bounds-copy_from_slice-end
slice_bounds-copy_from_slice-end c = room_for c.loop-at.invariant (omega arith) c.read_row.ensures c.unwrap-next.ensures c.record_of-made.ensures.len

pub loop-at-preserved : goal.loop-at-preserved
loop-at-preserved c = writing_next c.loop-at.invariant (omega arith) c.read_row.ensures c.unwrap-next.ensures c.record_of-made.ensures (c.copy_from_slice.ensures.after ∙ c.as_slice.ensures)

pub returns : goal.returns
returns c = search writing_end
