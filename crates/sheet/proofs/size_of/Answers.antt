use Rattle.sheet.proofs.Sizing.{sizing_start, sizing_wrong, lands, line_fits, less, count_fits, bytes_fit, sizing_next, sizing_end}
use Rattle.sheet.proofs.size_of.Goals as goal

pub loop-at-init : goal.loop-at-init
loop-at-init c = search sizing_start

pub returns-in_default : goal.returns-in_default
returns-in_default c = search sizing_wrong

pub overflow_add-bytes : goal.overflow_add-bytes
overflow_add-bytes c = search count_fits

pub overflow_add-bytes-in-loop-at : goal.overflow_add-bytes-in-loop-at
overflow_add-bytes-in-loop-at c = search bytes_fit

pub overflow_add-at : goal.overflow_add-at
overflow_add-at c = search lands

pub overflow_add-line : goal.overflow_add-line
overflow_add-line c = search line_fits

pub loop-at-smaller : goal.loop-at-smaller
loop-at-smaller c = search less

pub loop-at-preserved : goal.loop-at-preserved
loop-at-preserved c = search sizing_next

pub returns : goal.returns
returns c = search sizing_end
