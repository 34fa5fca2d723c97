use Rattle.player.proofs.Going.{lands, going_start, going_next, going_end, too_long}
use Rattle.player.proofs.play.Goals as goal

pub returns-then-journal-gt65536 : goal.returns-then-journal-gt65536
returns-then-journal-gt65536 c = search too_long

pub loop-len-init : goal.loop-len-init
loop-len-init c = search going_start

pub returns-in_default : goal.returns-in_default
returns-in_default c = search going_end

pub overflow_add-at : goal.overflow_add-at
overflow_add-at c = search lands

pub loop-len-preserved : goal.loop-len-preserved
loop-len-preserved c = search going_next
