-- `player::turn` meets its contract: a whole record is played, and what is printed is the line of what was found.
use Rattle.player.proofs.Going.{turn_played, turn_end, turn_broken, lies}
use Rattle.player.proofs.turn.Goals as goal

pub part-record-requires : goal.part-record-requires
part-record-requires c = search lies

pub returns-in-Whole : goal.returns-in-Whole
returns-in-Whole c = search turn_played

pub returns-in-NoMore : goal.returns-in-NoMore
returns-in-NoMore c = search turn_end

pub returns-in-Partial : goal.returns-in-Partial
returns-in-Partial c = search turn_broken
