-- `sessions::over` meets its contract: the walk upwards in the state's attachment words.
use Rattle.std.proofs.Common.{rules}
use Rattle.sessions.proofs.Reached.{over_told}
use Rattle.sessions.proofs.over.Goals as goal

pub returns : goal.returns
returns c = over_told _ c.requires.0 (search rules) c.above_one.ensures
