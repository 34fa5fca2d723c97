-- `answers::refusal` meets its contract: the front's first cause, or else the row's.
use Rattle.std.proofs.Common.{rules}
use Rattle.answers.proofs.Refusals.{front_stops, front_passes}
use Rattle.answers.proofs.refusal.Goals as goal

pub returns-in_err-front : goal.returns-in_err-front
returns-in_err-front c = search (rules, front_stops)

pub returns : goal.returns
returns c = search (rules, front_passes)
