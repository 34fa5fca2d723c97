-- `effects::put` meets its contract: a fact's place lies within the state, and is written.
use Rattle.std.proofs.Common.{rules}
use Rattle.facts.proofs.Places.{inside}
use Rattle.effects.proofs.Putting.{has_put}
use Rattle.effects.proofs.put.Goals as goal

pub write_at-requires : goal.write_at-requires
write_at-requires c = search (rules, inside)

pub returns-in-Some : goal.returns-in-Some
returns-in-Some c = search (rules, has_put)

pub returns-in_default : goal.returns-in_default
returns-in_default c = search (rules, has_put)
