-- `hierarchy::above_one` meets its contract: the walk upwards from the set of the one role.
use Rattle.std.proofs.Common.{rules}
use Rattle.hierarchy.proofs.Links.{linked_numbered}
use Rattle.hierarchy.proofs.One.{one_reached}
use Rattle.hierarchy.proofs.above_one.Goals as goal

pub returns : goal.returns
returns c = search (rules, one_reached, linked_numbered)
