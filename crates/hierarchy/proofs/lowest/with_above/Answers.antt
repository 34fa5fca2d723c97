-- `hierarchy::lowest::with_above` meets its contract: a climb that has seen one role more than is done.
use Rattle.std.proofs.Common.{rules}
use Rattle.hierarchy.proofs.Links.{linked_numbered}
use Rattle.hierarchy.proofs.Searching.{goes_on, with_above}
use Rattle.hierarchy.proofs.lowest.with_above.Goals as goal

pub finish-requires : goal.finish-requires
finish-requires c = search goes_on

pub returns : goal.returns
returns c = search (with_above, linked_numbered, rules)
