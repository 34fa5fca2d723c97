-- `hierarchy::above` meets its contract: a climb that has seen the set, and done nothing yet.
use Rattle.hierarchy.proofs.Climbing.{climb_begins}
use Rattle.hierarchy.proofs.above.Goals as goal

pub finish-requires : goal.finish-requires
finish-requires c = climb_begins c.empty.ensures
