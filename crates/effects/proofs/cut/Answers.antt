-- `effects::cut` meets its contract: the strips and the sweep of a fact lie inside the state, and take exactly what relies on it.
use Rattle.std.proofs.Common.{rules}
use Rattle.effects.proofs.Cutting.{all_lie, sweep_fits, has_cut}
use Rattle.effects.proofs.Sweeping.{none_swept}
use Rattle.effects.proofs.cut.Goals as goal

pub clear-requires : goal.clear-requires
clear-requires c = all_lie c.requires

pub sweep_all-requires : goal.sweep_all-requires
sweep_all-requires c = search (rules, sweep_fits)

pub returns-in-Some : goal.returns-in-Some
returns-in-Some c = search (rules, has_cut)

pub returns-in_default : goal.returns-in_default
returns-in_default c = search (rules, has_cut, none_swept)
