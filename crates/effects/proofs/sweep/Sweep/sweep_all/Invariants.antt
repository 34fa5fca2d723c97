-- `effects::sweep::sweep_all` meets its contract. The invariant: the sessions before m are swept.
use Rattle.std.proofs.Common.{◌+◌, ◌-◌, ◌≤◌}
use Rattle.effects.specs.Sweeps.{Swept}
use Rattle.effects.proofs.sweep.Sweep.sweep_all.Given as goal

abbrev pub invariant-loop-m : goal.invariant-loop-m
invariant-loop-m l = record { within : l.m ≤ l.self.first + l.self.count; swept : Swept l.self (l.m - l.self.first) l.initial.state l.state }
