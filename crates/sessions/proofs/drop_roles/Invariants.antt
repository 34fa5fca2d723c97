-- The invariant: the first s sessions have lost their roles.
use Rattle.sessions.specs.Settled.{Dropped}
use Rattle.sessions.proofs.drop_roles.Given as goal

abbrev pub invariant-loop-s : goal.invariant-loop-s
invariant-loop-s l = Dropped l.i l.gone l.s l.initial.state l.state
