-- The invariant: what is found is gathered from the first s sessions.
use Rattle.std.proofs.Common.{◌≡◌}
use Rattle.bits.specs.Gather.{gather}
use Rattle.sessions.specs.Lesser.{awake}
use Rattle.sessions.proofs.awake.Given as goal

abbrev pub invariant-loop-s : goal.invariant-loop-s
invariant-loop-s l = l.found ≡ gather l.s (awake l.state l.i)
