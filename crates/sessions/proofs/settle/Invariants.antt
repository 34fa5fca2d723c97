-- The invariant: the sessions of the first i issuers are settled.
use Rattle.sessions.proofs.Settling.{SettledTo}
use Rattle.sessions.proofs.settle.Given as goal

abbrev pub invariant-loop-i : goal.invariant-loop-i
invariant-loop-i l = SettledTo l.initial.state l.i l.state
