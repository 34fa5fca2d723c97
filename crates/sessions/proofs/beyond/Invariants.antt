-- The invariant: all roles but those of the rest are sifted. The measure: the rest.
use Rattle.sessions.proofs.Sifted.{Sifted}
use Rattle.sessions.proofs.beyond.Given as goal

abbrev pub invariant-loop-rest : goal.invariant-loop-rest
invariant-loop-rest l = Sifted l.state l.i l.rest l.left

abbrev pub decreases-loop-rest : goal.decreases-loop-rest
decreases-loop-rest l = l.rest
