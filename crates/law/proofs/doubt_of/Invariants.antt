-- The invariant: what is found is gathered from the first s sessions.
use Rattle.std.proofs.Common.{◌≡◌}
use Rattle.std.specs.Int.Bits.{bit_or}
use Rattle.bits.specs.Gather.{gather}
use Rattle.sessions.specs.Lesser.{stranger, lesser}
use Rattle.law.proofs.doubt_of.Given as goal

abbrev pub invariant-loop-s : goal.invariant-loop-s
invariant-loop-s l = l.found ≡ gather l.s (λ t. bit_or (stranger l.state l.i t) (lesser l.state l.i t))
