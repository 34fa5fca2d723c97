-- The invariant: what is found is gathered from the words of the first i issuers.
use Rattle.std.proofs.Common.{◌≡◌}
use Rattle.bits.specs.Gather.{gather}
use Rattle.law.specs.Stray.{issuer_stray, issuer_doubt}
use Rattle.law.proofs.survey.Given as goal

abbrev pub invariant-loop-i : goal.invariant-loop-i
invariant-loop-i l = (l.stray ≡ gather l.i (issuer_stray l.state)) × (l.doubt ≡ gather l.i (issuer_doubt l.state))
