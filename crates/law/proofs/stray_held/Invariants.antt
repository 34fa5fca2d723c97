-- The invariant: what is found is gathered from the held words of the first u users.
use Rattle.std.proofs.Common.{◌≡◌}
use Rattle.bits.specs.Bit.{bit}
use Rattle.bits.specs.Gather.{gather, outside}
use Rattle.mtas.specs.Layout.{users, roles, held, read}
use Rattle.law.specs.Stray.{only_if}
use Rattle.law.proofs.stray_held.Given as goal

abbrev pub invariant-loop-u : goal.invariant-loop-u
invariant-loop-u l = l.found ≡ gather l.u (λ k. outside (read l.state (held l.i k)) (only_if (bit (read l.state (users l.i)) k) (read l.state (roles l.i))))
