-- The invariant: the first k words are written.
use Rattle.std.proofs.Common.{◌≤◌}
use Rattle.bits.specs.Stride.{in_run}
use Rattle.bits.specs.Update.{Updated}
use Rattle.mtas.specs.Layout.{state_length, cell, word_at}
use Rattle.mtas.specs.Monitor.{initial}
use Rattle.monitor.proofs.start.Given as goal

abbrev pub invariant-loop-k : goal.invariant-loop-k
invariant-loop-k l = (l.k ≤ state_length) × Updated (in_run 0 l.k) (λ i x. initial (cell (word_at i))) l.initial.state l.state
