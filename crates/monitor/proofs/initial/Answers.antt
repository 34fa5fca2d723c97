-- `monitor::initial` meets its contract: the sessions' users are two apart.
use Rattle.std.proofs.Common.{arith}
use Rattle.monitor.proofs.Starting.{a_user, no_user}
use Rattle.monitor.proofs.initial.Goals as goal
use Rattle.monitor.proofs.initial.Goals.{then-k-lt-SESSIONS_AT, else-k-lt-SESSIONS_AT}

pub returns-then-k-ge-PUBLIC_AT : goal.returns-then-k-ge-PUBLIC_AT
returns-then-k-ge-PUBLIC_AT c =
    elim c.if-k-lt-SESSIONS_AT.branch [
      | then-k-lt-SESSIONS_AT w ↦ no_user _ (omega arith) (λ a b e. omega arith)
      | else-k-lt-SESSIONS_AT w ↦ no_user _ (omega arith) (λ a b e. omega arith)
    ]

pub returns-then-k-eq0 : goal.returns-then-k-eq0
returns-then-k-eq0 c = a_user _ (omega arith) (omega arith) (omega arith) (omega arith)

pub returns-else-k-eq0 : goal.returns-else-k-eq0
returns-else-k-eq0 c = no_user _ (omega arith) (λ a b e. omega arith)
