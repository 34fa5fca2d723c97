use Rattle.std.proofs.Common.{ℕ, ◌<◌, get_or, rules}
use Rattle.sessions.proofs.Settling.{settled_more, settled_asleep}
use Rattle.sessions.proofs.settle.Goals as goal
use Rattle.sessions.proofs.settle.Goals.{then-awake-ne0, else-awake-ne0}

pub loop-i-preserved : goal.loop-i-preserved
loop-i-preserved c =
    elim c.if-awake-ne0.branch [
      | then-awake-ne0 w ↦
          let wide : (s : ℕ) → get_or w.beyond-gone.result s 0 < 65536 = search rules in
          rw w.state-is (settled_more c.loop-i-test.true c.loop-i.invariant wide w.beyond-gone.ensures w.drop_roles.ensures)
      | else-awake-ne0 w ↦ rw w.state-is (settled_asleep c.loop-i-test.true c.loop-i.invariant c.awake.ensures (search rules))
    ]
