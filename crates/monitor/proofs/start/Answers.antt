-- `monitor::start` meets its contract: turned down for its length, or each word written.
use Rattle.std.proofs.Common.{rules, arith, refl, ◌≡◌}
use Rattle.bits.proofs.Stride.{run_none, run_more}
use Rattle.mtas.specs.Layout.{state_length}
use Rattle.monitor.proofs.Starting.{started, not_started}
use Rattle.monitor.proofs.start.Goals as goal

pub returns-in_default : goal.returns-in_default
returns-in_default c = not_started _ (search rules) refl

pub loop-k-init : goal.loop-k-init
loop-k-init c = (omega arith, run_none 0)

pub loop-k-preserved : goal.loop-k-preserved
loop-k-preserved c = (omega arith, run_more 0 c.loop-k.k (omega arith) (search rules) c.initial.ensures c.loop-k.invariant.1)

pub returns : goal.returns
returns c =
    let end : c.loop-k.k ≡ state_length = omega arith in
    started _ (search rules) (rw (end, c.in-Some.ensures.cases.same) at c.loop-k.invariant.1) refl
