use Rattle.std.proofs.Common.{arith}
use Rattle.effects.proofs.Sweeping.{one_swept}
use Rattle.effects.proofs.sweep.Sweep.sweep_all.Goals as goal

pub loop-m-preserved : goal.loop-m-preserved
loop-m-preserved c = record { within = omega arith; swept = one_swept c.loop-m.invariant.swept c.sweep_one.ensures (omega arith) (omega arith) (omega arith) (omega arith) }
