-- `bits::mask_every` meets its contract: the loop masks one word more at each turn.
use Rattle.std.proofs.Common.{arith, refl, rules, ◌≡◌}
use Rattle.bits.proofs.Stride.{stride_none, stride_more}
use Rattle.bits.proofs.mask_every.Goals as goal

pub loop-n-init : goal.loop-n-init
loop-n-init g c = (omega arith, record { words = stride_none _ g.row.STEP })

pub loop-n-preserved : goal.loop-n-preserved
loop-n-preserved g c = (omega arith, record { words = stride_more _ g.row.STEP c.loop-n.n (omega arith) refl (search rules) refl c.loop-n.invariant.1.words })

pub returns : goal.returns
returns g c = let end : c.loop-n.n ≡ c.args.count = omega arith in rw end at c.loop-n.invariant.1
