use Rattle.std.proofs.Common.{◌≡◌, length, refl, arith, rules}
use Rattle.bits.proofs.Stride.{run_none, run_more}
use Rattle.hierarchy.proofs.Slide.{through_slide}
use Rattle.hierarchy.proofs.circles.Visitor.join.Goals as goal

pub loop-i-init : goal.loop-i-init
loop-i-init c = run_none 0

pub loop-i-preserved : goal.loop-i-preserved
loop-i-preserved c =
    let l = c.loop-i in
    let long : length l.w-items ≡ 16 = search rules in
    run_more 0 l.i (omega arith) (omega arith) refl l.invariant

pub returns : goal.returns
returns c =
    let end : c.loop-i.i ≡ 16 = omega arith in
    through_slide c.requires c.args.self.now.slid c.with_bit-bit.ensures (rw end at c.loop-i.invariant)
