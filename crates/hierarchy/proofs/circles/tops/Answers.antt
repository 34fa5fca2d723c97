use Rattle.std.proofs.Common.{◌≡◌, arith, length-set}
use Rattle.hierarchy.proofs.Freed.{tops_set, tops_free}
use Rattle.hierarchy.proofs.circles.tops.Goals as goal

pub loop-j-preserved : goal.loop-j-preserved
loop-j-preserved c =
    let l = c.loop-j in
    (simp length-set l.invariant.0, tops_set l.words l.j (omega arith) c.tops_of.ensures l.invariant.1)

pub returns : goal.returns
returns c =
    let l = c.loop-j in
    let end : l.j ≡ 16 = omega arith in
    tops_free l.words (rw end at l.invariant.1)
