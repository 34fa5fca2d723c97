use Rattle.std.proofs.Common.{◌≡◌, arith}
use Rattle.hierarchy.proofs.Links.{linked_numbered}
use Rattle.hierarchy.proofs.Freed.{visited_none, visited_more, visited_all}
use Rattle.hierarchy.proofs.circles.Visitor.sweep.Goals as goal

pub loop-k-init : goal.loop-k-init
loop-k-init c = visited_none (linked_numbered _)

pub loop-k-preserved : goal.loop-k-preserved
loop-k-preserved c = visited_more (linked_numbered _) c.loop-k.k (omega arith) c.visit-freed.ensures c.loop-k.invariant

pub returns : goal.returns
returns c = let end : c.loop-k.k ≡ 256 = omega arith in visited_all (linked_numbered _) (rw end at c.loop-k.invariant)
