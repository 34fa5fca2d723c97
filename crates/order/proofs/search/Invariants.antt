-- The invariant: the role is below 256, and depth and count together are at most 256. The measure: each step puts a role on the path, or one into the order, from the path or not.
use Rattle.std.proofs.Common.{◌+◌, ◌-◌, ◌*◌, ◌<◌, ◌≤◌, IfSome}
use Rattle.order.proofs.search.Given as goal

abbrev pub invariant-loop-next : goal.invariant-loop-next
invariant-loop-next l = IfSome l.next (λ role. role < 256) × (l.depth + l.count ≤ 256)

abbrev pub decreases-loop-next : goal.decreases-loop-next
decreases-loop-next l = 512 - (l.depth + 2 * l.count)
