-- The invariants: a walk from the set is on its way; its round has come to the issuer i; of this issuer all are lifted but the roles of the rest.
-- The measures: the roles that are not done; the issuers left; the roles of the issuer that are not lifted.
use Rattle.std.proofs.Common.{◌≡◌, ◌-◌, not, ◌&&◌, length}
use Rattle.bits.specs.Below.{tally}
use Rattle.bits.specs.Bit.{bit}
use Rattle.bits.specs.RoleSet.{in_set}
use Rattle.hierarchy.specs.Climbing.{Climbing}
use Rattle.hierarchy.specs.Links.{linked}
use Rattle.hierarchy.proofs.Climbing.{LiftedBut, RoundTo}
use Rattle.hierarchy.proofs.Rows.{Wide}
use Rattle.hierarchy.proofs.Sizes.{size}
use Rattle.hierarchy.proofs.finish.Given as goal

abbrev pub invariant-loop-rest : goal.invariant-loop-rest
invariant-loop-rest l = Wide l.seen.words × LiftedBut (linked l.links) l.i l.initial.rest l.rest l.initial.seen.words l.seen.words

abbrev pub decreases-loop-rest : goal.decreases-loop-rest
decreases-loop-rest l = 16 - tally 16 (λ q. in_set l.seen.words l.i q && not (bit l.rest q))

abbrev pub invariant-loop-i : goal.invariant-loop-i
invariant-loop-i l = Wide l.seen.words × (length l.done.words ≡ 16) × RoundTo (linked l.links) l.i l.initial.seen.words l.initial.done.words l.seen.words l.done.words

abbrev pub invariant-loop-done : goal.invariant-loop-done
invariant-loop-done l = Wide l.seen.words × Wide l.done.words × (length l.done.words ≡ 16) × Climbing (linked l.links) l.initial.seen.words l.seen.words l.done.words

abbrev pub decreases-loop-done : goal.decreases-loop-done
decreases-loop-done l = 256 - size l.done.words
