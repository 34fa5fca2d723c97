use Rattle.std.proofs.Common.{◌≡◌, ◌+◌, ◌*◌, true, refl, subst, arith, rules}
use Rattle.bits.proofs.Booleans.{clash}
use Rattle.mtas.specs.Hierarchy.{Role, ◌#◌}
use Rattle.hierarchy.specs.Links.{linked}
use Rattle.hierarchy.proofs.Links.{role-at}
use Rattle.hierarchy.proofs.Rows.{Wide, all_due}
use Rattle.hierarchy.proofs.Freed.{tops_none, tops_more}
use Rattle.hierarchy.proofs.circles.tops_of.Goals as goal
use Rattle.hierarchy.proofs.circles.tops_of.Goals.{then-gather_row-eq0, else-gather_row-eq0}

pub loop-q-init : goal.loop-q-init
loop-q-init c = tops_none

pub loop-q-preserved : goal.loop-q-preserved
loop-q-preserved c =
    let links = c.args.links.now in
    let j = c.args.j in
    let l = c.loop-q in
    let none : Wide c.empty.result.words = search rules in
    let k = 16 * j + l.q in
    elim c.if-gather_row-eq0.branch [
      | then-gather_row-eq0 w ↦
          let due = (all_due links {k = k} (omega arith) none c.gather_row.ensures).0 w.if-gather_row-eq0.true in
          let bare = subst (λ b. (a : Role) → linked links a b ≡ true → ⊥) (role-at k (j # l.q) refl (omega arith)) (λ a h. clash (due a h) (c.empty.ensures a.issuer a.number)) in
          rw (w.word-is, w.with_bit-word.ensures) (tops_more l.invariant bare)
      | else-gather_row-eq0 w ↦ rw w.word-is l.invariant
    ]
