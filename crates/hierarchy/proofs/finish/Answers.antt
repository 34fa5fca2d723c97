use Rattle.std.proofs.Common.{◌≡◌, ◌<◌, sym, ◌∙◌, arith, length-set, rules}
use Rattle.hierarchy.proofs.Climbing.{lifted_none, lifted_more, lifted_all, fewer_left, word_inside, round_none, round_more, round_idle, round_all, climb_ends, climb_less}
use Rattle.hierarchy.proofs.Links.{linked_numbered}
use Rattle.hierarchy.proofs.Rows.{none-outside}
use Rattle.hierarchy.proofs.finish.Goals as goal
use Rattle.hierarchy.proofs.finish.Goals.{then-rest-ne0+else-loop-rest-test, else-rest-ne0}

pub loop-done-init : goal.loop-done-init
loop-done-init c = (search rules, search rules, search rules, search rules)

pub loop-i-init : goal.loop-i-init
loop-i-init c = let (seen, done, long, climbing) = c.loop-done.invariant in (seen, long, round_none done)

pub loop-done-smaller : goal.loop-done-smaller
loop-done-smaller c =
    let l = c.loop-done in
    let m = c.loop-i in
    let end : m.i ≡ 16 = omega arith in
    climb_less (round_all (rw end at m.invariant.2)) (λ w. c.loop-done-test.true (c.gather_row.ensures ∙ (none-outside l.invariant.1).1 w))

pub loop-done-preserved : goal.loop-done-preserved
loop-done-preserved c =
    let l = c.loop-done in
    let m = c.loop-i in
    let end : m.i ≡ 16 = omega arith in
    (m.invariant.0, m.invariant.2.wide, m.invariant.1, (round_all (rw end at m.invariant.2)).goes_on _ l.invariant.3)

pub loop-rest-init : goal.loop-rest-init
loop-rest-init c =
    let m = c.loop-i in
    (m.invariant.0, lifted_none (word_inside (linked_numbered _) m.i (omega arith) m.seen.words m.done.words m.invariant.2))

pub loop-rest-smaller : goal.loop-rest-smaller
loop-rest-smaller c =
    let m = c.loop-i in
    let l = c.loop-rest in
    let low = c.lowest_bit-r in
    let li : m.i < 16 = omega arith in
    rw c.without_bit.ensures (fewer_left _ m.i low.result l.rest l.seen.words _ _ li low.ensures.place low.ensures.is_set (l.invariant.0.each m.i).fits c.row-row.ensures c.union-seen.ensures l.invariant.1.inside)

pub loop-rest-preserved : goal.loop-rest-preserved
loop-rest-preserved c =
    let m = c.loop-i in
    let l = c.loop-rest in
    let low = c.lowest_bit-r in
    let li : m.i < 16 = omega arith in
    (search rules, rw c.without_bit.ensures (lifted_more _ m.i low.result l.rest l.seen.words _ _ li low.ensures.place low.ensures.is_set (l.invariant.0.each m.i).fits c.row-row.ensures c.union-seen.ensures l.invariant.1))

pub loop-i-preserved : goal.loop-i-preserved
loop-i-preserved c =
    let m = c.loop-i in
    let li : m.i < 16 = omega arith in (
      elim c.if-rest-ne0.branch [ then-rest-ne0+else-loop-rest-test w ↦ rw w.seen-is w.loop-rest.invariant.0 | else-rest-ne0 w ↦ rw w.seen-is m.invariant.0 ],
      elim c.if-rest-ne0.branch [
        | then-rest-ne0+else-loop-rest-test w ↦ rw w.done-is (simp length-set m.invariant.1)
        | else-rest-ne0 w ↦ rw w.done-is m.invariant.1
      ],
      elim c.if-rest-ne0.branch [
        | then-rest-ne0+else-loop-rest-test w ↦
            rw (w.seen-is, w.done-is)
            (round_more (linked_numbered _) m.i li m.seen.words m.done.words m.invariant.2 (lifted_all (search rules) w.loop-rest.invariant.1) (omega arith) (w.loop-rest.invariant.0.each m.i).fits)
        | else-rest-ne0 w ↦ rw (w.seen-is, w.done-is) (round_idle (linked_numbered _) m.i li m.seen.words m.done.words m.invariant.2 w.if-rest-ne0.false)
      ],
    )

pub returns : goal.returns
returns c =
    let l = c.loop-done in
    climb_ends (linked_numbered _) l.invariant.3 ((none-outside l.invariant.1).0 (sym c.gather_row.ensures ∙ c.loop-done-test.false))
