use Rattle.std.proofs.Common.{◌≡◌, ◌+◌, ◌*◌, get_or, sym, ◌∙◌, arith, w16, Fits, rules}
use Rattle.hierarchy.proofs.Searching.{search_begins, search_skips, search_goes_on, search_finds, search_passes, search_ends}
use Rattle.hierarchy.proofs.lowest.lowest_reached.Goals as goal
use Rattle.hierarchy.proofs.lowest.lowest_reached.Goals.{then-has_bit+else-own-word-ne0, else-has_bit, then-row-ne0+else-loop-q-test, else-row-ne0}

pub issuers-init : goal.issuers-init
issuers-init c = (search rules, search_begins _ _ _ _ c.empty-seen.ensures)

pub loop-q-init : goal.loop-q-init
loop-q-init c =
    let (none, searching) = c.issuers.invariant in
    let e : 16 * c.issuers.j + 0 ≡ 16 * c.issuers.j = omega arith in
    (none, rw e searching)

pub with_above-seen-requires : goal.with_above-seen-requires
with_above-seen-requires c = (omega arith, omega arith, c.loop-q.invariant.1.closed)

pub loop-q-preserved : goal.loop-q-preserved
loop-q-preserved c =
    let l = c.loop-q in
    let j = c.issuers.j in
    let (none, searching) = l.invariant in
    let e : 16 * j + (l.q + 1) ≡ 16 * j + l.q + 1 = omega arith in (
      none,
      elim c.if-has_bit.branch [
        | then-has_bit+else-own-word-ne0 w ↦
            let wide : Fits w16 (get_or w.with_above-seen.result.words c.args.i 0) = search rules in
            rw (e, w.seen-is) (search_goes_on _ _ _ _ j l.q (omega arith) searching (omega arith) w.with_above-seen.ensures wide.fits w.if-own-word-ne0.false)
        | else-has_bit w ↦ rw (e, w.seen-is) (search_skips _ _ _ _ j l.q (omega arith) searching (sym c.has_bit.ensures ∙ w.if-has_bit.false))
      ],
    )

pub issuers-preserved : goal.issuers-preserved
issuers-preserved c =
    let l = c.issuers in (
      elim c.if-row-ne0.branch [ then-row-ne0+else-loop-q-test w ↦ w.found-is ∙ w.loop-q.invariant.0 | else-row-ne0 w ↦ w.found-is ∙ l.invariant.0 ],
      elim c.if-row-ne0.branch [
        | then-row-ne0+else-loop-q-test w ↦
            let e : 16 * l.j + w.loop-q.q ≡ 16 * (l.j + 1) = omega arith in
            rw w.seen-is (rw e at w.loop-q.invariant.1)
        | else-row-ne0 w ↦ rw w.seen-is (search_passes _ _ _ _ l.j w.if-row-ne0.false l.invariant.1)
      ],
    )

pub returns-after-issuers : goal.returns-after-issuers
returns-after-issuers c =
    let (none, searching) = c.issuers.invariant in
    let e : 16 * c.issuers.j ≡ 256 = omega arith in
    rw none (search_ends _ _ _ _ (rw e at searching))

pub returns-then-own-word-ne0 : goal.returns-then-own-word-ne0
returns-then-own-word-ne0 c =
    let l = c.loop-q in
    let wide : Fits w16 (get_or c.with_above-seen.result.words c.args.i 0) = search rules in
    search_finds _ _ _ _ _ l.q (omega arith) l.invariant.1 (omega arith) c.with_above-seen.ensures wide.fits (omega arith)
    (sym c.has_bit.ensures ∙ c.if-has_bit.true) c.if-own-word-ne0.true
