use Rattle.std.proofs.Common.{◌≡◌, ◌∙◌, ap, sym, ℕ, ◌<◌, ◌/◌, ◌%◌, eqb, get_or, rules, arith, div-one, shr-shr, eq-eqb, ne_eqb}
use Rattle.bits.specs.Gather.{gather}
use Rattle.bits.proofs.Gather.{gather-more, gather_ext}
use Rattle.bits.proofs.Roles.{no_bits}
use Rattle.law.specs.Stray.{only_if, link_stray, rows_stray}
use Rattle.law.proofs.stray_rows.Goals as goal
use Rattle.law.proofs.stray_rows.Goals.{then-rest-eq1, else-rest-eq1}

pub loop-p-init : goal.loop-p-init
unfolding gather
loop-p-init c = (
  sym (div-one c.args.present),
  λ i h.
      let wide : get_or c.empty-found.result.words i 0 < 65536 = search rules in
      no_bits c.empty-found.result.words i c.empty-found.ensures wide,
)

pub loop-p-preserved : goal.loop-p-preserved
loop-p-preserved c =
    let l = c.loop-p in
    let row : (i : ℕ) → get_or c.if-rest-eq1.row.words i 0 ≡ only_if (eqb (l.rest % 2) 1) (get_or c.args.allowed.words i 0) = λ i.
    elim c.if-rest-eq1.branch [
      | then-rest-eq1 w ↦ rw (w.row-is, eq-eqb _ _ w.if-rest-eq1.true)
      | else-rest-eq1 w ↦
          let wide : get_or w.empty-row.result.words i 0 < 65536 = search rules in
          let none = no_bits w.empty-row.result.words i w.empty-row.ensures wide in
          rw (w.row-is, none, ne_eqb _ _ w.if-rest-eq1.false)
    ] in (
      ap (λ n. n / 2) l.invariant.0 ∙ shr-shr c.args.present l.p 1,
      λ i h.
          c.stray_row-found.ensures.each i h
          ∙ gather-more l.p (link_stray c.args.state.now c.args.from c.args.j c.args.present (λ k. get_or c.args.allowed.words k 0) i)
          (l.invariant.1 i h) (rw (row i, l.invariant.0)),
    )

pub returns : goal.returns
unfolding rows_stray
returns c =
    let l = c.loop-p in
    let end : l.p ≡ 16 = omega arith in
    c.gather.ensures ∙ gather_ext 16 _ _ (λ i h. rw end at (l.invariant.1 i h))
