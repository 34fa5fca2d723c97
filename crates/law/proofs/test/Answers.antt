-- `law::test` meets its contract: the words are lawful where all parts of the test pass.
use Rattle.std.proofs.Common.{sym, ◌∙◌, rules, eqb-true, eq-eqb}
use Rattle.law.proofs.Whole.{plainly, stray_found, circle_found, none_found, looked_at}
use Rattle.law.proofs.test.Goals as goal
use Rattle.law.proofs.test.Goals.{then-stray-eq0, else-stray-eq0}

pub returns-then-plain : goal.returns-then-plain
returns-then-plain c =
    let S = c.survey-stray.ensures in
    let none = c.if-plain.true in (
      elim c.if-stray-eq0.branch [
        | then-stray-eq0 w ↦
            eq-eqb _ 0 none
            ∙ none_found _ c.told-state c.fits-state S (search rules) w.acyclic.ensures w.if-stray-eq0.true (sym w.value-is ∙ c.if-acyclic.true) none
        | else-stray-eq0 w ↦ absurd (w.if-stray-eq0.false (eqb-true _ 0 (sym w.value-is ∙ c.if-acyclic.true)))
      ],
      plainly _ c.told-state c.fits-state S,
    )

pub returns-else-plain : goal.returns-else-plain
returns-else-plain c =
    let S = c.survey-stray.ensures in (
      elim c.if-stray-eq0.branch [
        | then-stray-eq0 w ↦
            looked_at _ c.told-state c.fits-state S (search rules) w.acyclic.ensures w.if-stray-eq0.true (sym w.value-is ∙ c.if-acyclic.true) c.in_order.ensures
        | else-stray-eq0 w ↦ absurd (w.if-stray-eq0.false (eqb-true _ 0 (sym w.value-is ∙ c.if-acyclic.true)))
      ],
      plainly _ c.told-state c.fits-state S,
    )

pub returns-else-acyclic : goal.returns-else-acyclic
returns-else-acyclic c =
    let S = c.survey-stray.ensures in (
      elim c.if-stray-eq0.branch [
        | then-stray-eq0 w ↦
            c.if-acyclic.false ∙ circle_found _ c.told-state c.fits-state S (search rules) w.acyclic.ensures (sym w.value-is ∙ c.if-acyclic.false)
        | else-stray-eq0 w ↦ c.if-acyclic.false ∙ stray_found _ c.told-state c.fits-state S w.if-stray-eq0.false
      ],
      plainly _ c.told-state c.fits-state S,
    )
