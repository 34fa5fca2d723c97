-- `press::act` meets its contract: each return is the definition's case that the tests before it led to.
use Rattle.std.proofs.Common.{◌≡◌, Some, None, arith}
use Rattle.std.proofs.lemmas.Result.{err_from_is_err_and}
use Rattle.press.specs.declared.Error.TheVariants.{WrongStage}
use Rattle.press.proofs.Acting.{has_owner, has_stage, is_stage, out_no_action, out_17, out_18, out_19, out_0}
use Rattle.press.proofs.act.Goals as goal

pub returns-in_err-wanted : goal.returns-in_err-wanted
returns-in_err-wanted c =
    let p = err_from_is_err_and c.from_residual.result c.from_residual.ensures.1 in
    rw (p.1, p.2, c.in_err-wanted.ensures.0) (out_no_action _ _ _ _ _ _ _ c.in_err-wanted.ensures.1)

pub returns-then-misfit : goal.returns-then-misfit
returns-then-misfit c = search (out_17, c.in_ok-wanted.ensures, c.misfit.ensures)

pub bounds-stages-at : goal.bounds-stages-at
bounds-stages-at c = has_stage _ _ _ c.misfit.ensures c.if-misfit.false

pub returns-in_err-stage : goal.returns-in_err-stage
returns-in_err-stage c = absurd (is_stage _ _ _ c.misfit.ensures c.if-misfit.false c.in_err-stage.ensures.1)

pub bounds-owners-at : goal.bounds-owners-at
bounds-owners-at c = has_owner _ _ _ c.misfit.ensures c.if-misfit.false

pub returns-then-turned_away : goal.returns-then-turned_away
returns-then-turned_away c = search (out_18, c.in_ok-wanted.ensures, c.misfit.ensures)

pub returns-in_err-next : goal.returns-in_err-next
returns-in_err-next c =
    let p = err_from_is_err_and c.from_residual-in_err-next.result c.from_residual-in_err-next.ensures.1 in
    let n : c.next_stage.result ≡ None = grind arith in
    let w : c.in_err-next.field-0.0 ≡ WrongStage = grind arith in
    rw (p.1, p.2, w) (search (out_19, c.in_ok-wanted.ensures, c.misfit.ensures, c.in_ok-stage.ensures))

pub bounds-stages-at-2 : goal.bounds-stages-at-2
bounds-stages-at-2 c = has_stage _ _ _ c.misfit.ensures c.if-misfit.false

pub returns : goal.returns
returns c =
    let n : c.next_stage.result ≡ Some c.in_ok-next.next = grind arith in
    search (out_0, c.in_ok-wanted.ensures, c.misfit.ensures, c.in_ok-stage.ensures)
