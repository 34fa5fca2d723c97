-- `monitor::call` meets its contract: each return is the definition's case that the tests before it led to.
use Rattle.std.proofs.Common.{rules, sym, ◌∙◌}
use Rattle.std.proofs.lemmas.Result.{err_from_is_err_and}
use borrow.Author.Tests.{not-false}
use Rattle.monitor.proofs.Calling.{wrong_length, unlawful, lawful-of, signed, undecoded, refused_call, played_call}
use Rattle.monitor.proofs.call.Goals as goal

pub returns-in_default : goal.returns-in_default
returns-in_default c = wrong_length _ _ (search rules)

pub returns-then-not-law : goal.returns-then-not-law
returns-then-not-law c = rw (← c.in-Some.ensures.cases.same) (unlawful _ _ (search rules) c.test-law.ensures.0 c.if-not-law.true)

pub returns-in-SignOfLife : goal.returns-in-SignOfLife
returns-in-SignOfLife c =
    rw (← c.in-Some.ensures.cases.same) (signed _ (lawful-of c.test-law.ensures.0 c.if-not-law.false) c.decode-decoded.ensures c.in-SignOfLife.is)

pub returns-in_default-decoded-2 : goal.returns-in_default-decoded-2
returns-in_default-decoded-2 c =
    rw (← c.in-Some.ensures.cases.same)
    (undecoded _ (lawful-of c.test-law.ensures.0 c.if-not-law.false) c.decode-decoded.ensures c.in_default-decoded.not-Request c.in_default-decoded-2.not-SignOfLife)

pub invariant_of-lawful : goal.invariant_of-lawful
invariant_of-lawful c = record { lawful = sym c.test-law.ensures.0 ∙ not-false _ c.if-not-law.false }

pub returns-in_err-refusal : goal.returns-in_err-refusal
returns-in_err-refusal c =
    let p = err_from_is_err_and c.from_residual.result c.from_residual.ensures.1 in
    rw (p.1, p.2, ← c.in-Some.ensures.cases.same)
    (refused_call _ (lawful-of c.test-law.ensures.0 c.if-not-law.false) c.decode-decoded.ensures c.in-Request.is c.in_err-refusal.ensures)

pub change-requires : goal.change-requires
change-requires c =
    (record { lawful = lawful-of c.test-law.ensures.0 c.if-not-law.false; passes = sym c.in_ok-refusal.ensures }, c.test-law.ensures.1.0)

pub returns : goal.returns
returns c =
    rw (← c.in-Some.ensures.cases.same)
    (played_call _ (lawful-of c.test-law.ensures.0 c.if-not-law.false) c.decode-decoded.ensures c.in-Request.is c.looked_up-found.result c.in_ok-refusal.ensures
    c.looked_up-found.ensures c.change.ensures)
