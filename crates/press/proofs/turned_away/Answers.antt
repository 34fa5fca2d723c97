-- `press::turned_away` meets its contract: the record made is the owner's question, and the desk leaves every word.
use Rattle.std.proofs.Common.{◌≡◌, Some, None, rules}
use Rattle.monitor.specs.Contract.{answer_of}
use Rattle.mtas.specs.Monitor.{monitor}
use Rattle.press.specs.Acted.{question, turned_away}
use Rattle.press.proofs.Acting.{is_answered, words_kept}
use Rattle.press.proofs.turned_away.Goals as goal
use Rattle.press.proofs.turned_away.Goals.{in-Ok-Some, in_default, in_default-2}

pub returns-clause-value : goal.returns-clause-value
returns-clause-value c =
    let q : turned_away (answer_of c.call-outcome.result) ≡ turned_away (monitor c.args.state.now (question c.args.owner c.args.action c.args.issuer c.args.session)).answer = search is_answered in
    elim c.match-matches.branch [
      | in-Ok-Some w ↦ let f : w.in-Ok-Some.field-0 ≡ Some w.in-Ok-Some.field-0-0 = rw w.in-Ok-Some.is at w.in-Ok-Some.field-0-is in rw w.matches-is (rw (w.in-Ok-Some.is, f) at q)
      | in_default w ↦ let f : w.in_default.field-0 ≡ None = search rules in rw w.matches-is (rw (w.in_default.is, f) at q)
      | in_default-2 w ↦ rw w.matches-is (rw w.in_default.is at q)
    ]

pub returns-clause-state_unchanged : goal.returns-clause-state_unchanged
returns-clause-state_unchanged c = search words_kept
