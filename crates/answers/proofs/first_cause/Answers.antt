-- Where a guard applies its cause is the outcome, and else the loop goes on.
use Rattle.std.proofs.Common.{rules, sym, ◌∙◌}
use Rattle.answers.proofs.Tries.{passes_none, passes, stops, all_pass}
use Rattle.answers.proofs.first_cause.Goals as goal
use Rattle.answers.proofs.first_cause.Goals.{in_default-via-in-None-1, in_default-via-in-Some+else-applies}

pub returns-in-loop-place : goal.returns-in-loop-place
returns-in-loop-place c = rw c.cause.ensures (sym (c.loop-place.invariant ∙ stops _ c.args.row c.loop-place.place-index (search rules) _ c.in-Some.is (sym c.applies.ensures ∙ c.if-applies.true)))

pub loop-place-preserved : goal.loop-place-preserved
loop-place-preserved c = c.loop-place.invariant ∙ elim c.in_default.branch [
  | in_default-via-in-None-1 w ↦ passes_none _ c.args.row c.loop-place.place-index (search rules) (search rules)
  | in_default-via-in-Some+else-applies w ↦ passes _ c.args.row c.loop-place.place-index (search rules) _ w.in-Some.is (sym w.applies.ensures ∙ w.if-applies.false)
]

pub returns : goal.returns
returns c = all_pass _ c.args.row c.loop-place.place-index (search rules) ∙ sym c.loop-place.invariant
