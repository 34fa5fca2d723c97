-- `answers::front` meets its contract: each return is the first of the three tests that fails.
use mathlib.Core.Path.{refl, ◌∙◌}
use Rattle.record.proofs.Padding.{above-padded}
use Rattle.answers.proofs.Refusals.{in_front}
use Rattle.answers.proofs.front.Goals as goal

pub returns-then-not-may_call : goal.returns-then-not-may_call
returns-then-not-may_call c = in_front _ _ _ c.its_caller-whose.ensures c.may_call.ensures refl refl (rw c.if-not-may_call.true)

pub returns-then-not-is_known : goal.returns-then-not-is_known
returns-then-not-is_known c = in_front _ _ _ c.its_caller-whose.ensures c.may_call.ensures c.is_known.ensures refl (rw (c.if-not-may_call.false, c.if-not-is_known.true))

pub returns-then-above_15 : goal.returns-then-above_15
returns-then-above_15 c = in_front _ _ _ c.its_caller-whose.ensures c.may_call.ensures c.is_known.ensures (c.above_15.ensures ∙ above-padded c.arguments-given.ensures) (rw (c.if-not-may_call.false, c.if-not-is_known.false, c.if-above_15.true))

pub returns : goal.returns
returns c = in_front _ _ _ c.its_caller-whose.ensures c.may_call.ensures c.is_known.ensures (c.above_15.ensures ∙ above-padded c.arguments-given.ensures) (rw (c.if-not-may_call.false, c.if-not-is_known.false, c.if-above_15.false))
