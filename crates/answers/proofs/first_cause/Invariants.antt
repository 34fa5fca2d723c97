-- `answers::first_cause` meets its contract: what the places before the k-th have doesn't apply.
use Rattle.std.proofs.Common.{◌≡◌, drop}
use Rattle.mtas.specs.Answer.{first_cause}
use Rattle.mtas.specs.Layout.{view}
use Rattle.rule.specs.Table.{guards_of}
use Rattle.answers.proofs.first_cause.Given as goal

abbrev pub invariant-loop-place : goal.invariant-loop-place
invariant-loop-place l = first_cause (view l.state.words.now) (guards_of l.place-items) ≡ first_cause (view l.state.words.now) (guards_of (drop l.place-index l.place-items))
