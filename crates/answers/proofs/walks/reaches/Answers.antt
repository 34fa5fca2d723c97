-- `answers::walks::reaches` meets its contract: the walk upwards from the one role sees the other; a role with a number above 15 reaches itself alone.
use mathlib.Core.Path.{sym, ◌∙◌}
use borrow.Author.Tests.{eq-eqb, ne_eqb}
use Rattle.answers.proofs.Found.{reaches_alone, reaches_told}
use Rattle.answers.proofs.walks.reaches.Goals as goal

pub returns-then-j-i : goal.returns-then-j-i
returns-then-j-i c = reaches_alone _ c.args.state.lawful _ _ _ _ (sym c.above_15.ensures ∙ c.if-above_15.true) (rw (eq-eqb _ _ c.if-j-i.true))

pub returns-else-j-i : goal.returns-else-j-i
returns-else-j-i c = reaches_alone _ c.args.state.lawful _ _ _ _ (sym c.above_15.ensures ∙ c.if-above_15.true) (rw (ne_eqb _ _ c.if-j-i.false))

pub returns : goal.returns
returns c = reaches_told _ _ _ c.links-links.ensures c.above_one.ensures (sym c.above_15.ensures ∙ c.if-above_15.false) c.has.ensures
