-- `facts::user_of` meets its contract: with numbers below 16 the session's word is its user.
use mathlib.Core.Path.{sym, ◌∙◌}
use native.Mathlib.Omega.{arith}
use Rattle.facts.proofs.Places.{no_user, read_user}
use Rattle.facts.proofs.user_of.Goals as goal

pub returns-then-above_15 : goal.returns-then-above_15
returns-then-above_15 c = no_user _ c.args.state.lawful _ _ (sym c.above_15.ensures ∙ c.if-above_15.true)

pub returns : goal.returns
returns c = rw c.session_user.ensures (read_user _ c.args.state.lawful _ _ (grind arith) (grind arith))
