-- `answers::walks::lookup` meets its contract: the lowest of the roles that hold the permission and that an active role reaches; what stands is numbered.
use mathlib.Core.Path.{sym, ◌∙◌}
use Rattle.answers.proofs.Used.{none_above, none_active, looked_up}
use Rattle.answers.proofs.walks.lookup.Goals as goal

pub returns-then-above_15 : goal.returns-then-above_15
returns-then-above_15 c = none_above _ c.args.state.lawful _ _ _ _ (sym c.above_15.ensures ∙ c.if-above_15.true)

pub returns-then-active-eq0 : goal.returns-then-active-eq0
returns-then-active-eq0 c = none_active _ c.args.state.lawful _ _ _ _ (sym c.above_15.ensures ∙ c.if-above_15.false) c.active_roles.ensures c.if-active-eq0.true

pub returns : goal.returns
returns c = looked_up _ c.args.state.lawful _ _ _ _ (sym c.above_15.ensures ∙ c.if-above_15.false) c.active_roles.ensures c.holders.ensures c.row-holders.ensures c.links-links.ensures c.lowest_reached.ensures
