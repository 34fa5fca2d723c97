-- `rule::row` meets its contract.
use Rattle.std.proofs.Common.{rules}
use Rattle.rule.proofs.Causes.{all_causes}
use Rattle.rule.proofs.row.Goals as goal

pub returns : goal.returns
returns c = all_causes _ (λ i r q k. search rules) c.from_fn.ensures.items c.requires
