-- `RoleSet::gather` meets its contract: a fold over the words gathers them.
use Rattle.std.proofs.Common.{rules, ◌∙◌, bit_or}
use Rattle.std.proofs.lemmas.Iterator.{YieldsList-from_slice}
use Rattle.std.proofs.lemmas.Iterator.Consumers.{fold_from_yields_List}
use Rattle.bits.proofs.Gather.{fold_gather}
use Rattle.bits.proofs.RoleSet.gather.Goals as goal

pub returns : goal.returns
returns c =
    fold_from_yields_List _ bit_or 0 _ c.fold.ensures.ran (YieldsList-from_slice c.args.self.words cc) (λ a x b q k. search rules)
    ∙ fold_gather (λ w. w) c.args.self.words 16 0 (search rules)
