-- `press::some_above` meets its contract: a fold over the bytes finds one.
use Rattle.std.proofs.Common.{rules, ◌∙◌, ◌||◌, false, ltb}
use Rattle.std.proofs.lemmas.Iterator.{YieldsList-from_slice}
use Rattle.std.proofs.lemmas.Iterator.Consumers.{fold_from_yields_List}
use Rattle.press.proofs.Misfits.{fold_any}
use Rattle.press.proofs.some_above.Goals as goal

pub returns : goal.returns
returns c =
    fold_from_yields_List _ (λ a b. a || ltb c.args.limit b) false _ c.fold.ensures.ran (YieldsList-from_slice c.args.bytes.now cc) (λ a x b q k. search rules)
    ∙ fold_any (λ b. ltb c.args.limit b) c.args.bytes.now
