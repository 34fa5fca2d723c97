use Rattle.std.proofs.Common.{rules, refl, tests}
use Rattle.std.proofs.lemmas.Iterator.{cases_from_all, YieldsList-from_range}
use Rattle.sessions.specs.Lesser.{IssuerInOrder}
use Rattle.sessions.proofs.Found.{all_ordered}
use Rattle.sessions.proofs.in_order.Goals as goal

pub returns : goal.returns
returns c =
    let ws = c.args.state.now in
    all_ordered ws
    (cases_from_all _ _ _ (IssuerInOrder ws) (λ i. IssuerInOrder ws i → ⊥) c.all.ensures.ran (YieldsList-from_range 0 16 16 refl refl)
    (λ x q k. search (rules, tests)) (λ x q k. search (rules, tests)))
