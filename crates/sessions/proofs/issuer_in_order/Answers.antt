use Rattle.std.proofs.Common.{◌≡◌, ℕ, ◌<◌, get_or, rules, refl, length, tests}
use Rattle.std.proofs.lemmas.Iterator.{cases_from_all, YieldsList-from_range, YieldsList-from_slice}
use Rattle.sessions.specs.Lesser.{stranger}
use Rattle.sessions.proofs.Found.{every_below, issuer_ordered}
use Rattle.sessions.proofs.issuer_in_order.Goals as goal

pub returns-then-all : goal.returns-then-all
returns-then-all c =
    let ws = c.args.state.now in
    let i = c.args.i in
    let words = c.beyond.result in
    let wide : (s : ℕ) → get_or words s 0 < 65536 = search rules in
    let long : length words ≡ 16 = search rules in
    issuer_ordered ws words long wide c.beyond.ensures
    ((every_below (λ s. stranger ws i s ≡ 0) _
    (cases_from_all _ _ _ (λ s. stranger ws i s ≡ 0) (λ s. stranger ws i s ≡ 0 → ⊥) c.all.ensures.ran (YieldsList-from_range 0 16 16 refl refl)
    (λ x q k. search (rules, tests)) (λ x q k. search (rules, tests)))).0 c.if-all.true)
    (cases_from_all _ _ _ (λ w. w ≡ 0) (λ w. w ≡ 0 → ⊥) c.all-then-all.ensures.ran (YieldsList-from_slice words (cc))
    (λ x q k. search (rules, tests)) (λ x q k. search (rules, tests)))
