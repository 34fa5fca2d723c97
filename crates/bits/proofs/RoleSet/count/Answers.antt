-- `RoleSet::count` meets its contract: the set bits of its words are as many as its roles.
use Rattle.std.proofs.Common.{rules, arith, ◌∙◌, ◌<◌, ◌/◌, ◌%◌}
use Rattle.std.proofs.lemmas.Iterator.{YieldsList-from_slice, YieldsList-from_map}
use Rattle.std.proofs.lemmas.Iterator.Consumers.{sum_by_from_yields_List, fits_by_from_yields_list}
use lib.Count.{ones}
use Rattle.bits.specs.RoleSet.{in_set, size}
use Rattle.bits.proofs.Below.{tally-le}
use Rattle.bits.proofs.Sizes.{size_sum}
use Rattle.bits.proofs.RoleSet.count.Goals as goal

pub sum-requires-clause-fits : goal.sum-requires-clause-fits
sum-requires-clause-fits c =
    let all : size c.args.self.words < 65536 = omega (arith, tally-le 256 (λ k. in_set c.args.self.words (k / 16) (k % 16))) in
    fits_by_from_yields_list ones c.args.self.words c.map.result _
    (YieldsList-from_map _ ones (YieldsList-from_slice c.args.self.words cc) c.map.ensures.closure (λ x r q k. search rules))
    (omega (arith, size_sum c.args.self.words (search rules) (λ i. search rules)))

pub returns : goal.returns
returns c =
    sum_by_from_yields_List ones c.args.self.words c.map.result c.sum.result c.sum.ensures.ran
    (YieldsList-from_map _ ones (YieldsList-from_slice c.args.self.words cc) c.map.ensures.closure (λ x r q k. search rules))
    ∙ size_sum c.args.self.words (search rules) (λ i. search rules)
