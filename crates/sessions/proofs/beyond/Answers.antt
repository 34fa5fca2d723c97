use Rattle.std.proofs.Common.{◌≡◌, ◌∙◌, rules}
use Rattle.std.specs.Int.Bits.{bit_or}
use Rattle.std.specs.List.{fold}
use Rattle.bits.proofs.Bit.{without_less}
use Rattle.bits.proofs.Gather.{fold_gather}
use Rattle.sessions.proofs.Sifted.{sifted_none, sifted_more}
use Rattle.sessions.proofs.beyond.Goals as goal

pub loop-rest-init : goal.loop-rest-init
loop-rest-init c =
    let all : c.fold-rest.result ≡ fold bit_or 0 c.lesser_of-left.result = search rules in
    sifted_none _ c.fits-state c.requires (all ∙ fold_gather (λ w. w) _ 16 0 (search rules)) c.lesser_of-left.ensures

pub loop-rest-smaller : goal.loop-rest-smaller
loop-rest-smaller c = let low = c.lowest_bit-r.ensures in rw c.without_bit-rest.ensures (without_less _ _ low.place low.is_set)

pub loop-rest-preserved : goal.loop-rest-preserved
loop-rest-preserved c =
    rw c.without_bit-rest.ensures
    (sifted_more _ c.fits-state c.requires c.lowest_bit-r.ensures c.over.ensures c.spare.ensures c.loop-rest.invariant)
