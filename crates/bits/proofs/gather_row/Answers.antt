-- `bits::gather_row` meets its contract: a row's stray bits, found beside none, gathered.
use Rattle.std.proofs.Common.{rules, ◌∙◌, get_or, ◌≡◌}
use Rattle.bits.proofs.Gather.{gather_ext, none_or}
use Rattle.bits.proofs.Roles.{no_bits}
use Rattle.bits.proofs.gather_row.Goals as goal

pub returns : goal.returns
returns c =
    c.gather.ensures ∙ gather_ext 16 _ _ (λ i l.
    let none : get_or c.empty.result.words i 0 ≡ 0 = no_bits c.empty.result.words i c.empty.ensures (search rules) in
    c.stray_row.ensures.each i l ∙ rw none (none_or _))
