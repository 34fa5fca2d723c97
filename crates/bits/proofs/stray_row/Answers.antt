-- `bits::stray_row` meets its contract: each word of the new set has what was found and the row's stray bits.
use Rattle.std.proofs.Common.{rules}
use Rattle.bits.proofs.Each.{from_fn_each}
use Rattle.bits.proofs.stray_row.Goals as goal

pub returns : goal.returns
returns c = record { each = from_fn_each _ 16 (λ i r q l k. search rules) c.from_fn.ensures.items }
