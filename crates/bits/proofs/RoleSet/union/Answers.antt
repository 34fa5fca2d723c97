-- `RoleSet::union` meets its contract: each word of the new set is the two sets' words or-ed.
use Rattle.std.proofs.Common.{rules}
use Rattle.bits.proofs.Each.{from_fn_each}
use Rattle.bits.proofs.Roles.{union}
use Rattle.bits.proofs.RoleSet.union.Goals as goal

pub returns : goal.returns
returns c = union (search rules) (search rules) (search rules) (from_fn_each _ 16 (λ i r q l k. search rules) c.from_fn.ensures.items)
