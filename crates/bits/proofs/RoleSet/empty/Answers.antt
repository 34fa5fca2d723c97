use Rattle.bits.proofs.Roles.{in_empty}
use Rattle.bits.proofs.RoleSet.empty.Goals as goal

pub returns : goal.returns
returns c = in_empty
