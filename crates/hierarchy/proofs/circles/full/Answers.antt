use Rattle.std.proofs.Common.{rules}
use Rattle.hierarchy.proofs.Acyclicity.{tells_full}
use Rattle.hierarchy.proofs.circles.full.Goals as goal

pub returns : goal.returns
returns c = tells_full (search rules) (search rules) c.eq.ensures
