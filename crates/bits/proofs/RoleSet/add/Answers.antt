use borrow.Author.Rules.{rules}
use Rattle.bits.proofs.Roles.{added}
use Rattle.bits.proofs.RoleSet.add.Goals as goal

pub returns : goal.returns
returns c = search (rules, added)
