use Rattle.sessions.proofs.Dropping.{dropped-more}
use Rattle.sessions.proofs.drop_roles.Goals as goal

pub loop-s-preserved : goal.loop-s-preserved
loop-s-preserved c = dropped-more c.loop-s.s c.requires c.loop-s-test.true c.told-state c.loop-s.invariant
