use Rattle.hierarchy.proofs.Slide.{the_slide}
use Rattle.hierarchy.proofs.circles.Visitor.of.Goals as goal

pub invariant_of-result : goal.invariant_of-result
invariant_of-result c = record { slid = the_slide }
