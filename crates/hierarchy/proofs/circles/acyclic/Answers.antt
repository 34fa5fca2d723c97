-- `hierarchy::circles::acyclic` meets its contract: where all roles are freed there is no circle, and where there is none all are in the end.
use Rattle.hierarchy.specs.Links.{linked}
use Rattle.hierarchy.specs.Freed.{AllFree}
use Rattle.hierarchy.proofs.Acyclicity.{free_full, filled_full}
use Rattle.hierarchy.proofs.Links.{linked_numbered}
use Rattle.hierarchy.proofs.circles.acyclic.Goals as goal

pub returns-then-full : goal.returns-then-full
returns-then-full c =
    let free : AllFree (linked c.args.links.now) c.visit_in_order-freed.result.words = (rw c.of-visitor.ensures at c.visit_in_order-freed.ensures).free c.tops-first.ensures in
    (λ _. free_full (linked_numbered _) c.visit_in_order-freed.result.words free (c.full.ensures.0 c.if-full.true), λ _. c.if-full.true)

pub returns-else-full : goal.returns-else-full
returns-else-full c =
    let filled = rw c.of-visitor.ensures at c.fill.ensures in
    let free = filled.freed.free ((rw c.of-visitor.ensures at c.visit_in_order-freed.ensures).free c.tops-first.ensures) in
    (λ h. free_full (linked_numbered _) c.fill.result.words free (c.full-else-full.ensures.0 h), λ ac. c.full-else-full.ensures.1 (filled_full (linked_numbered _) filled ac))
