use Rattle.std.proofs.Common.{rules}
use Rattle.hierarchy.proofs.Links.{linked_numbered}
use Rattle.hierarchy.proofs.Rows.{Wide, all_due}
use Rattle.hierarchy.proofs.Freed.{visited_joins, visited_left}
use Rattle.hierarchy.proofs.circles.Visitor.visit.Goals as goal

pub returns-then-gather_row-eq0 : goal.returns-then-gather_row-eq0
returns-then-gather_row-eq0 c =
    let a = c.args in
    let set : Wide a.freed.words = search rules in
    visited_joins (linked_numbered _) ((all_due a.self.now.links.now c.requires set c.gather_row.ensures).0 c.if-gather_row-eq0.true) c.join.ensures

pub returns-else-gather_row-eq0 : goal.returns-else-gather_row-eq0
returns-else-gather_row-eq0 c =
    let a = c.args in
    let set : Wide a.freed.words = search rules in
    visited_left (linked_numbered _) (λ d. c.if-gather_row-eq0.false ((all_due a.self.now.links.now c.requires set c.gather_row.ensures).1 d))
