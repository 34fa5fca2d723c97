use Rattle.std.proofs.Common.{◌<◌, slice_index_or, sym, ◌∙◌, rules}
use Rattle.bits.proofs.Gather.{gather-zero}
use Rattle.hierarchy.proofs.Links.{linked_numbered}
use Rattle.hierarchy.proofs.Rows.{none_lacking}
use Rattle.hierarchy.proofs.Freed.{freed_then, visited_joins}
use Rattle.hierarchy.proofs.circles.Visitor.visit_in_order.Goals as goal

pub loop-k-preserved : goal.loop-k-preserved
loop-k-preserved c =
    let (wide, freed) = c.loop-k.invariant in
    let k : slice_index_or c.as_slice-k-items.result.now c.loop-k.k-index 0 < 256 = search rules in (
      search rules,
      λ nothing.
          let (before, due) = none_lacking k wide c.stray_row-lacking.ensures nothing in
          freed_then (freed before) (visited_joins (linked_numbered _) due c.join-visited.ensures).freed,
    )

pub returns-then-gather-eq0 : goal.returns-then-gather-eq0
returns-then-gather-eq0 c = c.loop-k.invariant.1 ((gather-zero 16 _).0 (sym c.gather.ensures ∙ c.if-gather-eq0.true))
