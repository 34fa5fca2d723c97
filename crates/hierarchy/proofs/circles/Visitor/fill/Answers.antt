use Rattle.std.proofs.Common.{sym, ◌∙◌, rules}
use Rattle.hierarchy.proofs.Links.{linked_numbered}
use Rattle.hierarchy.proofs.Freed.{freed_none, freed_then, filled}
use Rattle.hierarchy.proofs.Rows.{none-outside}
use Rattle.hierarchy.proofs.Sizes.{fewer_outside}
use Rattle.hierarchy.proofs.circles.Visitor.fill.Goals as goal

pub loop-next-init : goal.loop-next-init
loop-next-init c = (search rules, freed_none)

pub returns-then-gather_row-eq0 : goal.returns-then-gather_row-eq0
returns-then-gather_row-eq0 c =
    let (wide, freed) = c.loop-next.invariant in
    filled (linked_numbered _) freed c.sweep-next.ensures ((none-outside wide).0 (sym c.gather_row.ensures ∙ c.if-gather_row-eq0.true))

pub loop-next-smaller : goal.loop-next-smaller
loop-next-smaller c =
    let (wide, freed) = c.loop-next.invariant in
    fewer_outside c.loop-next.freed.words c.sweep-next.result.words c.sweep-next.ensures.freed.kept
    (λ w. c.if-gather_row-eq0.false (c.gather_row.ensures ∙ (none-outside wide).1 w))

pub loop-next-preserved : goal.loop-next-preserved
loop-next-preserved c = let (wide, freed) = c.loop-next.invariant in (search rules, freed_then freed c.sweep-next.ensures.freed)
