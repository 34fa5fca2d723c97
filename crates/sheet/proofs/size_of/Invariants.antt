-- `sheet::size_of` meets its contract. The invariant is `Sizing`: the bytes before a place, and what is read from it on, make up the size.
use Prim.Native.Nat.{◌-◌}
use lib.ListN.{length}
use Rattle.sheet.proofs.Sizing.{Sizing}
use Rattle.sheet.proofs.size_of.Given as goal

abbrev pub invariant-loop-at : goal.invariant-loop-at
invariant-loop-at l = Sizing l.csv l.bytes l.at l.line

abbrev pub decreases-loop-at : goal.decreases-loop-at
decreases-loop-at l = length l.csv - l.at
