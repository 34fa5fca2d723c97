-- `sheet::write` meets its contract. The invariant is `Writing`: the records before a place are written, the others are to come.
use Prim.Native.Nat.{◌-◌}
use lib.ListN.{length}
use Rattle.sheet.proofs.Writing.{Writing}
use Rattle.sheet.proofs.write.Given as goal

abbrev pub invariant-loop-at : goal.invariant-loop-at
invariant-loop-at l = Writing l.caller l.csv l.initial.out l.out l.at l.used

abbrev pub decreases-loop-at : goal.decreases-loop-at
decreases-loop-at l = length l.csv - l.at
