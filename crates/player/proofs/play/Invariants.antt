-- `player::play` meets its contract. The invariant is `Going`: what is printed and what is to come make up the whole text. There are no more records than bytes: the measure is how many there can still be.
use Prim.Native.Nat.{suc, ◌-◌}
use lib.ListN.{length}
use Rattle.player.proofs.Going.{Going}
use Rattle.player.proofs.play.Given as goal

abbrev pub invariant-loop-len : goal.invariant-loop-len
invariant-loop-len l = Going l.journal l.state l.out l.used l.at l.count

abbrev pub decreases-loop-len : goal.decreases-loop-len
decreases-loop-len l = suc (length l.journal) - l.count
