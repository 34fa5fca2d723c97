-- `sheet::reading::read_arguments` meets its contract. The invariant: the first arguments were read, up to a place.
use Rattle.sheet.proofs.Following.{Collected}
use Rattle.sheet.proofs.reading.read_arguments.Given as goal

abbrev pub invariant-loop-number : goal.invariant-loop-number
invariant-loop-number l = Collected l.count l.left l.number-items l.at l.number-index
