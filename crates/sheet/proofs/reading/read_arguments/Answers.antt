use Prim.Native.Nat.{ℕ}
use native.Mathlib.Omega.{arith}
use lib.ListN.{length-append, length-drop}
use lib.Seq.{length-take-le}
use Rattle.sheet.proofs.Following.{collect_none, lands, collect_one, collect_no_more, collect_all}
use Rattle.sheet.proofs.reading.read_arguments.Goals as goal

pub loop-number-init : goal.loop-number-init
loop-number-init c = collect_none _ _ _ (length-take-le _ _ (omega arith))

pub slice_bounds-read_argument-count : goal.slice_bounds-read_argument-count
slice_bounds-read_argument-count c = c.loop-number.invariant.inside

pub returns-in_err-n : goal.returns-in_err-n
returns-in_err-n c = rw c.from_residual.ensures (collect_no_more c.loop-number.invariant (omega arith) c.read_argument.ensures c.in_err-n.was)

pub overflow_add-at : goal.overflow_add-at
overflow_add-at c = lands c.loop-number.invariant c.read_argument.ensures c.in_ok-n.was (omega arith)

pub loop-number-preserved : goal.loop-number-preserved
loop-number-preserved c = collect_one c.loop-number.invariant (omega arith) c.in_ok-n.n c.in_ok-n.next c.read_argument.ensures c.in_ok-n.was

pub returns : goal.returns
returns c = collect_all c.loop-number.invariant (omega (arith, c.loop-number.invariant.room)) _ (omega (arith, length-append {A = ℕ}, length-drop {A = ℕ}, c.loop-number.invariant.room))
