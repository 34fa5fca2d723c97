-- `sheet::convert` meets its contract: a strange caller, a wrong row, too short a buffer, or all records.
use Rattle.std.specs.Prelude.{◌≡◌, Err}
use borrow.Author.Rules.{rules}
use native.Mathlib.Omega.{arith}
use Rattle.sheet.proofs.Converting.{strange_caller, wrong_row, wrong_line, too_short, fitting, all_written}
use Rattle.sheet.proofs.convert.Goals as goal

pub returns-then-caller-gt15-clause-converts : goal.returns-then-caller-gt15-clause-converts
returns-then-caller-gt15-clause-converts c = search strange_caller

pub returns-in_err-bytes-clause-converts : goal.returns-in_err-bytes-clause-converts
returns-in_err-bytes-clause-converts c = let s : c.from_residual.result ≡ Err c.in_err-bytes.field-0.0 = search rules in rw s (wrong_row _ _ _ (omega arith) c.size_of.ensures c.in_err-bytes.was)

pub returns-in_err-bytes-clause-line_in_bounds : goal.returns-in_err-bytes-clause-line_in_bounds
returns-in_err-bytes-clause-line_in_bounds c = let s : c.from_residual.result ≡ Err c.in_err-bytes.field-0.0 = search rules in rw s (wrong_line c.args.csv.now c.args.caller c.args.out.now (omega arith) c.size_of.ensures c.in_err-bytes.was)

pub returns-then-out-bytes-clause-converts : goal.returns-then-out-bytes-clause-converts
returns-then-out-bytes-clause-converts c = too_short _ _ _ (omega arith) c.size_of.ensures c.in_ok-bytes.was (omega arith)

pub write-requires : goal.write-requires
write-requires c = fitting _ _ _ (omega arith) c.size_of.ensures c.in_ok-bytes.was (omega arith)

pub returns-clause-converts : goal.returns-clause-converts
returns-clause-converts c = all_written _ _ _ (omega arith) c.size_of.ensures c.in_ok-bytes.was (omega arith) c.write.ensures
