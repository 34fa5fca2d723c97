-- `record::decode` meets its contract: the tests that led to a `return` say which case of the model's `decode` holds.
use Rattle.std.proofs.Common.{sym, arith}
use Rattle.mtas.proofs.Record.{short}
use Rattle.record.proofs.Bytes.{empty, wrong_length, right_length, decodes}
use Rattle.record.proofs.decode.Goals as goal

pub returns-then-length-eq0 : goal.returns-then-length-eq0
returns-then-length-eq0 c = decodes _ (empty _ (omega arith))

pub returns-then-length-lt-HEADER : goal.returns-then-length-lt-HEADER
returns-then-length-lt-HEADER c = decodes _ (sym (short _ (omega arith) (omega arith)))

pub returns-then-two_bytes-length : goal.returns-then-two_bytes-length
returns-then-two_bytes-length c = decodes _ (wrong_length _ (omega arith) (λ q. omega arith))

pub returns : goal.returns
returns c = decodes _ (search right_length)
