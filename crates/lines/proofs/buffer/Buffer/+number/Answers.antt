-- `Buffer::number` meets its contract: a number of one digit is its digit, and another is the digits of its tenth and its last digit.
use Rattle.std.proofs.Common.{◌/◌, arith}
use Rattle.lines.proofs.Decimal.{few}
use Rattle.lines.proofs.Writing.{put_small, put_step}
use Rattle.lines.proofs.buffer.Buffer.+number.Goals as goal

pub byte-requires-else-n-lt10 : goal.byte-requires-else-n-lt10
byte-requires-else-n-lt10 t c = omega (arith, few 8 (c.args.n / 10) (omega arith))

pub returns-then-n-lt10-clause-extends : goal.returns-then-n-lt10-clause-extends
returns-then-n-lt10-clause-extends t c = put_small c.args.n (omega arith) c.byte.ensures

pub returns-else-n-lt10-clause-extends : goal.returns-else-n-lt10-clause-extends
returns-else-n-lt10-clause-extends t c = (put_step c.args.n (omega arith) (omega arith) c.number.ensures.extends c.byte-else-n-lt10.ensures).0

pub returns-else-n-lt10-clause-len_bound : goal.returns-else-n-lt10-clause-len_bound
returns-else-n-lt10-clause-len_bound t c = (put_step c.args.n (omega arith) (omega arith) c.number.ensures.extends c.byte-else-n-lt10.ensures).1
