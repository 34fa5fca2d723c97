-- `Buffer::append_to` meets its contract: the line stands at its place, and what is before and behind it is as it was.
use Rattle.std.proofs.Common.{rules}
use Rattle.std.proofs.lemmas.Slice.{overwrites}
use Rattle.lines.proofs.buffer.Buffer.append_to.Goals as goal

pub returns : goal.returns
returns c = search (rules, overwrites)
