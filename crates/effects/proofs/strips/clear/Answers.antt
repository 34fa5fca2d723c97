-- `effects::strips::clear` meets its contract: a fact of one word.
use Rattle.effects.proofs.Masking.{strip_by_strip}
use Rattle.effects.proofs.strips.clear.Goals as goal

pub returns-in-Holds : goal.returns-in-Holds
returns-in-Holds c = rw c.in-Holds.is (search strip_by_strip)

pub returns-in-Granted : goal.returns-in-Granted
returns-in-Granted c = rw c.in-Granted.is (search strip_by_strip)

pub returns-in-Attached : goal.returns-in-Attached
returns-in-Attached c = rw c.in-Attached.is (search strip_by_strip)
