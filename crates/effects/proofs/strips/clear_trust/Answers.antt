-- `effects::strips::clear_trust` meets its contract.
use Rattle.effects.proofs.Masking.{strip_by_strip}
use Rattle.effects.proofs.strips.clear_trust.Goals as goal

pub returns : goal.returns
returns c = search strip_by_strip depth 30
