-- `effects::strips::clear_issuer` meets its contract.
use Rattle.effects.proofs.Masking.{strip_by_strip}
use Rattle.effects.proofs.strips.clear_issuer.Goals as goal

pub returns : goal.returns
returns c = search strip_by_strip depth 30
