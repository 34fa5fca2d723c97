-- `effects::change` meets its contract: an accepted call's effect may be done, and leaves what the model says.
use Rattle.effects.proofs.Acts.{has_put, has_enrolled, may_cut, has_cut, has_kept, has_decided}
use Rattle.mtas.proofs.LawTest.{lawful_words-complete}
use Rattle.effects.proofs.change.Goals as goal

pub cut-requires : goal.cut-requires
cut-requires c = search may_cut

pub returns-in-Enrols : goal.returns-in-Enrols
returns-in-Enrols c = search has_enrolled

pub returns-in-Puts : goal.returns-in-Puts
returns-in-Puts c = search has_put

pub returns-then-may_break : goal.returns-then-may_break
returns-then-may_break c = has_cut c.requires.0 c.effect_on.ensures c.in-Cuts.is c.cut.ensures c.settle.ensures c.sixteen_bits.ensures

pub returns-else-may_break : goal.returns-else-may_break
returns-else-may_break c = search has_kept

pub returns-in-Decides : goal.returns-in-Decides
returns-in-Decides c = search has_decided

pub invariant_of-effect_on : goal.invariant_of-effect_on
invariant_of-effect_on c = record { lawful = lawful_words-complete _ c.requires.0.lawful }
