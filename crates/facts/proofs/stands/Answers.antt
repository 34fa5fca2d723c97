-- `facts::stands` meets its contract: a fact's place lies within the words, and says it.
use mathlib.Core.Path.{refl}
use Rattle.facts.proofs.Places.{inside, stands_as}
use Rattle.facts.proofs.stands.Goals as goal

pub says_at-requires : goal.says_at-requires
says_at-requires c = inside _ c.place_of.ensures c.in-Some.is

pub returns-in-Some : goal.returns-in-Some
returns-in-Some c = stands_as _ c.place_of.ensures _ c.in-Some.is c.says_at.ensures

pub returns-in-None : goal.returns-in-None
returns-in-None c = stands_as _ c.place_of.ensures _ c.in-None.is refl
