-- Card 7's cases: computed on states, and carried to words and bytes.
use mathlib.Core.Path.{refl}
use mathlib.Core.Bool.{decide}
use native.Mathlib.Decide.{ℕ_discrete}
use Rattle.bits.specs.Below.{any_below, find_below, lowest_below}
use Rattle.mtas.specs.Fact.{same}
use Rattle.mtas.specs.Needs.{exposed}
use Rattle.mtas.specs.State.{listed, put, cut}
use Rattle.mtas.specs.Hierarchy.{within}
use Rattle.mtas.specs.Settle.{authorized, settle}
use Rattle.mtas.specs.Answer.{first_cause, outcome, may_use_through, lowest_role, lookup, answer, next}
use Rattle.mtas.specs.Record.{decode}
use Rattle.press_house.specs.Cases.{Every}
use Rattle.press_house.specs.Through.{through_cases}
use Rattle.press_house.proofs.Cases.{after_all, EveryOnStates, every}

through : EveryOnStates through_cases
unfolding after_all decode answer next outcome first_cause may_use_through lowest_role lookup authorized settle within put cut listed same exposed decide ℕ_discrete any_below find_below lowest_below
through = ((refl, tt), ((refl, tt), ((refl, tt), ((refl, tt), ((refl, tt), ((refl, tt), ((refl, tt), ((refl, tt), ((refl, tt), ((refl, tt), ((refl, tt), ((refl, tt), ((refl, tt), tt)))))))))))))

pub through_hold : Every through_cases
through_hold = every through_cases through
