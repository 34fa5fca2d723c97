-- What the code's own types stand for, in the card's numbers.
use Rattle.std.specs.Prelude.{◌≡◌, ℕ, ◌<◌, Option, Some, None, Result, Ok, Err, MatchResult}
use Rattle.press.specs.Stages as card
use Rattle.press.specs.declared.Error.{Error}
use Rattle.press.specs.declared.Error.TheVariants.{Misfit, TurnedAway, WrongStage}
use Rattle.press.specs.declared.stage.Stage.{Stage}
use Rattle.press.specs.declared.stage.Stage.TheVariants.{Idle, Loaded, Pressing, Held}
use Rattle.press.specs.declared.stage.Action.{Action}
use Rattle.press.specs.declared.stage.Action.TheVariants.{Load, Start, Pause, Resume, Empty}

abbrev pub stage_number : Stage → ℕ
stage_number Idle = card.idle
stage_number Loaded = card.loaded
stage_number Pressing = card.pressing
stage_number Held = card.held

abbrev pub action_number : Action → ℕ
action_number Load = card.load
action_number Start = card.start
action_number Pause = card.pause
action_number Resume = card.resume
action_number Empty = card.empty

-- 'Errors, in this order': 17, 18 and 19
abbrev pub number_of : Error → ℕ
number_of Misfit = 17
number_of TurnedAway = 18
number_of WrongStage = 19

-- 0 where the action went ahead
abbrev pub error_of : Result Unit Error → ℕ
error_of (Ok u) = 0
error_of (Err e) = number_of e

-- the stage with this number, of which there are four
abbrev pub IsStage : ℕ → Result Stage Error → Type 0
IsStage n r = MatchResult r (λ s. stage_number s ≡ n) (λ e. (e ≡ Misfit) × (3 < n))

-- the action with this number, of which there are five
abbrev pub IsAction : ℕ → Result Action Error → Type 0
IsAction n r = MatchResult r (λ a. action_number a ≡ n) (λ e. (e ≡ Misfit) × (4 < n))

-- where an action leads
abbrev pub next_of : Option Stage → card.Next
next_of (Some s) = card.to (stage_number s)
next_of None = card.wrong_stage
