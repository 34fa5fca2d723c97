-- The errors by their causes, each said without a test: which is given, and never otherwise (Card 6).
use Rattle.std.specs.Prelude.{◌≡◌, ◌↔◌, ◌≢◌, List, ℕ, ◌<◌, length, get_or}
use Rattle.mtas.specs.Monitor.{monitor}
use Rattle.press.specs.Acted.{question, act}

-- 'load (0 to 1), start (1 to 2), pause (2 to 3), resume (3 to 2), empty (1 or 3 to 0)', in the card's numbers
pub data Leads : ℕ → ℕ → ℕ → Type 0 where
  loads : Leads 0 0 1
  starts : Leads 1 1 2
  pauses : Leads 2 2 3
  resumes : Leads 3 3 2
  empties_loaded : Leads 4 1 0
  empties_held : Leads 4 3 0

-- 17
pub data Misfit (owners stages : List ℕ) (press action : ℕ) : Type 0 where
  owners_not_32 : length owners ≢ 32 → Misfit owners stages press action
  stages_not_32 : length stages ≢ 32 → Misfit owners stages press action
  press_above_31 : 31 < press → Misfit owners stages press action
  action_above_4 : 4 < action → Misfit owners stages press action
  owner_above_15 : (k : ℕ) → 15 < get_or owners k 0 → Misfit owners stages press action
  stage_above_3 : (k : ℕ) → 3 < get_or stages k 0 → Misfit owners stages press action

-- 18, the desk being called by the press's owner
pub data TurnedAway (ws : List ℕ) (owner action i s : ℕ) : Type 0 where
  verdict_0 : (monitor ws (question owner action i s)).answer.verdict ≡ 0 → TurnedAway ws owner action i s
  desk_refusal : (monitor ws (question owner action i s)).answer.refusal ≢ 0 → TurnedAway ws owner action i s

-- 19
abbrev pub WrongStage : ℕ → ℕ → Type 0
WrongStage action stage = (t : ℕ) → Leads action stage t → ⊥

-- 'Errors, in this order': which is given to an action on a press for the session i/s, 0 for none
pub data Given (ws owners stages : List ℕ) (press action i s : ℕ) : ℕ → Type 0 where
  misfits : Misfit owners stages press action → Given ws owners stages press action i s 17
  is_turned_away : (Misfit owners stages press action → ⊥) → TurnedAway ws (get_or owners press 0) action i s → Given ws owners stages press action i s 18
  at_wrong_stage : (Misfit owners stages press action → ⊥) → (TurnedAway ws (get_or owners press 0) action i s → ⊥) → WrongStage action (get_or stages press 0)
      → Given ws owners stages press action i s 19
  goes_ahead : (Misfit owners stages press action → ⊥) → (TurnedAway ws (get_or owners press 0) action i s → ⊥) → (WrongStage action (get_or stages press 0) → ⊥)
      → Given ws owners stages press action i s 0

-- 'Action a goes ahead exactly when no error below applies', and each error is given where it is the first that does
abbrev pub Errors : Type 0
Errors = (ws owners stages : List ℕ) (press action i s n : ℕ) → ((act ws owners stages press action i s).error ≡ n) ↔ Given ws owners stages press action i s n
