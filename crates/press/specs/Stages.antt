-- A press's stages, and the actions that lead from one to another (document 02, Card 6).
use Rattle.std.specs.Prelude.{true, false, ◌&&◌, List, [], ◌∷◌, ℕ, eqb}

-- 'idle 0, loaded 1, pressing 2, held 3'
abbrev pub idle : ℕ
idle = 0

abbrev pub loaded : ℕ
loaded = 1

abbrev pub pressing : ℕ
pressing = 2

abbrev pub held : ℕ
held = 3

-- 'Actions 0 to 4 are load .., start .., pause .., resume .., empty'
abbrev pub load : ℕ
load = 0

abbrev pub start : ℕ
start = 1

abbrev pub pause : ℕ
pause = 2

abbrev pub resume : ℕ
resume = 3

abbrev pub empty : ℕ
empty = 4

-- an action, a stage that it is right for, and the stage that it leads to
pub record Move : Type 0 where
  pub action : ℕ
  pub from : ℕ
  pub to : ℕ

abbrev move : ℕ → ℕ → ℕ → Move
move a s t = record { action = a; from = s; to = t }

-- 'load (0 to 1), start (1 to 2), pause (2 to 3), resume (3 to 2), empty (1 or 3 to 0)'
abbrev pub moves : List Move
moves =
    move load idle loaded
    ∷ move start loaded pressing
    ∷ move pause pressing held
    ∷ move resume held pressing
    ∷ move empty loaded idle
    ∷ move empty held idle
    ∷ []

-- where an action leads from a stage
pub data Next : Type 0 where
  to : ℕ → Next
  wrong_stage : Next

unfoldable pub next_in : List Move → ℕ → ℕ → Next
next_in [] a s = wrong_stage
next_in (m ∷ l) a s = elim (eqb a m.action && eqb s m.from) [ true ↦ to m.to | false ↦ next_in l a s ]

abbrev pub next_stage : ℕ → ℕ → Next
next_stage a s = next_in moves a s
