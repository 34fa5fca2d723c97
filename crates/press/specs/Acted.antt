-- What an action on a press is answered, and what it leaves (Card 6).
use Rattle.std.specs.Prelude.{Bool, true, false, not, ◌||◌, List, [], ◌∷◌, ℕ, eqb, ltb, length, get_or, set}
use Rattle.std.specs.List.{list_any}
use Rattle.mtas.specs.Answer.{Answer}
use Rattle.mtas.specs.Call.{CheckAccess}
use Rattle.mtas.specs.Record.{encode_call}
use Rattle.mtas.specs.Monitor.{monitor}
use Rattle.press.specs.Stages.{Next, to, wrong_stage, next_stage}

-- some byte of the list is above n
abbrev pub some_above : ℕ → List ℕ → Bool
some_above n l = list_any (λ b. ltb n b) l

-- some test of the list is true
abbrev pub some_of : List Bool → Bool
some_of [] = false
some_of (b ∷ l) = b || some_of l

-- 17: 'a list not 32 bytes, press above 31, action above 4, any owner above 15 or any stage above 3'
unfoldable pub misfit : List ℕ → List ℕ → ℕ → ℕ → Bool
misfit owners stages press action =
    some_of
    (not (eqb (length owners) 32) ∷ not (eqb (length stages) 32)
    ∷ ltb 31 press
    ∷ ltb 4 action
    ∷ some_above 15 owners ∷ some_above 3 stages ∷ [])

-- the record that the desk is handed: kind 21, 'called by the owner, .. for the owner's permission a and a given session i/s'
abbrev pub question : ℕ → ℕ → ℕ → ℕ → List ℕ
question owner action i s = encode_call owner (CheckAccess action i s)

-- 18: 'verdict 0 or a desk refusal'
abbrev pub turned_away : Answer → Bool
turned_away a = eqb a.verdict 0 || not (eqb a.refusal 0)

-- the error, 0 for none, and what is left of the stages and of the state's words
pub record Result : Type 0 where
  pub error : ℕ
  pub stages : List ℕ
  pub words : List ℕ

abbrev pub ends_in : ℕ → List ℕ → List ℕ → Result
ends_in error stages words = record { error = error; stages = stages; words = words }

-- 'Only that press's stage byte changes then, and otherwise none'; 19: 'wrong stage'
abbrev pub moved : Next → ℕ → List ℕ → List ℕ → Result
moved (to t) press stages ws = ends_in 0 (set stages press t) ws
moved wrong_stage press stages ws = ends_in 19 stages ws

-- 'Errors, in this order', with the desk's answer
unfoldable pub acted : Answer → List ℕ → List ℕ → List ℕ → ℕ → ℕ → Result
acted answer ws owners stages press action =
    elim (misfit owners stages press action) [
      | true ↦ ends_in 17 stages ws
      | false ↦
          elim (turned_away answer) [
            | true ↦ ends_in 18 stages ws
            | false ↦ moved (next_stage action (get_or stages press 0)) press stages ws
          ]
    ]

-- an action on a press for the session i/s: on a state of any words, with lists of any length
unfoldable pub act : List ℕ → List ℕ → List ℕ → ℕ → ℕ → ℕ → ℕ → Result
act ws owners stages press action i s = acted (monitor ws (question (get_or owners press 0) action i s)).answer ws owners stages press action
