-- The forty-one cycles, as a case: a neighbour's press runs while its owner is trusted, and stands still when trust has ended.
use Rattle.std.specs.Prelude.{◌≡◌, List, [], ◌∷◌, ◌++◌, ℕ, zero, suc, ◌*◌, replicate, get_or, set}
use Rattle.std.proofs.Math.Option.{some}
use Rattle.std.proofs.Math.ListN.{get_elem?}
use Rattle.mtas.specs.Layout.{encode}
use Rattle.mtas.specs.Record.{record_of}
use Rattle.mtas.specs.Histories.{History, final}
use Rattle.press_house.specs.Cases.{S}
use Rattle.press.specs.Stages.{idle, pressing, load, start, pause, resume, empty}
use Rattle.press.specs.Floor.{Request, floor}

-- from S, where 0 trusts 1, and 0#2 is public and active in 0/4: 1 adds its permissions 0 to 4, one for each action, and grants them to 0#2
abbrev pub granting : History
granting =
    record_of 9 1 (0 ∷ []) ∷ record_of 9 1 (1 ∷ []) ∷ record_of 9 1 (2 ∷ []) ∷ record_of 9 1 (3 ∷ []) ∷ record_of 9 1 (4 ∷ [])
    ∷ record_of 13 1 (0 ∷ 0 ∷ 2 ∷ []) ∷ record_of 13 1 (1 ∷ 0 ∷ 2 ∷ []) ∷ record_of 13 1 (2 ∷ 0 ∷ 2 ∷ []) ∷ record_of 13 1 (3 ∷ 0 ∷ 2 ∷ []) ∷ record_of 13 1 (4 ∷ 0 ∷ 2 ∷ [])
    ∷ []

abbrev pub granted_words : List ℕ
granted_words = final (encode S) granting

-- then 0 withdraws its trust in 1
abbrev pub withdrawing : History
withdrawing = granting ++ (record_of 4 0 (1 ∷ []) ∷ [])

abbrev pub withdrawn_words : List ℕ
withdrawn_words = final (encode S) withdrawing

-- press 7 is 1's, the others are 0's, and all are idle
abbrev pub owners : List ℕ
owners = set (replicate 32 0) 7 1

abbrev pub all_idle : List ℕ
all_idle = replicate 32 idle

-- press 7 at a stage
abbrev pub at : ℕ → List ℕ
at t = set all_idle 7 t

-- an action on press 7 for the session 0/4, and a cycle of them
abbrev pub on_7 : ℕ → Request
on_7 a = record { press = 7; action = a; issuer = 0; session = 4 }

abbrev pub cycle : List Request
cycle = on_7 load ∷ on_7 start ∷ on_7 pause ∷ on_7 resume ∷ on_7 pause ∷ on_7 empty ∷ []

-- requests n times over
unfoldable pub times : ℕ → List Request → List Request
times zero l = []
times (suc n) l = l ++ times n l

-- an action at a stage of press 7, the error, and the stage then
pub data Try : Type 0 where
  try : ℕ → ℕ → ℕ → ℕ → Try

-- every action at every stage, in the card's numbers
abbrev pub tries : List Try
tries =
    try 0 0 0 1 ∷ try 1 0 19 0 ∷ try 2 0 19 0 ∷ try 3 0 19 0 ∷ try 4 0 19 0
    ∷ try 0 1 19 1 ∷ try 1 1 0 2 ∷ try 2 1 19 1 ∷ try 3 1 19 1 ∷ try 4 1 0 0
    ∷ try 0 2 19 2 ∷ try 1 2 19 2 ∷ try 2 2 0 3 ∷ try 3 2 19 2 ∷ try 4 2 19 2
    ∷ try 0 3 19 3 ∷ try 1 3 19 3 ∷ try 2 3 19 3 ∷ try 3 3 0 2 ∷ try 4 3 0 0
    ∷ []

abbrev pub Tried : List Try → Type 0
Tried [] = Unit
Tried (try a s n t ∷ l) = (floor granted_words owners (at s) (on_7 a ∷ []) ≡ record { errors = n ∷ []; stages = at t }) × Tried l

pub record Cycles : Type 0 where
  pub all_tried : Tried tries
  -- forty-one cycles, or any number of them: every action goes ahead, and the press is idle again
  pub run : (n : ℕ) → floor granted_words owners all_idle (times n cycle) ≡ record { errors = replicate (6 * n) 0; stages = all_idle }
  -- after the withdrawal none does: the desk's verdict is 0, error 18
  pub stand_still : (n : ℕ) → floor withdrawn_words owners all_idle (times n cycle) ≡ record { errors = replicate (6 * n) 18; stages = all_idle }
  -- a press that was pressing when trust ended stays so, however often it is told to pause
  pub left_pressing : (n : ℕ) → floor withdrawn_words owners (at pressing) (times n (on_7 pause ∷ [])) ≡ record { errors = replicate (1 * n) 18; stages = at pressing }
  -- whatever 0 asks of press 7, at any stages, and whoever asks what of the others
  pub never_again : (stages : List ℕ) (l : List Request) → ((n : ℕ) (q : Request) → get_elem? l n ≡ some q → q.press ≡ 7 → q.issuer ≡ 0)
      → get_or (floor withdrawn_words owners stages l).stages 7 0 ≡ get_or stages 7 0
