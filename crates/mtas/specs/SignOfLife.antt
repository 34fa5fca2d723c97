-- The press's sign of life (document 02, Card 4): 'A press with nothing to report hands in a record of zero bytes.'
-- That a journal hands in none, since 'a length below 5 is broken as before', is in Journal (`broken_behind`, `all_whole`).
use Rattle.std.specs.Prelude.{◌≡◌, List, [], ◌∷◌, ◌++◌, Bool, ℕ, ◌<◌, length}
use Rattle.mtas.specs.Call.{Call}
use Rattle.mtas.specs.Hierarchy.{◌#◌}
use Rattle.mtas.specs.Layout.{state_length}
use Rattle.mtas.specs.LawTest.{LawfulWords}
use Rattle.mtas.specs.Record.{encode_call}
use Rattle.mtas.specs.Monitor.{turned_down, monitor}
use Rattle.mtas.specs.Histories.{History, final, answers}

pub record SignOfLife : Type 0 where
  -- 'It is now accepted with verdict 0 and changes no word'
  pub accepted : (ws : List ℕ) → LawfulWords ws → monitor ws [] ≡ record { answer = record { refusal = 0; verdict = 0; through = 255 # 255 }; words = ws }
  -- 'States of wrong length or law still give 1 or 2'
  pub wrong_length : (ws : List ℕ) → (length ws ≡ state_length → ⊥) → monitor ws [] ≡ turned_down 1 ws
  pub not_lawful : (ws : List ℕ) → length ws ≡ state_length → (LawfulWords ws → ⊥) → monitor ws [] ≡ turned_down 2 ws
  -- 'In 01's refusal 3, under 5 bytes becomes 1 to 4 bytes'
  pub short : (ws b : List ℕ) → LawfulWords ws → 0 < length b → length b < 5 → monitor ws b ≡ turned_down 3 ws
  -- 3 for every other record that is no call's: nothing else is a sign of life
  pub no_other : (ws b : List ℕ) → LawfulWords ws → (b ≡ [] → ⊥) → ((c : ℕ) (k : Call) → b ≡ encode_call c k → ⊥) → monitor ws b ≡ turned_down 3 ws
  -- in demand 3 it 'counts as an outsider's' (Remaining.empty): the answers that are compared and the words at the end are those of the history without it
  pub same_answers : (member : ℕ → Bool) (ws : List ℕ) (h k : History) → answers member ws (h ++ ([] ∷ k)) ≡ answers member ws (h ++ k)
  pub same_end : (ws : List ℕ) (h k : History) → final ws (h ++ ([] ∷ k)) ≡ final ws (h ++ k)
