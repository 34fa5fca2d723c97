-- What document 01's journal prints: computed on states, and carried to words.
use mathlib.Core.Path.{◌≡◌, refl, ap, ◌∙◌}
use mathlib.Core.List.{List, [], ◌∷◌, ◌++◌}
use mathlib.Core.Bool.{decide}
use Prim.Native.Nat.{ℕ, suc}
use native.Mathlib.Decide.{ℕ_discrete}
use Rattle.bits.specs.Below.{any_below, find_below, lowest_below}
use Rattle.mtas.specs.Fact.{same}
use Rattle.mtas.specs.State.{State, nothing, listed, put, cut}
use Rattle.mtas.specs.Hierarchy.{within}
use Rattle.mtas.specs.Law.{Lawful}
use Rattle.mtas.specs.Answer.{first_cause, outcome, may_use_through, lowest_role, lookup, answer, next}
use Rattle.mtas.specs.Layout.{encode}
use Rattle.mtas.specs.Record.{decode}
use Rattle.mtas.specs.Monitor.{answered, state_after}
use Rattle.mtas.specs.Histories.{History}
use Rattle.mtas.specs.Journal.{first_of, Reading, read_from, read_journal, Line, line_of, lines_from, last_line, output}
use Rattle.press_house.specs.Journal.{example_journal, example_lines}
use Rattle.mtas.proofs.Law.{nothing_lawful}
use Rattle.mtas.proofs.Monitor.{initial-is-nothing, monitor-encode, state_after-lawful}

-- ---- the lines of records played on states
unfoldable state_lines : ℕ → State → History → List Line
state_lines place st [] = []
state_lines place st (b ∷ h) =
    line_of place b (record { answer = answered st (decode b); words = [] }) ∷ state_lines (suc place) (state_after st (decode b)) h

lines_are : (h : History) (place : ℕ) (st : State) → Lawful st → lines_from place (encode st) h ≡ state_lines place st h
unfolding lines_from state_lines
lines_are [] place st L = refl
lines_are (b ∷ h) place st L =
    rw (monitor-encode st L b)
    (ap (λ l. line_of place b (record { answer = answered st (decode b); words = [] }) ∷ l) (lines_are h (suc place) (state_after st (decode b)) (state_after-lawful st L (decode b))))

abbrev read_example : Reading
read_example = read_journal example_journal

abbrev ends : List Line → List Line
ends l = l ++ (last_line read_example.records read_example.ending ∷ [])

computed : ends (state_lines 1 nothing read_example.records) ≡ example_lines
unfolding state_lines read_from first_of decode answer next outcome first_cause may_use_through lowest_role lookup within put cut listed same decide ℕ_discrete any_below find_below lowest_below
computed = refl

pub journal_prints : output example_journal ≡ example_lines
unfolding output
journal_prints =
    ap (λ ws. ends (lines_from 1 ws read_example.records)) initial-is-nothing
    ∙ ap ends (lines_are read_example.records 1 nothing nothing_lawful)
    ∙ computed
