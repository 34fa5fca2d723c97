-- Document 01's journal, and what it prints.
use Rattle.std.specs.Prelude.{List, [], ◌∷◌, ℕ}
use Rattle.mtas.specs.Journal.{Line, played, end}

abbrev pub example_journal : List ℕ
example_journal =
    6 ∷ 0 ∷ 1 ∷ 0 ∷ 16 ∷ 0 ∷ 6 ∷ 0 ∷ 1 ∷ 0 ∷ 16 ∷ 1 ∷ 6 ∷ 0 ∷ 7 ∷ 0 ∷ 0 ∷ 2 ∷ 8 ∷ 0 ∷ 13 ∷ 0 ∷ 1 ∷ 5 ∷ 0 ∷ 2
    ∷ 6 ∷ 0 ∷ 3 ∷ 0 ∷ 0 ∷ 1 ∷ 8 ∷ 0 ∷ 13 ∷ 0 ∷ 1 ∷ 5 ∷ 0 ∷ 2 ∷ []

abbrev pub example_lines : List Line
example_lines =
    played 1 1 16 0 0
    ∷ played 2 1 16 0 0
    ∷ played 3 7 0 0 0
    ∷ played 4 13 1 9 0
    ∷ played 5 3 0 0 0
    ∷ played 6 13 1 10 0
    ∷ end 6 ∷ []
