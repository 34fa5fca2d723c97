-- What the player promises of a journal: the printed text, and the words that it leaves.
use Rattle.std.specs.Prelude.{◌≡◌, true, false, List, ℕ, ◌≤◌, ltb, length, take}
use Rattle.mtas.specs.Monitor.{initial_words}
use Rattle.mtas.specs.Histories.{final}
use Rattle.mtas.specs.Journal.{read_journal, output, journal_limit}
use Rattle.lines.specs.Text.{text_of_all}

-- the bytes for the text of any journal: a line of 28 for each of at most 13,107 records, and a last one of 64
abbrev pub room : ℕ
room = 367060

-- the words that a journal leaves: one that is too long isn't played
unfoldable pub left_by : List ℕ → List ℕ → List ℕ
left_by ws journal = elim (ltb journal_limit (length journal)) [ true ↦ ws | false ↦ final initial_words (read_journal journal).records ]

-- bytes of out behind the text are the player's own
pub record Played (before journal after : List ℕ) (used : ℕ) (out : List ℕ) : Type 0 where
  pub inside : used ≤ length out
  pub text : take used out ≡ text_of_all (output journal)
  pub words : after ≡ left_by before journal
