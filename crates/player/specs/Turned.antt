-- What a turn of the player does with what it found at a byte place: it plays a whole record, and prints a line.
use Rattle.std.specs.Prelude.{◌≡◌, List, ℕ, ◌+◌, ◌≤◌, take}
use Rattle.mtas.specs.Monitor.{monitor}
use Rattle.mtas.specs.Journal.{Line, end, broken, line_of}
use Rattle.journal.specs.declared.Found.{Found}
use Rattle.journal.specs.declared.Found.TheVariants.{NoMore, Whole, Partial}
use Rattle.lines.specs.Text.{text_of}
use Rattle.lines.specs.Written.{Exactly}
use Rattle.lines.specs.declared.buffer.Buffer.{Buffer}

-- the line that is printed behind so many records; left is the bytes from the place on
abbrev pub line_at : List ℕ → List ℕ → ℕ → ℕ → Found → Line
line_at ws left at count NoMore = end count
line_at ws left at count (Whole len) = line_of (count + 1) (take len left) (monitor ws (take len left))
line_at ws left at count Partial = broken at

-- the words that are left
abbrev pub words_at : List ℕ → List ℕ → Found → List ℕ
words_at ws left NoMore = ws
words_at ws left (Whole len) = (monitor ws (take len left)).words
words_at ws left Partial = ws

pub record Turned (before left : List ℕ) (at count : ℕ) (found : Found) (after : List ℕ) (line : Buffer) : Type 0 where
  pub words : after ≡ words_at before left found
  pub text : Exactly line (text_of (line_at before left at count found))
  pub short : line.len ≤ 28
