-- A printed line as bytes, with its line end.
use Rattle.std.specs.Prelude.{List, [], ◌∷◌, ◌++◌, ℕ}
use Rattle.mtas.specs.Journal.{Line, played, end, broken, long}
use Rattle.lines.specs.Decimal.{decimal}

-- a number and the space behind it
abbrev pub field : ℕ → List ℕ
field n = decimal n ++ (32 ∷ [])

unfoldable pub text_of : Line → List ℕ
text_of (played place kind caller refusal verdict) = field place ++ field kind ++ field caller ++ field refusal ++ decimal verdict ++ (10 ∷ [])
text_of (end n) = (101 ∷ 110 ∷ 100 ∷ 32 ∷ []) ++ decimal n ++ (10 ∷ [])
text_of (broken at) = (98 ∷ 114 ∷ 111 ∷ 107 ∷ 101 ∷ 110 ∷ 32 ∷ []) ++ decimal at ++ (10 ∷ [])
text_of long = 108 ∷ 111 ∷ 110 ∷ 103 ∷ 10 ∷ []

unfoldable pub text_of_all : List Line → List ℕ
text_of_all [] = []
text_of_all (l ∷ ls) = text_of l ++ text_of_all ls

-- a line of the sheet program: an error and the line that it tells
abbrev pub error_text : ℕ → ℕ → List ℕ
error_text error line = field error ++ decimal line ++ (10 ∷ [])
