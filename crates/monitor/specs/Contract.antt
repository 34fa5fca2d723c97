-- What an entry point promises: the answer, every number of it, and every word that it leaves are the definition's.
use Rattle.std.specs.Prelude.{◌≡◌, List, ℕ, Option, Result, Ok, Err}
use Rattle.mtas.specs.Hierarchy.{◌#◌}
use Rattle.mtas.specs.Answer as model
use Rattle.mtas.specs.Monitor as desk
use Rattle.rule.specs.declared.Refusal.{Refusal}
use Rattle.rule.specs.Refusal.{number_of}
use Rattle.hierarchy.specs.declared.lowest.Role.{Role}
use Rattle.hierarchy.specs.Lowest.{found_of}
use Rattle.monitor.specs.declared.Answer.{Answer}

-- document 01's numbers of an outcome
abbrev pub answer_of : Result (Option Role) Refusal → model.Answer
answer_of (Err e) = model.refuses (number_of e)
answer_of (Ok found) = model.accepts (found_of found)

-- the four numbers
abbrev pub numbers : Answer → model.Answer
numbers a = record { refusal = a.refusal; verdict = a.verdict; through = a.issuer # a.role }

pub record Gives (defined : desk.Result) (answer : model.Answer) (words : List ℕ) : Type 0 where
  pub same_answer : answer ≡ defined.answer
  pub same_words : words ≡ defined.words
