-- The reference monitor (document 01's desk) on words: starting, and a record played on a state.
use Rattle.std.specs.Prelude.{List, true, false, ℕ, eqb, length}
use Rattle.std.proofs.Math.Option.{none}
use Rattle.bits.specs.Below.{tabulate}
use Rattle.mtas.specs.State.{State}
use Rattle.mtas.specs.Answer.{Answer, accepts, refuses, answer, next}
use Rattle.mtas.specs.Layout.{Cell, sixteen, its_user, in_session, cell, word_at, state_length, view, encode}
use Rattle.mtas.specs.LawTest.{lawful_words}
use Rattle.mtas.specs.Record.{Request, sign_of_life, undecodable, request, bytes_refusal, decode}

-- a call's answer, and the words that it leaves
pub record Result : Type 0 where
  pub answer : Answer
  pub words : List ℕ

-- refused for n: the words are handed back
abbrev pub turned_down : ℕ → List ℕ → Result
turned_down n ws = record { answer = refuses n; words = ws }

-- 'Starting writes 65535 as each session's user and 0 elsewhere'
abbrev pub initial : Cell → ℕ
initial (sixteen f) = 0
initial (its_user i s) = 65535
initial (in_session i s f) = 0

unfoldable pub initial_words : List ℕ
initial_words = tabulate state_length (λ k. initial (cell (word_at k)))

-- 'Starting gives only 0 or 1'
unfoldable pub start : List ℕ → Result
start ws = elim (eqb (length ws) state_length) [ false ↦ turned_down 1 ws | true ↦ record { answer = accepts none; words = initial_words } ]

-- a decoded record on a lawful state: 'accepted with verdict 0' and 'changes no word', refusal 3, or the table's answer
abbrev pub answered : State → Request → Answer
answered st sign_of_life = refuses (bytes_refusal sign_of_life)
answered st undecodable = refuses (bytes_refusal undecodable)
answered st (request c k) = answer st c k

abbrev pub state_after : State → Request → State
state_after st sign_of_life = st
state_after st undecodable = st
state_after st (request c k) = next st c k

-- a record of any bytes on a state of any words
unfoldable pub monitor : List ℕ → List ℕ → Result
monitor ws record-bytes =
    elim (eqb (length ws) state_length) [
      | false ↦ turned_down 1 ws
      | true ↦
          elim (lawful_words ws) [
            | false ↦ turned_down 2 ws
            | true ↦
                record { answer = answered (view ws) (decode record-bytes); words = encode (state_after (view ws) (decode record-bytes)) }
          ]
    ]
