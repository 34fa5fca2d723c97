-- A record played on the lent words: each way out of `call` is what the definition says.
use Rattle.std.proofs.Common.{◌≡◌, refl, ap, sym, ◌∙◌, Bool, true, false, ℕ, List, length}
use Rattle.std.specs.Prelude.{not, Result, Ok, Err, Option}
use borrow.Author.Tests.{eq-eqb, ne_eqb, not-true, not-false}
use Rattle.mtas.specs.Call as model
use Rattle.mtas.specs.State.{State, user_of}
use Rattle.mtas.specs.Rule.{rule}
use Rattle.mtas.specs.Answer.{Answer, accepts, refuses, accepted, refused, outcome, found, answer, next}
use Rattle.mtas.specs.Layout.{state_length, view, encode}
use Rattle.mtas.specs.LawTest.{LawfulWords, lawful_words}
use Rattle.mtas.specs.Record.{sign_of_life, undecodable, decode}
use Rattle.mtas.specs.Monitor.{answered, state_after, monitor}
use Rattle.mtas.proofs.LawTest.{lawful_words-sound}
use Rattle.mtas.proofs.Monitor.{monitor-lawful, monitor-idle}
use Rattle.mtas.proofs.Words.{encode-view}
use Rattle.mtas.proofs.Step.{refused-answer, refused_equal}
use Rattle.record.specs.Decoded.{call_of, request_of, Decodes}
use Rattle.record.specs.declared.Request.{Request}
use Rattle.record.specs.declared.Decoded.{Decoded}
use Rattle.record.specs.declared.Decoded.TheVariants.{Request as Requested, Undecodable, SignOfLife}
use Rattle.rule.specs.declared.Refusal.{Refusal}
use Rattle.rule.specs.Refusal.{number_of}
use Rattle.hierarchy.specs.declared.lowest.Role.{Role}
use Rattle.hierarchy.specs.Lowest.{found_of}
use Rattle.answers.specs.Refusal.{outcome_of}
use Rattle.effects.specs.Effect.{Accepted, Left}
use Rattle.monitor.specs.Contract.{answer_of, Gives}

module _ (ws b : List ℕ) where
  pub wrong_length : (length ws ≡ state_length → ⊥) → Gives (monitor ws b) (refuses 1) ws
  unfolding monitor
  wrong_length n = rw (ne_eqb (length ws) state_length n, monitor) (record { same_answer = refl; same_words = refl })

  -- t is the law test
  pub unlawful : {t : Bool} → length ws ≡ state_length → t ≡ lawful_words ws → not t ≡ true → Gives (monitor ws b) (refuses 2) ws
  unfolding monitor
  unlawful {t} l e h = rw (eq-eqb (length ws) state_length l, sym e ∙ not-true t h, monitor) (record { same_answer = refl; same_words = refl })

pub lawful-of : {ws : List ℕ} {t : Bool} → t ≡ lawful_words ws → not t ≡ false → LawfulWords ws
lawful-of {ws} {t} e h = lawful_words-sound ws (sym e ∙ not-false t h)

accepted-answer : (st : State) (c : ℕ) (k : model.Call) → outcome st c k ≡ accepted → answer st c k ≡ accepts (found st c (rule (user_of st c) c k).effect)
unfolding answer
accepted-answer st c k e = rw e

-- what is neither a call nor a sign of life
neither : (d : Decoded) → ((r : Request) → d ≡ Requested r → ⊥) → (d ≡ SignOfLife → ⊥) → d ≡ Undecodable
neither (Requested r) n m = absurd (n r refl)
neither Undecodable n m = refl
neither SignOfLife n m = absurd (m refl)

-- d is the record decoded
module _ {ws : List ℕ} (b : List ℕ) (W : LawfulWords ws) {d : Decoded} (e : Decodes b d) where
  read_as : {x : Decoded} → d ≡ x → decode b ≡ request_of x
  read_as h = sym e.same_request ∙ ap request_of h

  -- the table's answer to the record, and the words that it leaves
  given : {x : Decoded} → d ≡ x → monitor ws b ≡ record { answer = answered (view ws) (request_of x); words = encode (state_after (view ws) (request_of x)) }
  given h =
      monitor-lawful ws b W
      ∙ ap (λ q. record { answer = answered (view ws) q; words = encode (state_after (view ws) q) }) (read_as h)

  pub signed : d ≡ SignOfLife → Gives (monitor ws b) (refuses 0) ws
  signed h = rw (monitor-idle ws b W sign_of_life (read_as h) refl) (record { same_answer = refl; same_words = refl })

  pub undecoded : ((r : Request) → d ≡ Requested r → ⊥) → (d ≡ SignOfLife → ⊥) → Gives (monitor ws b) (refuses 3) ws
  undecoded h g = rw (monitor-idle ws b W undecodable (read_as (neither d h g)) refl) (record { same_answer = refl; same_words = refl })

  module _ {r : Request} (h : d ≡ Requested r) where
    pub refused_call : {n : ℕ} → refused n ≡ outcome (view ws) r.caller (call_of r.call) → Gives (monitor ws b) (refuses n) ws
    refused_call {n} t = rw (given h) (record {
      same_answer = sym (refused-answer (view ws) r.caller (call_of r.call) n (sym t));
      same_words = sym (ap encode (refused_equal (view ws) r.caller (call_of r.call) n (sym t)) ∙ encode-view ws W);
    })

    pub played_call : (o : Option Role) {vs : List ℕ} → accepted ≡ outcome (view ws) r.caller (call_of r.call)
        → found_of o ≡ found (view ws) r.caller (rule (user_of (view ws) r.caller) r.caller (call_of r.call)).effect
        → Left ws r.caller (call_of r.call) vs → Gives (monitor ws b) (accepts (found_of o)) vs
    played_call o t u l = rw (given h) (record {
      same_answer = ap accepts u ∙ sym (accepted-answer (view ws) r.caller (call_of r.call) (sym t));
      same_words = l.words;
    })
