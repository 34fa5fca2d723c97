-- The monitor on words is the table on the state that they say, and a refusal hands the words back.
use mathlib.Core.Path.{◌≡◌, refl, ap, ◌∙◌, fun_ext}
use mathlib.Core.Logic.{◌⊎◌, inl, inr}
use mathlib.Core.List.{List}
use mathlib.Core.Bool.{Bool, true, false}
use mathlib.Core.Option.{none}
use Prim.Native.Nat.{ℕ, suc}
use lib.Dec.{eqb}
use lib.ListN.{length}
use borrow.Author.Tests.{eq-eqb, ne_eqb}
use Rattle.bits.proofs.Booleans.{untrue}
use Rattle.bits.specs.Below.{tabulate, find_below}
use Rattle.bits.specs.Bit.{pack}
use Rattle.mtas.specs.State.{State, nothing}
use Rattle.mtas.specs.Law.{Lawful}
use Rattle.mtas.specs.Call.{Call}
use Rattle.mtas.specs.Answer.{accepts, Outcome, accepted, refused, outcome, answer, next}
use Rattle.mtas.specs.Layout.{Cell, sixteen, its_user, in_session, cell, state_length, word_at, contents, encode, view}
use Rattle.mtas.specs.LawTest.{LawfulWords, lawful_words}
use Rattle.mtas.specs.Record.{Request, sign_of_life, undecodable, request, decode}
use Rattle.mtas.specs.Monitor.{turned_down, initial, initial_words, start, answered, state_after, monitor}
use Rattle.mtas.proofs.Law.{nothing_lawful}
use Rattle.mtas.proofs.Guards.{refused-not_0}
use Rattle.mtas.proofs.Step.{next_lawful, refused_equal}
use Rattle.mtas.proofs.Words.{view-encode, encode-view, encode-lawful}
use Rattle.mtas.proofs.LawTest.{lawful_words-sound, lawful_words-complete}

-- starting writes the words of the state in which nothing stands
initial-contents : (c : Cell) → initial c ≡ contents nothing c
unfolding pack find_below
initial-contents (sixteen f) = refl
initial-contents (its_user i s) = refl
initial-contents (in_session i s f) = refl

pub initial-is-nothing : initial_words ≡ encode nothing
unfolding initial_words encode
initial-is-nothing = ap (tabulate state_length) (fun_ext (λ k. initial-contents (cell (word_at k))))

pub initial-lawful : LawfulWords initial_words
initial-lawful = rw initial-is-nothing (encode-lawful nothing nothing_lawful)

pub state_after-lawful : (st : State) → Lawful st → (x : Request) → Lawful (state_after st x)
state_after-lawful st L sign_of_life = L
state_after-lawful st L undecodable = L
state_after-lawful st L (request c k) = next_lawful st L c k

-- the monitor on lawful words, and on the words of a lawful state
pub monitor-lawful : (ws b : List ℕ) → LawfulWords ws → monitor ws b ≡ record { answer = answered (view ws) (decode b); words = encode (state_after (view ws) (decode b)) }
unfolding monitor
monitor-lawful ws b W =
    let l : eqb (length ws) state_length ≡ true = eq-eqb _ _ W.long in
    let j : lawful_words ws ≡ true = lawful_words-complete ws W in
    rw (l, j, monitor)

pub monitor-encode : (st : State) → Lawful st → (b : List ℕ) → monitor (encode st) b ≡ record { answer = answered st (decode b); words = encode (state_after st (decode b)) }
monitor-encode st L b =
    monitor-lawful (encode st) b (encode-lawful st L)
    ∙ ap (λ x. record { answer = answered x (decode b); words = encode (state_after x (decode b)) }) (view-encode st L)

-- a record that is no call leaves the words
pub monitor-idle : (ws b : List ℕ) → LawfulWords ws → (x : Request) → decode b ≡ x → state_after (view ws) x ≡ view ws → monitor ws b ≡ record { answer = answered (view ws) x; words = ws }
monitor-idle ws b W x d s =
    monitor-lawful ws b W
    ∙ ap (λ y. record { answer = answered (view ws) y; words = encode (state_after (view ws) y) }) d
    ∙ ap (λ y. record { answer = answered (view ws) x; words = y }) (ap encode s ∙ encode-view ws W)

-- a state not of its length: 1; 'state not lawful': 2; whatever the record
pub wrong_length : (ws b : List ℕ) → (length ws ≡ state_length → ⊥) → monitor ws b ≡ turned_down 1 ws
unfolding monitor
wrong_length ws b n = rw (ne_eqb (length ws) state_length n, monitor)

pub not_lawful : (ws b : List ℕ) → length ws ≡ state_length → (LawfulWords ws → ⊥) → monitor ws b ≡ turned_down 2 ws
unfolding monitor
not_lawful ws b l n = rw (eq-eqb (length ws) state_length l, untrue (lawful_words ws) (λ e. n (lawful_words-sound ws e)), monitor)

-- starting turns down words of another length and leaves them; else it gives 0 and writes every word
pub start-wrong_length : (ws : List ℕ) → (length ws ≡ state_length → ⊥) → start ws ≡ turned_down 1 ws
unfolding start
start-wrong_length ws n = rw (ne_eqb (length ws) state_length n, start)

pub starts : (ws : List ℕ) → length ws ≡ state_length → start ws ≡ record { answer = accepts none; words = encode nothing }
unfolding start
starts ws l = rw (eq-eqb (length ws) state_length l, start) (ap (λ x. record { answer = accepts none; words = x }) initial-is-nothing)

-- every other word list is turned down
pub monitor_cases : (ws b : List ℕ) → (LawfulWords ws) ⊎ ((n : ℕ) × (monitor ws b ≡ turned_down (suc n) ws))
unfolding monitor
monitor_cases ws b = go (eqb (length ws) state_length) refl (lawful_words ws) refl
  where
    go : (x : Bool) → eqb (length ws) state_length ≡ x → (y : Bool) → lawful_words ws ≡ y → (LawfulWords ws) ⊎ ((n : ℕ) × (monitor ws b ≡ turned_down (suc n) ws))
    go false e y d = inr (0, rw (e, monitor))
    go true e false d = inr (1, rw (e, d, monitor))
    go true e true d = inl (lawful_words-sound ws d)

pub accepted-zero : (st : State) (c : ℕ) (k : Call) → outcome st c k ≡ accepted → (answer st c k).refusal ≡ 0
unfolding answer
accepted-zero st c k e = rw e

pub zero-accepted : (st : State) (c : ℕ) (k : Call) → (answer st c k).refusal ≡ 0 → outcome st c k ≡ accepted
unfolding answer
zero-accepted st c k z = go (outcome st c k) refl
  where
    go : (o : Outcome) → outcome st c k ≡ o → outcome st c k ≡ accepted
    go accepted e = e
    go (refused n) e = absurd (refused-not_0 st c k n e (rw e at z))

-- demand 1: 'Only an accepted call alters the state; a refused one hands it back exactly'
pub refused-words : (ws b : List ℕ) → ((monitor ws b).answer.refusal ≡ 0 → ⊥) → (monitor ws b).words ≡ ws
refused-words ws b h = go (monitor_cases ws b)
  where
    back : (x : Request) → LawfulWords ws → ((answered (view ws) x).refusal ≡ 0 → ⊥) → encode (state_after (view ws) x) ≡ ws
    back sign_of_life W n = absurd (n refl)
    back undecodable W n = encode-view ws W
    back (request c k) W n = by (outcome (view ws) c k) refl
      where
        by : (o : Outcome) → outcome (view ws) c k ≡ o → encode (next (view ws) c k) ≡ ws
        by accepted e = absurd (n (accepted-zero (view ws) c k e))
        by (refused m) e = rw (refused_equal (view ws) c k m e) (encode-view ws W)

    go : (LawfulWords ws) ⊎ ((n : ℕ) × (monitor ws b ≡ turned_down (suc n) ws)) → (monitor ws b).words ≡ ws
    go (inl W) = ap (λ r. r.words) (monitor-lawful ws b W) ∙ back (decode b) W (rw (monitor-lawful ws b W) at h)
    go (inr (n, e)) = ap (λ r. r.words) e

-- what the monitor leaves of lawful words is lawful
pub monitor_keeps : (ws b : List ℕ) → LawfulWords ws → LawfulWords (monitor ws b).words
monitor_keeps ws b W = rw (monitor-lawful ws b W) (encode-lawful _ (state_after-lawful (view ws) W.lawful (decode b)))
