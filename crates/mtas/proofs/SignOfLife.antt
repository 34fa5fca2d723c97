-- The sign of life is accepted on every lawful state, and no history shows it.
use mathlib.Core.Path.{◌≡◌, refl, ap, ◌∙◌}
use mathlib.Core.Logic.{◌⊎◌, inl, inr}
use mathlib.Core.List.{List, [], ◌∷◌, ◌++◌}
use mathlib.Core.Bool.{Bool, true, false}
use mathlib.Core.Option.{none}
use Prim.Native.Nat.{ℕ, suc}
use Rattle.mtas.specs.Call.{Call}
use Rattle.mtas.specs.Answer.{accepts}
use Rattle.mtas.specs.LawTest.{LawfulWords}
use Rattle.mtas.specs.Record.{Request, sign_of_life, undecodable, request, decode, encode_call, remains}
use Rattle.mtas.specs.Monitor.{turned_down, monitor}
use Rattle.mtas.specs.Histories.{History, final, answers}
use Rattle.mtas.specs.SignOfLife.{SignOfLife}
use Rattle.mtas.proofs.Record as records
use Rattle.mtas.proofs.Monitor as monitors
use Rattle.mtas.proofs.Remaining.{remaining}

module _ (ws : List ℕ) (W : LawfulWords ws) where
  accepted : monitor ws [] ≡ record { answer = accepts none; words = ws }
  unfolding decode
  accepted = monitors.monitor-idle ws [] W sign_of_life refl refl

  undecoded : (b : List ℕ) → decode b ≡ undecodable → monitor ws b ≡ turned_down 3 ws
  undecoded b d = monitors.monitor-idle ws b W undecodable d refl

  no_other : (b : List ℕ) → (b ≡ [] → ⊥) → ((c : ℕ) (k : Call) → b ≡ encode_call c k → ⊥) → monitor ws b ≡ turned_down 3 ws
  no_other b n m = undecoded b (go (decode b) refl)
    where
      go : (x : Request) → decode b ≡ x → decode b ≡ undecodable
      go sign_of_life d = absurd (n (records.only-empty b d))
      go undecodable d = d
      go (request c k) d = absurd (m c k (records.only_encoded b c k d))

-- on any words, lawful or not, it leaves them
unchanged : (ws : List ℕ) → (monitor ws []).words ≡ ws
unchanged ws = go (monitors.monitor_cases ws [])
  where
    go : (LawfulWords ws) ⊎ ((n : ℕ) × (monitor ws [] ≡ turned_down (suc n) ws)) → (monitor ws []).words ≡ ws
    go (inl W) = ap (λ r. r.words) (accepted ws W)
    go (inr (n, e)) = ap (λ r. r.words) e

same_end : (ws : List ℕ) (h k : History) → final ws (h ++ ([] ∷ k)) ≡ final ws (h ++ k)
unfolding final
same_end ws [] k = ap (λ x. final x k) (unchanged ws)
same_end ws (b ∷ h) k = same_end (monitor ws b).words h k

module _ (member : ℕ → Bool) where
  same_answers : (ws : List ℕ) (h k : History) → answers member ws (h ++ ([] ∷ k)) ≡ answers member ws (h ++ k)
  unfolding answers
  same_answers ws [] k = (remaining member).empty.in_answers ws k ∙ ap (λ x. answers member x k) (unchanged ws)
  same_answers ws (b ∷ h) k = go (remains member (decode b)) refl (same_answers (monitor ws b).words h k)
    where
      go : (x : Bool) → remains member (decode b) ≡ x → answers member (monitor ws b).words (h ++ ([] ∷ k)) ≡ answers member (monitor ws b).words (h ++ k) → answers member ws (b ∷ (h ++ ([] ∷ k))) ≡ answers member ws (b ∷ (h ++ k))
      go true e r = rw (e, answers) (ap (λ l. (monitor ws b).answer ∷ l) r)
      go false e r = rw (e, answers) r

pub signs_of_life : SignOfLife
signs_of_life = record {
  accepted = accepted;
  wrong_length = λ ws n. monitors.wrong_length ws [] n;
  not_lawful = λ ws l n. monitors.not_lawful ws [] l n;
  short = λ ws b W n m. undecoded ws W b (records.short b n m);
  no_other = λ ws b W. no_other ws W b;
  same_answers = same_answers;
  same_end = same_end;
}
