-- The monitor's refusal on lawful words is the table's on the state that they say.
use mathlib.Core.Path.{◌≡◌, refl, ap, sym, ◌∙◌}
use mathlib.Core.List.{List}
use Prim.Native.Nat.{ℕ, ◌<◌}
use native.Mathlib.Omega.{arith}
use Rattle.mtas.specs.Call.{Call}
use Rattle.mtas.specs.Answer.{Outcome, accepted, refused, outcome, answer}
use Rattle.mtas.specs.Layout.{view}
use Rattle.mtas.specs.LawTest.{LawfulWords}
use Rattle.mtas.specs.Record.{request, decode}
use Rattle.mtas.specs.Monitor.{answered, monitor}
use Rattle.mtas.proofs.Step.{refused-answer}
use Rattle.mtas.proofs.Monitor.{accepted-zero, zero-accepted, monitor-lawful}

module _ (ws b : List ℕ) {c : ℕ} {k : Call} (W : LawfulWords ws) (d : decode b ≡ request c k) where
  refusal_is : (monitor ws b).answer.refusal ≡ (answer (view ws) c k).refusal
  refusal_is = ap (λ x. x.answer.refusal) (monitor-lawful ws b W) ∙ ap (λ x. (answered (view ws) x).refusal) d

  pub is_accepted : (monitor ws b).answer.refusal ≡ 0 → outcome (view ws) c k ≡ accepted
  is_accepted z = zero-accepted (view ws) c k (sym refusal_is ∙ z)

  pub accepts : outcome (view ws) c k ≡ accepted → (monitor ws b).answer.refusal ≡ 0
  accepts e = refusal_is ∙ accepted-zero (view ws) c k e

  pub is_refused : (n : ℕ) → 0 < n → (monitor ws b).answer.refusal ≡ n → outcome (view ws) c k ≡ refused n
  is_refused n l h = go (outcome (view ws) c k) refl
    where
      go : (o : Outcome) → outcome (view ws) c k ≡ o → o ≡ refused n
      go accepted e = let z : 0 ≡ n = sym (accepted-zero (view ws) c k e) ∙ sym refusal_is ∙ h in absurd (omega arith)
      go (refused m) e = ap refused (sym (ap (λ a. a.refusal) (refused-answer (view ws) c k m e)) ∙ sym refusal_is ∙ h)

  pub gives : (n : ℕ) → outcome (view ws) c k ≡ refused n → (monitor ws b).answer.refusal ≡ n
  gives n e = refusal_is ∙ ap (λ a. a.refusal) (refused-answer (view ws) c k n e)
