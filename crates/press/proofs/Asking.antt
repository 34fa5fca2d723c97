-- The owner's question to the desk: when it is turned away, and that it changes no word.
use Rattle.std.proofs.Common.{◌≡◌, ap, sym, ◌∙◌, ◌⊎◌, inl, inr, ◌↔◌, true, not, List, ℕ, eqb, eq-eqb, ne_eqb, eqb-true}
use borrow.Author.Tests.{not-true}
use Rattle.bits.proofs.Booleans.{clash, or_left, or_right, or_cases}
use Rattle.mtas.specs.Answer.{Answer}
use Rattle.mtas.specs.Call.{CheckAccess}
use Rattle.mtas.specs.Layout.{view}
use Rattle.mtas.specs.LawTest.{LawfulWords}
use Rattle.mtas.specs.Monitor.{monitor}
use Rattle.mtas.specs.Decision.{MayUsePermission}
use Rattle.mtas.proofs.Step.{differ}
use Rattle.mtas.proofs.Record.{decode_encoded}
use Rattle.mtas.proofs.Verdict.{verdict_iff, two_verdicts}
use Rattle.mtas.proofs.Access.{access_checks}
use Rattle.press.specs.Acted.{question, turned_away}
use Rattle.press.specs.Errors.{TurnedAway, verdict_0, desk_refusal}

module _ (ws : List ℕ) (owner action i s : ℕ) where
  abbrev pub answered : Answer
  answered = (monitor ws (question owner action i s)).answer

  pub away_complete : TurnedAway ws owner action i s → turned_away answered ≡ true
  away_complete (verdict_0 h) = or_left _ _ (eq-eqb _ 0 h)
  away_complete (desk_refusal n) = or_right (eqb answered.verdict 0) _ (ap not (ne_eqb _ 0 n))

  pub away_sound : turned_away answered ≡ true → TurnedAway ws owner action i s
  away_sound h = go (or_cases _ _ h)
    where
      go : (eqb answered.verdict 0 ≡ true) ⊎ (not (eqb answered.refusal 0) ≡ true) → TurnedAway ws owner action i s
      go (inl t) = verdict_0 (eqb-true _ 0 t)
      go (inr t) = desk_refusal (λ e. clash (eq-eqb _ 0 e) (not-true _ t))

  -- it isn't turned away exactly where the session may use the permission
  pub yes_iff : (TurnedAway ws owner action i s → ⊥) ↔ (LawfulWords ws × MayUsePermission (view ws) owner action i s)
  yes_iff = (λ n. told.0 (said n (two_verdicts ws (question owner action i s))), λ h. none (told.1 h))
    where
      told : (answered.verdict ≡ 1) ↔ (LawfulWords ws × MayUsePermission (view ws) owner action i s)
      told = access_checks.yes_iff ws (question owner action i s) owner action i s (decode_encoded owner (CheckAccess action i s))

      said : (TurnedAway ws owner action i s → ⊥) → (answered.verdict ≡ 1) ⊎ (answered.verdict ≡ 0) → answered.verdict ≡ 1
      said n (inl e) = e
      said n (inr e) = absurd (n (verdict_0 e))

      none : answered.verdict ≡ 1 → TurnedAway ws owner action i s → ⊥
      none v (verdict_0 e) = differ (sym e ∙ v)
      none v (desk_refusal n) = n ((verdict_iff ws (question owner action i s)).0 v).is_accepted

  pub words_left : (monitor ws (question owner action i s)).words ≡ ws
  words_left = access_checks.nothing_changes ws (question owner action i s) owner action i s (decode_encoded owner (CheckAccess action i s))
