-- What the code answers a call, in the model's terms.
use Rattle.std.specs.Prelude.{Result, Ok, Err, Bool, true, ℕ}
use Rattle.mtas.specs.Fact.{enrolled}
use Rattle.mtas.specs.State.{State}
use Rattle.mtas.specs.Rule.{Whose, operator's, issuer's}
use Rattle.mtas.specs.Answer.{Outcome, accepted, refused}
use Rattle.rule.specs.Refusal.{number_of}
use Rattle.rule.specs.declared.Refusal.{Refusal}

abbrev pub outcome_of : Result Unit Refusal → Outcome
outcome_of (Ok x) = accepted
outcome_of (Err e) = refused (number_of e)

-- whether the calling issuer is enrolled; the operator is no issuer
abbrev pub is_known : State → Whose → ℕ → Bool
is_known st operator's c = true
is_known st issuer's c = st.stands (enrolled c)
