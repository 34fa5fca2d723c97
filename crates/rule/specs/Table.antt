-- The code's guards, effects, callers and requests in the model's terms.
use Rattle.std.specs.Prelude.{Option, None, Some, List, [], ◌∷◌}
use Rattle.mtas.specs.Needs.{enrolment}
use Rattle.mtas.specs.State.{State, user_of}
use Rattle.mtas.specs.Hierarchy.{◌#◌}
use Rattle.mtas.specs.Rule as model
use Rattle.record.specs.Decoded.{call_of}
use Rattle.record.specs.declared.Request.{Request}
use Rattle.facts.specs.Table.{fact_of}
use Rattle.rule.specs.Refusal.{number_of}
use Rattle.rule.specs.declared.Guard.{Guard}
use Rattle.rule.specs.declared.Guard.TheVariants.{Absent, Present, Wrong, Reached, Unauthorized}
use Rattle.rule.specs.declared.Effect.{Effect}
use Rattle.rule.specs.declared.Effect.TheVariants.{Enrols, Puts, Cuts, Decides}
use Rattle.rule.specs.declared.Whose.{Whose}
use Rattle.rule.specs.declared.Whose.TheVariants.{Operator, Issuer}

abbrev pub guard_of : Guard → model.Guard
guard_of (Absent e f) = model.absent (number_of e) (fact_of f)
guard_of (Present e f) = model.present (number_of e) (fact_of f)
guard_of (Wrong e b) = model.wrong (number_of e) b
guard_of (Reached e c q i r) = model.reached (number_of e) (c # q) (i # r)
guard_of (Unauthorized e i u r) = model.unauthorized (number_of e) i u r

-- the guards that a list has
abbrev pub guards_of : List (Option Guard) → List model.Guard
guards_of [] = []
guards_of (None ∷ l) = guards_of l
guards_of (Some g ∷ l) = guard_of g ∷ guards_of l

abbrev pub effect_of : Effect → model.Effect
effect_of (Enrols i) = model.puts (enrolment i)
effect_of (Puts f) = model.puts (fact_of f ∷ [])
effect_of (Cuts f) = model.cuts (fact_of f)
effect_of (Decides p i s) = model.decides p i s

abbrev pub whose_of : Whose → model.Whose
whose_of Operator = model.operator's
whose_of Issuer = model.issuer's

-- the row of a request in the state st
abbrev pub row_of : State → Request → model.Rule
row_of st r = model.rule (user_of st r.caller) r.caller (call_of r.call)
