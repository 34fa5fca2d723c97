-- A call's outcome is the first cause of its front, or else of its own row.
use Rattle.std.proofs.Common.{◌≡◌, refl, sym, ap, ◌∙◌, Bool, true, false, ℕ, List, [], ◌∷◌, ◌++◌}
use Rattle.std.specs.Prelude.{not, cond, eqb, ltb}
use Rattle.mtas.specs.Fact.{enrolled, above_15}
use Rattle.mtas.specs.State.{State, user_of}
use Rattle.mtas.specs.Call.{arguments}
use Rattle.mtas.specs.Rule as model
use Rattle.mtas.specs.Answer.{Outcome, accepted, refused, first_cause, outcome}
use Rattle.record.specs.Decoded.{call_of}
use Rattle.record.specs.declared.Request.{Request}
use Rattle.rule.specs.declared.Whose.{Whose}
use Rattle.rule.specs.Table.{whose_of, row_of}
use Rattle.answers.specs.Refusal.{is_known}

abbrev or_else : Outcome → Outcome → Outcome
or_else accepted o = o
or_else (refused n) o = refused n

first_cause-append : (st : State) (l m : List model.Guard) → first_cause st (l ++ m) ≡ or_else (first_cause st l) (first_cause st m)
unfolding first_cause
first_cause-append st [] m = refl
first_cause-append st (g ∷ l) m = go (first_cause-append st l m) (model.applies st g) refl
  where
    go : first_cause st (l ++ m) ≡ or_else (first_cause st l) (first_cause st m) → (b : Bool) → model.applies st g ≡ b → first_cause st (g ∷ l ++ m) ≡ or_else (first_cause st (g ∷ l)) (first_cause st m)
    go rec true e = rw (e, first_cause)
    go rec false e = rw (e, first_cause) rec

-- ---- front and row
module _ (st : State) (r : Request) where
  abbrev of_front : Outcome
  of_front = first_cause st (model.front (row_of st r).whose r.caller (arguments (call_of r.call)))

  in_two : outcome st r.caller (call_of r.call) ≡ or_else of_front (first_cause st (row_of st r).causes)
  unfolding outcome
  in_two = first_cause-append st (model.front (row_of st r).whose r.caller (arguments (call_of r.call))) (row_of st r).causes

  pub front_stops : {n : ℕ} → refused n ≡ of_front → refused n ≡ outcome st r.caller (call_of r.call)
  front_stops e = ap (λ o. or_else o (first_cause st (row_of st r).causes)) e ∙ sym in_two

  pub front_passes : accepted ≡ of_front → {o : Outcome} → o ≡ first_cause st (row_of st r).causes → o ≡ outcome st r.caller (call_of r.call)
  front_passes e h = h ∙ ap (λ o. or_else o (first_cause st (row_of st r).causes)) e ∙ sym in_two

-- ---- the front, by its three tests
abbrev tests : Bool → Bool → Bool → Outcome
tests a x b = cond a (cond x (cond b (refused 6) accepted) (refused 5)) (refused 4)

front-is : (st : State) (w : model.Whose) (c : ℕ) (l : List ℕ)
    → first_cause st (model.front w c l) ≡ tests (model.may_call w c) (is_known st w c) (above_15 l)
unfolding first_cause
front-is st model.operator's c l = go (eqb c 16) (above_15 l)
  where
    go : (a b : Bool) → first_cause st (model.wrong 4 (not a) ∷ model.wrong 6 b ∷ []) ≡ tests a true b
    go true true = refl
    go true false = refl
    go false b = refl
front-is st model.issuer's c l = go (ltb c 16) (st.stands (enrolled c)) refl (above_15 l)
  where
    go : (a x : Bool) → st.stands (enrolled c) ≡ x → (b : Bool) → first_cause st (model.wrong 4 (not a) ∷ model.absent 5 (enrolled c) ∷ model.wrong 6 b ∷ []) ≡ tests a x b
    go true true e true = rw (e, first_cause)
    go true true e false = rw (e, first_cause)
    go true false e b = rw (e, first_cause)
    go false x e b = refl

module _ (st : State) (r : Request) (w : Whose) (is : (users : ℕ → ℕ) (c : ℕ) → whose_of w ≡ (model.rule users c (call_of r.call)).whose) where
  pub in_front : {a x b : Bool} {o : Outcome} → a ≡ model.may_call (whose_of w) r.caller → x ≡ is_known st (whose_of w) r.caller → b ≡ above_15 (arguments (call_of r.call))
      → o ≡ tests a x b → o ≡ first_cause st (model.front (row_of st r).whose r.caller (arguments (call_of r.call)))
  in_front may known above e =
      e ∙ rw (may, known, above) (sym (front-is st (whose_of w) r.caller (arguments (call_of r.call)))) ∙ ap (λ v. first_cause st (model.front v r.caller (arguments (call_of r.call)))) (is (user_of st r.caller) r.caller)
