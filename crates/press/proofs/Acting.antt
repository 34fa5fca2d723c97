-- The code's steps: the owner's question, lists that fit, and the ways out of `act`.
use Rattle.std.proofs.Common.{◌≡◌, refl, ap, sym, ◌∙◌, Bool, true, false, List, [], ◌∷◌, ℕ, ◌<◌, arith, length, get_or, set, take}
use Rattle.std.specs.Prelude.{Option, Some, None}
use Rattle.mtas.specs.Answer.{Answer}
use Rattle.mtas.specs.Monitor.{monitor}
use Rattle.mtas.specs.Record.{record_of, encode_call}
use Rattle.monitor.specs.Contract.{Gives}
use Rattle.record.specs.Encoded.{Holds}
use Rattle.record.specs.declared.encoded.Encoded.{Encoded}
use Rattle.press.specs.Stages.{next_stage}
use Rattle.press.specs.Acted.{misfit, question, turned_away, ends_in, act}
use Rattle.press.specs.Errors.{action_above_4}
use Rattle.press.specs.Laws.{Fits}
use Rattle.press.specs.Contract.{next_of, stage_number, action_number}
use Rattle.press.specs.declared.stage.Stage.{Stage}
use Rattle.press.specs.declared.stage.Action.{Action}
use Rattle.press.specs.declared.stage.Action.TheVariants.{Load}
use Rattle.press.proofs.Misfits.{misfit_complete, in_order, fitting}
use Rattle.press.proofs.Asking.{answered, words_left}
use Rattle.press.proofs.Errors.{ends}

-- ---- the question
module _ (ws : List ℕ) (owner action i s : ℕ) {made : Encoded} (h : Holds made (record_of 21 owner (action ∷ i ∷ s ∷ []))) {b : List ℕ} (t : b ≡ take made.len made.bytes)
    {a : Answer} {vs : List ℕ} (g : Gives (monitor ws b) a vs) where
  is_question : b ≡ question owner action i s
  unfolding encode_call
  is_question = t ∙ h.text

  pub is_answered : turned_away a ≡ turned_away (answered ws owner action i s)
  is_answered = ap turned_away (g.same_answer ∙ ap (λ b. (monitor ws b).answer) is_question)

  pub words_kept : vs ≡ ws
  words_kept = g.same_words ∙ ap (λ b. (monitor ws b).words) is_question ∙ words_left ws owner action i s

-- ---- lists that fit, whatever the action
module _ (owners stages : List ℕ) (press : ℕ) {m : Bool} (e : (a : Action) → m ≡ misfit owners stages press (action_number a)) (h : m ≡ false) where
  its : Fits owners stages press 0
  its = fitting owners stages press 0 (in_order owners stages press 0 (sym (e Load) ∙ h))

  pub has_owner : press < length owners
  has_owner = omega (arith, its.owners_32, its.a_press)

  pub has_stage : press < length stages
  has_stage = omega (arith, its.stages_32, its.a_press)

  pub is_stage : 3 < get_or stages press 0 → ⊥
  is_stage l = omega (arith, its.four_stages press)

-- ---- the ways out
module _ (ws owners stages : List ℕ) (press action i s : ℕ) where
  abbrev owner : ℕ
  owner = get_or owners press 0

  pub out_no_action : 4 < action → act ws owners stages press action i s ≡ ends_in 17 stages ws
  out_no_action h = ends ws owners stages press action i s (misfit_complete owners stages press action (action_above_4 h)) refl refl

  module _ (a : Action) (p : action_number a ≡ action) {m : Bool} (e : (a : Action) → m ≡ misfit owners stages press (action_number a)) where
    tested : {b : Bool} → m ≡ b → misfit owners stages press action ≡ b
    tested h = rw (← p) (sym (e a) ∙ h)

    pub out_17 : m ≡ true → act ws owners stages press action i s ≡ ends_in 17 stages ws
    out_17 h = ends ws owners stages press action i s (tested h) refl refl

    module _ (h : m ≡ false) {away : Bool} (d : away ≡ turned_away (answered ws owner action i s)) {vs : List ℕ} (z : vs ≡ ws) where
      pub out_18 : away ≡ true → act ws owners stages press action i s ≡ ends_in 18 stages vs
      out_18 k = rw z (ends ws owners stages press action i s (tested h) (sym d ∙ k) refl)

      module _ (k : away ≡ false) (f : Stage) (q : stage_number f ≡ get_or stages press 0) (r : Option Stage)
          (n : next_of r ≡ next_stage (action_number a) (stage_number f)) where
        leads : {g : Option Stage} → r ≡ g → next_stage action (get_or stages press 0) ≡ next_of g
        leads e = rw (← p, ← q) (sym n ∙ ap next_of e)

        pub out_19 : r ≡ None → act ws owners stages press action i s ≡ ends_in 19 stages vs
        out_19 g = rw z (ends ws owners stages press action i s (tested h) (sym d ∙ k) (leads g))

        pub out_0 : {t : Stage} {b : ℕ} → r ≡ Some t → b ≡ stage_number t → act ws owners stages press action i s ≡ ends_in 0 (set stages press b) vs
        out_0 g x = rw (x, z) (ends ws owners stages press action i s (tested h) (sym d ∙ k) (leads g))
