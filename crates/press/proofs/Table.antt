-- The table of the actions and the card's sentence are one.
use Rattle.std.proofs.Common.{◌≡◌, refl, sym, subst, ◌∙◌, Bool, true, false, ◌&&◌, List, [], ◌∷◌, ℕ, eqb, eqb-true}
use Rattle.bits.proofs.Booleans.{and_both}
use Rattle.mtas.proofs.Step.{differ}
use Rattle.press.specs.Stages.{Move, moves, to, wrong_stage, next_in, next_stage}
use Rattle.press.specs.Errors.{Leads, loads, starts, pauses, resumes, empties_loaded, empties_held, WrongStage}

leads-next : {a s t : ℕ} → Leads a s t → next_stage a s ≡ to t
unfolding next_in
leads-next loads = refl
leads-next starts = refl
leads-next pauses = refl
leads-next resumes = refl
leads-next empties_loaded = refl
leads-next empties_held = refl

abbrev AllLead : List Move → Type 0
AllLead [] = Unit
AllLead (m ∷ l) = Leads m.action m.from m.to × AllLead l

found : (l : List Move) → AllLead l → (a s t : ℕ) → next_in l a s ≡ to t → Leads a s t
unfolding next_in
found [] x a s t h = absurd (differ (cc))
found (m ∷ l) (x, xs) a s t h = go (found l xs a s t) (eqb a m.action && eqb s m.from) refl
  where
    go : (next_in l a s ≡ to t → Leads a s t) → (b : Bool) → eqb a m.action && eqb s m.from ≡ b → Leads a s t
    go rec true e =
        let (p, q) = and_both (eqb a m.action) (eqb s m.from) e in
        let same : to m.to ≡ to t = rw (e, next_in) at h in
        let u : m.to ≡ t = cc in
        subst (λ x. Leads x s t) (sym (eqb-true _ _ p)) (subst (λ x. Leads m.action x t) (sym (eqb-true _ _ q)) (subst (Leads m.action m.from) u x))
    go rec false e = rec (rw (e, next_in) at h)

pub next-leads : (a s t : ℕ) → next_stage a s ≡ to t → Leads a s t
next-leads = found moves (loads, (starts, (pauses, (resumes, (empties_loaded, (empties_held, tt))))))

pub nowhere : (a s : ℕ) → next_stage a s ≡ wrong_stage → WrongStage a s
nowhere a s h t l = let e : to t ≡ wrong_stage = sym (leads-next l) ∙ h in differ (cc)
