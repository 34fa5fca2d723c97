-- A row of guards tried one by one: the first that applies stops.
use Rattle.std.proofs.Common.{◌≡◌, sym, ap, ◌∙◌, true, false, ℕ, suc, ◌+◌, ◌<◌, ◌≤◌, List, ◌∷◌, length, get_or, drop, drop-cons, add-one}
use Rattle.std.proofs.lemmas.List.{drop_all}
use Rattle.std.specs.Prelude.{Option, None, Some}
use Rattle.mtas.specs.State.{State}
use Rattle.mtas.specs.Rule.{applies, cause}
use Rattle.mtas.specs.Answer.{accepted, refused, first_cause}
use Rattle.rule.specs.declared.Guard.{Guard}
use Rattle.rule.specs.Table.{guard_of, guards_of}

module _ (st : State) (row : List (Option Guard)) (k : ℕ) (l : k < length row) where
  -- the k-th place, and those behind it
  from_place : (x : Option Guard) → get_or row k None ≡ x → first_cause st (guards_of (drop k row)) ≡ first_cause st (guards_of (x ∷ drop (k + 1) row))
  from_place x e = ap (λ m. first_cause st (guards_of m)) (drop-cons row k None l ∙ ap (λ y. y ∷ drop (suc k) row) e ∙ ap (λ (n : ℕ). x ∷ drop n row) (sym (add-one k)))

  pub passes_none : get_or row k None ≡ None → first_cause st (guards_of (drop k row)) ≡ first_cause st (guards_of (drop (k + 1) row))
  passes_none e = from_place None e

  module _ (g : Guard) (e : get_or row k None ≡ Some g) where
    pub passes : applies st (guard_of g) ≡ false → first_cause st (guards_of (drop k row)) ≡ first_cause st (guards_of (drop (k + 1) row))
    unfolding first_cause
    passes f = from_place (Some g) e ∙ rw (f, first_cause)

    pub stops : applies st (guard_of g) ≡ true → first_cause st (guards_of (drop k row)) ≡ refused (cause (guard_of g))
    unfolding first_cause
    stops t = from_place (Some g) e ∙ rw (t, first_cause)

pub all_pass : (st : State) (row : List (Option Guard)) (k : ℕ) → length row ≤ k → accepted ≡ first_cause st (guards_of (drop k row))
unfolding first_cause
all_pass st row k l = ap (λ m. first_cause st (guards_of m)) (sym (drop_all k row l))
