-- The role that an answer carries is the lowest through which the session may use the permission, and there is one where there is a yes.
use mathlib.Core.Path.{◌≡◌, refl, ap, sym, ◌∙◌}
use mathlib.Core.Logic.{◌↔◌, ◌⊎◌, inl, inr}
use mathlib.Core.Option.{some}
use mathlib.Core.Bool.{Bool, true, false}
use mathlib.Core.List.{List}
use Prim.Native.Nat.{ℕ, ◌<◌, ◌≤◌}
use lib.Dec.{eqb}
use lib.ListN.{length}
use Rattle.bits.proofs.Booleans.{below_or_not}
use Rattle.mtas.specs.Fact.{trusts}
use Rattle.mtas.specs.State.{State}
use Rattle.mtas.specs.Hierarchy.{Role, ◌#◌}
use Rattle.mtas.specs.Call.{CheckAccess}
use Rattle.mtas.specs.Answer.{accepts}
use Rattle.mtas.specs.Layout.{state_length, view}
use Rattle.mtas.specs.LawTest.{LawfulWords}
use Rattle.mtas.specs.Record.{request, decode}
use Rattle.mtas.specs.Monitor.{start, monitor}
use Rattle.mtas.specs.Decision.{MayUsePermissionThrough}
use Rattle.mtas.specs.Chain.{Chain}
use Rattle.mtas.specs.Through.{Lower, by_issuer, by_number, LowestThrough, Through}
use Rattle.mtas.proofs.Law.{grant_trust}
use Rattle.mtas.proofs.Step.{differ}
use Rattle.mtas.proofs.Lowest.{compare}
use Rattle.mtas.proofs.Decision.{holders_numbered}
use Rattle.mtas.proofs.Verdict.{Says, no_yes, a_yes, says}
use Rattle.mtas.proofs.Access.{access_checks}
use Rattle.mtas.proofs.Chain.{chains}

-- one role only is the lowest
lowest-one : (st : State) (j p i s : ℕ) (a b : Role) → LowestThrough st j p i s a → LowestThrough st j p i s b → a ≡ b
lowest-one st j p i s a b x y = go (compare a b)
  where
    go : (Lower a b) ⊎ ((Lower b a) ⊎ (a ≡ b)) → a ≡ b
    go (inl l) = absurd (y.none_lower a l x.may)
    go (inr (inl l)) = absurd (x.none_lower b l y.may)
    go (inr (inr e)) = e

module _ (ws b : List ℕ) where
  -- a yes is one to kind 21, with its role
  record Yes : Type 0 where
    lawful : LawfulWords ws
    owner : ℕ
    asked : ℕ
    its_issuer : ℕ
    session : ℕ
    role : Role
    is_check : decode b ≡ request owner (CheckAccess asked its_issuer session)
    lowest : LowestThrough (view ws) owner asked its_issuer session role
    is_answer : (monitor ws b).answer ≡ accepts (some role)

  yes_of : (monitor ws b).answer.verdict ≡ 1 → Yes
  yes_of h = go (says ws b)
    where
      go : Says ws b (monitor ws b).answer → Yes
      go (no_yes z t) = absurd (differ (sym z ∙ h))
      go (a_yes W {c} {p} {i} {s} {a} d l x) = record { lawful = W; owner = c; asked = p; its_issuer = i; session = s; role = a; is_check = d; lowest = l; is_answer = x }

  module _ {c p i s : ℕ} (d : decode b ≡ request c (CheckAccess p i s)) where
    -- the record asks one question only
    lowest_of : (y : Yes) → LowestThrough (view ws) c p i s y.role
    lowest_of y =
        let e : request y.owner (CheckAccess y.asked y.its_issuer y.session) ≡ request c (CheckAccess p i s) = sym y.is_check ∙ d in
        let o : y.owner ≡ c = cc in
        let k : y.asked ≡ p = cc in
        let q : y.its_issuer ≡ i = cc in
        let t : y.session ≡ s = cc in
        rw (o, k, q, t) at y.lowest

    yes_iff : (a : Role) → ((monitor ws b).answer ≡ accepts (some a)) ↔ (LawfulWords ws × LowestThrough (view ws) c p i s a)
    yes_iff a = (
      λ e. let y = yes_of (ap (λ x. x.verdict) e) in
          let q : y.role ≡ a = ap (λ x. x.through) (sym y.is_answer ∙ e) in
          (y.lawful, rw q at (lowest_of y)),
      λ (W, l). let y = yes_of ((access_checks.yes_iff ws b c p i s d).1 (W, record { reached = a; may = l.may })) in
          y.is_answer ∙ ap (λ x. accepts (some x)) (lowest-one (view ws) c p i s y.role a (lowest_of y) l),
    )

    -- the role of the answer, where there is one
    at_least : (a : Role) → LawfulWords ws → MayUsePermissionThrough (view ws) c p i s a
        → ((monitor ws b).answer.through.issuer ≤ a.issuer) × ((monitor ws b).answer.through.issuer ≡ a.issuer → (monitor ws b).answer.through.number ≤ a.number)
    at_least a W m =
        let y = yes_of ((access_checks.yes_iff ws b c p i s d).1 (W, record { reached = a; may = m })) in
        let n = (lowest_of y).none_lower a in
        rw y.is_answer (by_i y n (below_or_not a.issuer y.role.issuer), λ e. by_n y n e (below_or_not a.number y.role.number))
      where
        by_i : (y : Yes) → (Lower a y.role → MayUsePermissionThrough (view ws) c p i s a → ⊥) → (a.issuer < y.role.issuer) ⊎ (y.role.issuer ≤ a.issuer) → y.role.issuer ≤ a.issuer
        by_i y n (inl l) = absurd (n (by_issuer l) m)
        by_i y n (inr l) = l

        by_n : (y : Yes) → (Lower a y.role → MayUsePermissionThrough (view ws) c p i s a → ⊥) → y.role.issuer ≡ a.issuer → (a.number < y.role.number) ⊎ (y.role.number ≤ a.number) → y.role.number ≤ a.number
        by_n y n e (inl l) = absurd (n (by_number (sym e) l) m)
        by_n y n e (inr l) = l

    led_to : (monitor ws b).answer.verdict ≡ 1 → Chain (view ws) i (monitor ws b).answer.through.issuer
    led_to h = let y = yes_of h in rw y.is_answer (chains.reached (view ws) y.lawful.lawful (i # (lowest_of y).may.its_role) y.role (lowest_of y).may.is_reached)

    trusted : (monitor ws b).answer.verdict ≡ 1 → (view ws).stands (trusts (monitor ws b).answer.through.issuer c) ≡ true
    trusted h = let y = yes_of h in rw y.is_answer (grant_trust (view ws) y.lawful.lawful (lowest_of y).may.is_holder)

  with_a_yes : (monitor ws b).answer.verdict ≡ 1 → (a : Role) × (a.issuer < 16) × (a.number < 16) × ((monitor ws b).answer ≡ accepts (some a))
  with_a_yes h =
      let y = yes_of h in
      let n = holders_numbered (view ws) y.lawful.lawful y.owner y.asked y.role y.lowest.may.is_holder in
      (y.role, n.0, n.1, y.is_answer)

  without_a_yes : ((monitor ws b).answer.verdict ≡ 1 → ⊥) → (monitor ws b).answer.through ≡ 255 # 255
  without_a_yes n = go (says ws b)
    where
      go : Says ws b (monitor ws b).answer → (monitor ws b).answer.through ≡ 255 # 255
      go (no_yes z t) = t
      go (a_yes W d l x) = absurd (n (ap (λ y. y.verdict) x))

  refused : ((monitor ws b).answer.refusal ≡ 0 → ⊥) → (monitor ws b).answer.through ≡ 255 # 255
  refused n = go (says ws b)
    where
      go : Says ws b (monitor ws b).answer → (monitor ws b).answer.through ≡ 255 # 255
      go (no_yes z t) = t
      go (a_yes W d l x) = absurd (n (ap (λ y. y.refusal) x))

  other_kinds : ((c p i s : ℕ) → decode b ≡ request c (CheckAccess p i s) → ⊥) → ((monitor ws b).answer.verdict ≡ 0) × ((monitor ws b).answer.through ≡ 255 # 255)
  other_kinds n = go (says ws b)
    where
      go : Says ws b (monitor ws b).answer → ((monitor ws b).answer.verdict ≡ 0) × ((monitor ws b).answer.through ≡ 255 # 255)
      go (no_yes z t) = (z, t)
      go (a_yes W {c} {p} {i} {s} d l x) = absurd (n c p i s d)

starting : (ws : List ℕ) → (start ws).answer.through ≡ 255 # 255
unfolding start
starting ws = go (eqb (length ws) state_length) refl
  where
    go : (x : Bool) → eqb (length ws) state_length ≡ x → (start ws).answer.through ≡ 255 # 255
    go true e = rw (e, start)
    go false e = rw (e, start)

pub through : Through
through = record {
  yes_iff = λ ws b c p i s a d. yes_iff ws b d a;
  with_a_yes = with_a_yes;
  lowest_issuer = λ ws b c p i s a d W m. (at_least ws b d a W m).0;
  lowest_number = λ ws b c p i s a d W m. (at_least ws b d a W m).1;
  without_a_yes = without_a_yes;
  refused = refused;
  other_kinds = other_kinds;
  starting = starting;
  led_to = λ ws b c p i s d. led_to ws b d;
  trusted = λ ws b c p i s d. trusted ws b d;
}
