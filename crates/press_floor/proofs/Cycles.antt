-- The forty-one cycles: the desk's answers are computed on states and carried to words, and each action is computed with them.
use mathlib.Core.Path.{◌≡◌, refl, ap, subst, ◌∙◌}
use mathlib.Core.List.{List, [], ◌∷◌, ◌++◌}
use mathlib.Core.Bool.{true, false, decide}
use mathlib.Core.Option.{none, some}
use Prim.Native.Nat.{ℕ, zero, suc, ◌+◌, ◌*◌, ◌<◌}
use native.Mathlib.Decide.{ℕ_discrete}
use native.Mathlib.Omega.{arith}
use lib.ListN.{replicate, replicate-append-replicate}
use Rattle.bits.specs.Below.{any_below, find_below, lowest_below}
use Rattle.bits.proofs.Booleans.{clash}
use Rattle.mtas.specs.Fact.{Fact, trusts, same}
use Rattle.mtas.specs.Needs.{exposed}
use Rattle.mtas.specs.State.{State, listed, put, cut}
use Rattle.mtas.specs.Hierarchy.{◌#◌, within}
use Rattle.mtas.specs.Settle.{authorized, settle}
use Rattle.mtas.specs.Answer.{Answer, accepts, first_cause, outcome, may_use_through, lowest_role, lookup, answer, next}
use Rattle.mtas.specs.Layout.{view}
use Rattle.mtas.specs.Record.{decode, encode_call}
use Rattle.mtas.specs.Monitor.{monitor}
use Rattle.mtas.specs.Histories.{History}
use Rattle.mtas.specs.Chain.{Chain}
use Rattle.mtas.proofs.Words.{view_numbered}
use Rattle.mtas.proofs.Chain.{chains}
use Rattle.press_house.specs.Cases as house
use Rattle.press_house.specs.Cases.{Case, NoneStand}
use Rattle.press_house.proofs.Cases.{after_all, EveryOnStates, every}
use Rattle.press.specs.Stages.{idle, loaded, pressing, held, load, start, pause, resume, empty, next_in}
use Rattle.press.specs.Acted.{ends_in, misfit, question, acted, act}
use Rattle.press.specs.Floor.{Request, Outcome, floor}
use Rattle.press.proofs.Laws.{press_laws}
use Rattle.press_floor.specs.Cycles.{granting, granted_words, withdrawing, withdrawn_words, owners, all_idle, at, on_7, cycle, times, tries, Tried, Cycles}

-- ---- the desk, asked by 1 for each action of 0/4
abbrev asked : History → Answer → List Fact → List Case
asked h a gone =
    house.try h (question 1 load 0 4) a gone
    ∷ house.try h (question 1 start 0 4) a []
    ∷ house.try h (question 1 pause 0 4) a []
    ∷ house.try h (question 1 resume 0 4) a []
    ∷ house.try h (question 1 empty 0 4) a []
    ∷ []

-- trust of 0 in the issuers 1 to n
abbrev in_others : ℕ → List Fact
in_others zero = []
in_others (suc n) = trusts 0 (suc n) ∷ in_others n

-- a yes through 0#2
abbrev through_2 : Answer
through_2 = accepts (some (0 # 2))

says_yes : EveryOnStates (asked granting through_2 [])
unfolding after_all encode_call decode answer next outcome first_cause may_use_through lowest_role lookup authorized settle within put cut listed same exposed decide ℕ_discrete any_below find_below lowest_below
says_yes = ((refl, tt), ((refl, tt), ((refl, tt), ((refl, tt), ((refl, tt), tt)))))

-- after the withdrawal 0 trusts nobody but itself
says_no : EveryOnStates (asked withdrawing (accepts none) (in_others 15))
unfolding after_all encode_call decode answer next outcome first_cause may_use_through lowest_role lookup authorized settle within put cut listed same exposed decide ℕ_discrete any_below find_below lowest_below
says_no = ((refl, (refl, (refl, (refl, (refl, (refl, (refl, (refl, (refl, (refl, (refl, (refl, (refl, (refl, (refl, (refl, tt)))))))))))))))), ((refl, tt), ((refl, tt), ((refl, tt), ((refl, tt), tt)))))

-- ---- the floor, with the desk's answers: one request more
more : (ws stages : List ℕ) (a : ℕ) (d : Answer) (n : ℕ) (after : List ℕ) → (monitor ws (question 1 a 0 4)).answer ≡ d
    → acted d ws owners stages 7 a ≡ ends_in n after ws
    → (l : List Request) {out : Outcome} → floor ws owners after l ≡ out → floor ws owners stages (on_7 a ∷ l) ≡ record { errors = n ∷ out.errors; stages = out.stages }
unfolding floor act
more ws stages a d n after e h l k = rw (e, h) (ap (λ o. record { errors = n ∷ o.errors; stages = o.stages }) k)

one-cycle : (l : List Request) (out : Outcome) → floor granted_words owners all_idle l ≡ out
    → floor granted_words owners all_idle (cycle ++ l) ≡ record { errors = replicate 6 0 ++ out.errors; stages = out.stages }
unfolding acted misfit any_below next_in
one-cycle l out h =
    let yes = every (asked granting through_2 []) says_yes in
    more granted_words (at idle) load through_2 0 (at loaded) yes.0.0 refl _
    (more granted_words (at loaded) start through_2 0 (at pressing) yes.1.0.0 refl _
    (more granted_words (at pressing) pause through_2 0 (at held) yes.1.1.0.0 refl _
    (more granted_words (at held) resume through_2 0 (at pressing) yes.1.1.1.0.0 refl _
    (more granted_words (at pressing) pause through_2 0 (at held) yes.1.1.0.0 refl _
    (more granted_words (at held) empty through_2 0 (at idle) yes.1.1.1.1.0.0 refl l h)))))

turned_down : (l : List Request) (out : Outcome) → floor withdrawn_words owners all_idle l ≡ out
    → floor withdrawn_words owners all_idle (cycle ++ l) ≡ record { errors = replicate 6 18 ++ out.errors; stages = out.stages }
unfolding acted misfit any_below
turned_down l out h =
    let no = every (asked withdrawing (accepts none) (in_others 15)) says_no in
    more withdrawn_words all_idle load (accepts none) 18 all_idle no.0.0 refl _
    (more withdrawn_words all_idle start (accepts none) 18 all_idle no.1.0.0 refl _
    (more withdrawn_words all_idle pause (accepts none) 18 all_idle no.1.1.0.0 refl _
    (more withdrawn_words all_idle resume (accepts none) 18 all_idle no.1.1.1.0.0 refl _
    (more withdrawn_words all_idle pause (accepts none) 18 all_idle no.1.1.0.0 refl _
    (more withdrawn_words all_idle empty (accepts none) 18 all_idle no.1.1.1.1.0.0 refl l h)))))

not_paused : (l : List Request) (out : Outcome) → floor withdrawn_words owners (at pressing) l ≡ out
    → floor withdrawn_words owners (at pressing) (on_7 pause ∷ l) ≡ record { errors = replicate 1 18 ++ out.errors; stages = out.stages }
unfolding acted misfit any_below
not_paused l out h = more withdrawn_words (at pressing) pause (accepts none) 18 (at pressing) (every (asked withdrawing (accepts none) (in_others 15)) says_no).1.1.0.0 refl l h

-- ---- over and over
once_more : (m n : ℕ) → m + m * n ≡ m * suc n
once_more m n = omega arith

not_once : (m : ℕ) → 0 ≡ m * 0
not_once m = omega arith

module _ (ws stages : List ℕ) (requests : List Request) (m e : ℕ)
    (once : (l : List Request) (out : Outcome) → floor ws owners stages l ≡ out → floor ws owners stages (requests ++ l) ≡ record { errors = replicate m e ++ out.errors; stages = out.stages }) where
  again : (n : ℕ) → floor ws owners stages (times n requests) ≡ record { errors = replicate (m * n) e; stages = stages }
  unfolding floor times
  again zero = ap (λ k. record { errors = replicate k e; stages = stages }) (not_once m)
  again (suc n) =
      once (times n requests) _ (again n)
      ∙ ap (λ l. record { errors = l; stages = stages }) (replicate-append-replicate m (m * n) e ∙ ap (λ k. replicate k e) (once_more m n))

-- ---- every action at every stage
all_tried : Tried tries
unfolding acted misfit any_below next_in floor
all_tried =
    let yes = every (asked granting through_2 []) says_yes in
    let y₀ = yes.0.0 in
    let y₁ = yes.1.0.0 in
    let y₂ = yes.1.1.0.0 in
    let y₃ = yes.1.1.1.0.0 in
    let y₄ = yes.1.1.1.1.0.0 in
    (one 0 0 0 1 y₀ refl, (one 1 0 19 0 y₁ refl, (one 2 0 19 0 y₂ refl, (one 3 0 19 0 y₃ refl, (one 4 0 19 0 y₄ refl, (one 0 1 19 1 y₀ refl, (one 1 1 0 2 y₁ refl, (one 2 1 19 1 y₂ refl, (one 3 1 19 1 y₃ refl, (one 4 1 0 0 y₄ refl, (one 0 2 19 2 y₀ refl, (one 1 2 19 2 y₁ refl, (one 2 2 0 3 y₂ refl, (one 3 2 19 2 y₃ refl, (one 4 2 19 2 y₄ refl, (one 0 3 19 3 y₀ refl, (one 1 3 19 3 y₁ refl, (one 2 3 19 3 y₂ refl, (one 3 3 0 2 y₃ refl, (one 4 3 0 0 y₄ refl, tt))))))))))))))))))))
  where
    one : (a s n t : ℕ) → (monitor granted_words (question 1 a 0 4)).answer ≡ through_2 → acted through_2 granted_words owners (at s) 7 a ≡ ends_in n (at t) granted_words
        → floor granted_words owners (at s) (on_7 a ∷ []) ≡ record { errors = n ∷ []; stages = at t }
    one a s n t e h = more granted_words (at s) a through_2 n (at t) e h [] refl

-- ---- no chain of trust leads from 0 to 1
not-trusted : (st : State) (n : ℕ) → NoneStand st (in_others n) → (k : ℕ) → k < n → st.stands (trusts 0 (suc k)) ≡ false
not-trusted st zero h k l = absurd (omega arith)
not-trusted st (suc n) (h, r) k l = go (λ b. not-trusted st n r k b) (ℕ_discrete k n)
  where
    go : (k < n → st.stands (trusts 0 (suc k)) ≡ false) → Dec (k ≡ n) → st.stands (trusts 0 (suc k)) ≡ false
    go rec (yes e) = rw e h
    go rec (no d) = rec (omega arith)

-- 0 trusts 0 alone
no_way : Chain (view withdrawn_words) 0 1 → ⊥
no_way c = let e = (chains.chain_iff (view withdrawn_words) 0 1).0 c (λ j. j ≡ 0) closed refl in omega (arith, e)
  where
    closed : (j k : ℕ) → j ≡ 0 → (view withdrawn_words).stands (trusts j k) ≡ true → k ≡ 0
    closed j k e h = go k (subst (λ x. (view withdrawn_words).stands (trusts x k) ≡ true) e h)
      where
        go : (k : ℕ) → (view withdrawn_words).stands (trusts 0 k) ≡ true → k ≡ 0
        go zero h = refl
        go (suc k) h =
            let b = view_numbered withdrawn_words (trusts 0 (suc k)) h in
            absurd (clash h (not-trusted (view withdrawn_words) 15 (every (asked withdrawing (accepts none) (in_others 15)) says_no).0.1 k (omega (arith, b.1.0))))

pub cycles : Cycles
cycles = record {
  all_tried = all_tried;
  run = again granted_words all_idle cycle 6 0 one-cycle;
  stand_still = again withdrawn_words all_idle cycle 6 18 turned_down;
  left_pressing = again withdrawn_words (at pressing) (on_7 pause ∷ []) 1 18 not_paused;
  never_again = λ stages l by-0. press_laws.stands_still withdrawn_words owners stages 7 l (λ n q e p c. no_way (subst (λ x. Chain (view withdrawn_words) x 1) (by-0 n q e p) c));
}
