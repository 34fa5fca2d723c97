-- Cases A to L, the further cases and those of Cards 1, 2 and 4: computed on states, and carried to words and bytes.
use mathlib.Core.Path.{◌≡◌, refl, ap, sym, ◌∙◌}
use mathlib.Core.Logic.{◌⊎◌, inl, inr}
use mathlib.Core.List.{List, [], ◌∷◌}
use mathlib.Core.Bool.{true, false, decide}
use Prim.Native.Nat.{ℕ}
use native.Mathlib.Decide.{ℕ_discrete}
use native.Mathlib.Omega.{arith}
use lib.Dec.{eqb}
use lib.ListN.{length-append}
use Rattle.bits.specs.Bit.{bit}
use Rattle.bits.specs.Below.{any_below, find_below, lowest_below}
use Rattle.bits.proofs.Booleans.{clash}
use Rattle.bits.proofs.Bit.{bit_0}
use Rattle.bits.proofs.Below.{length-tabulate, get_d_tabulate}
use Rattle.mtas.specs.Fact.{user, attached, opened, active, same, numbers, above_15}
use Rattle.mtas.specs.Needs.{needs, exposed}
use Rattle.mtas.specs.State.{State, nothing, listed, put, cut}
use Rattle.mtas.specs.Hierarchy.{itself, within}
use Rattle.mtas.specs.Law.{In, here, there, attachments, Authorized, Lawful}
use Rattle.mtas.specs.Settle.{authorized, settle}
use Rattle.mtas.specs.Answer.{first_cause, outcome, may_use_through, lowest_role, lookup, answer, next}
use Rattle.mtas.specs.Layout.{users_at, sessions_at, state_length, encode}
use Rattle.mtas.specs.LawTest.{LawfulWords}
use Rattle.mtas.specs.Record.{decode}
use Rattle.mtas.specs.Monitor.{answered, state_after}
use Rattle.mtas.specs.Histories.{History, final}
use Rattle.press_house.specs.Cases.{S_facts, S, Case, try, twelve_cases, further_cases, indoor_cases, lesser_cases, dropped_cases, between_cases, sign_of_life_cases, zeros, NoState, NoneStand, Holds, Every}
use Rattle.mtas.proofs.Facts.{All, all_in, put-new, put_cases, below_16}
use Rattle.mtas.proofs.Law.{nothing_lawful, put_lawful, put_acyclic}
use Rattle.mtas.proofs.Step.{differ}
use Rattle.mtas.proofs.Words.{encode_length, view_says, view-encode}
use Rattle.mtas.proofs.Monitor.{monitor-encode, state_after-lawful, wrong_length, not_lawful}

-- each fact of S has what it needs in S
S-supported : All (λ f. All (λ g. In g S_facts) (needs f)) S_facts
unfolding exposed
S-supported = (search (here, there) depth 16, (search (here, there) depth 16, (search (here, there) depth 16, (search (here, there) depth 16, (search (here, there) depth 16, (search (here, there) depth 16, (search (here, there) depth 16, (search (here, there) depth 16, (search (here, there) depth 16, (search (here, there) depth 16, (search (here, there) depth 16, (search (here, there) depth 16, (search (here, there) depth 16, (search (here, there) depth 16, tt))))))))))))))

-- the one open session is 0/4, for 0@3, and no role is attached
S-plain : (i s u j q k r : ℕ) → All (λ f. (f ≡ opened i s u → u ≡ 3) × (f ≡ attached j q k r → ◌≡◌ {A = ℕ} 0 1)) S_facts
S-plain i s u j q k r = (((λ e. cc), λ e. cc), (((λ e. cc), λ e. cc), (((λ e. cc), λ e. cc), (((λ e. cc), λ e. cc), (((λ e. cc), λ e. cc), (((λ e. cc), λ e. cc), (((λ e. cc), λ e. cc), (((λ e. cc), λ e. cc), (((λ e. cc), λ e. cc), (((λ e. cc), λ e. cc), (((λ e. cc), λ e. cc), (((λ e. cc), λ e. cc), (((λ e. cc), λ e. cc), (((λ e. cc), λ e. cc), tt))))))))))))))

S-session : (i s u : ℕ) → In (opened i s u) S_facts → u ≡ 3
S-session i s u m = (all_in (λ f. (f ≡ opened i s u → u ≡ 3) × (f ≡ attached 0 0 0 0 → ◌≡◌ {A = ℕ} 0 1)) (S-plain i s u 0 0 0 0) m).0 refl

S_unattached : (j q k r : ℕ) → In (attached j q k r) S_facts → ⊥
S_unattached j q k r m =
    differ ((all_in (λ f. (f ≡ opened 0 0 0 → ◌≡◌ {A = ℕ} 0 3) × (f ≡ attached j q k r → ◌≡◌ {A = ℕ} 0 1)) (S-plain 0 0 0 j q k r) m).1 refl)

-- its one active role is 0#2, which 0@3 holds
S-active : (i s u r : ℕ) → All (λ f. f ≡ active i s u r → (i ≡ 0) × (u ≡ 3) × (r ≡ 2)) S_facts
S-active i s u r = ((λ e. ((cc), (cc), (cc))), ((λ e. ((cc), (cc), (cc))), ((λ e. ((cc), (cc), (cc))), ((λ e. ((cc), (cc), (cc))), ((λ e. ((cc), (cc), (cc))), ((λ e. ((cc), (cc), (cc))), ((λ e. ((cc), (cc), (cc))), ((λ e. ((cc), (cc), (cc))), ((λ e. ((cc), (cc), (cc))), ((λ e. ((cc), (cc), (cc))), ((λ e. ((cc), (cc), (cc))), ((λ e. ((cc), (cc), (cc))), ((λ e. ((cc), (cc), (cc))), ((λ e. ((cc), (cc), (cc))), tt))))))))))))))

S-reached : (i s u r : ℕ) → In (active i s u r) S_facts → Authorized S (attachments S) i u r
S-reached i s u r m =
    let (a, b, c) = all_in (λ f. f ≡ active i s u r → (i ≡ 0) × (u ≡ 3) × (r ≡ 2)) (S-active i s u r) m refl in
    rw (a, b, c) (record { through = 2; is_held = put-new S_facts nothing (search (here, there) depth 16); is_reached = itself })

S-numbered : All (λ f. above_15 (numbers f) ≡ false) S_facts
S-numbered = (refl, (refl, (refl, (refl, (refl, (refl, (refl, (refl, (refl, (refl, (refl, (refl, (refl, (refl, tt))))))))))))))

pub S-lawful : Lawful S
S-lawful =
    put_lawful nothing nothing_lawful S_facts
    (λ f g m n. put-new S_facts nothing (all_in (λ x. In x S_facts) (all_in (λ x. All (λ y. In y S_facts) (needs x)) S-supported m) n))
    (λ f m. below_16 (numbers f) (all_in (λ x. above_15 (numbers x) ≡ false) S-numbered m))
    (λ i s u v m h. S-session i s u m ∙ sym (again i s v (put_cases S_facts nothing (opened i s v) h)))
    (put_acyclic nothing nothing_lawful S_facts S_unattached)
    S-reached
  where
    again : (i s v : ℕ) → (In (opened i s v) S_facts) ⊎ (nothing.stands (opened i s v) ≡ true) → v ≡ 3
    again i s v (inl m) = S-session i s v m
    again i s v (inr h) = absurd (clash h refl)

-- ---- a history on states
unfoldable pub after_all : State → History → State
after_all st [] = st
after_all st (b ∷ h) = after_all (state_after st (decode b)) h

after-lawful : (h : History) (st : State) → Lawful st → Lawful (after_all st h)
unfolding after_all
after-lawful [] st L = L
after-lawful (b ∷ h) st L = after-lawful h (state_after st (decode b)) (state_after-lawful st L (decode b))

final-is : (h : History) (st : State) → Lawful st → final (encode st) h ≡ encode (after_all st h)
unfolding final after_all
final-is [] st L = refl
final-is (b ∷ h) st L = rw (monitor-encode st L b) (final-is h (state_after st (decode b)) (state_after-lawful st L (decode b)))

abbrev OnStates : Case → Type 0
OnStates (try earlier b a gone) =
    (answered (after_all S earlier) (decode b) ≡ a) × NoneStand (after_all S earlier) gone

carried : (c : Case) → OnStates c → Holds c
carried (try earlier b _ gone) (a, n) =
    let L = after-lawful earlier S S-lawful in
    rw (final-is earlier S S-lawful) (ap (λ r. r.answer) (monitor-encode (after_all S earlier) L b) ∙ a, rw (view-encode (after_all S earlier) L) n)

abbrev pub EveryOnStates : List Case → Type 0
EveryOnStates [] = Unit
EveryOnStates (c ∷ l) = OnStates c × EveryOnStates l

pub every : (l : List Case) → EveryOnStates l → Every l
every [] h = tt
every (c ∷ l) h = (carried c h.0, every l h.1)

twelve : EveryOnStates twelve_cases
unfolding after_all decode answer next outcome first_cause may_use_through lowest_role lookup authorized settle within put cut listed same exposed decide ℕ_discrete any_below find_below lowest_below
twelve = ((refl, tt), ((refl, (refl, tt)), ((refl, tt), ((refl, tt), ((refl, tt), ((refl, tt), ((refl, (refl, (refl, tt))), ((refl, tt), ((refl, tt), ((refl, tt), ((refl, tt), ((refl, tt), tt))))))))))))

pub twelve_hold : Every twelve_cases
twelve_hold = every twelve_cases twelve

further : EveryOnStates further_cases
unfolding after_all decode answer next outcome first_cause may_use_through lowest_role lookup authorized settle within put cut listed same exposed decide ℕ_discrete any_below find_below lowest_below
further = ((refl, (refl, tt)), ((refl, (refl, tt)), ((refl, (refl, tt)), ((refl, (refl, tt)), ((refl, tt), ((refl, (refl, tt)), ((refl, (refl, (refl, (refl, tt)))), ((refl, tt), ((refl, (refl, (refl, (refl, tt)))), ((refl, (refl, (refl, (refl, (refl, (refl, tt)))))), ((refl, (refl, (refl, tt))), ((refl, (refl, (refl, tt))), ((refl, (refl, (refl, tt))), ((refl, (refl, tt)), ((refl, tt), ((refl, tt), ((refl, tt), ((refl, tt), ((refl, tt), ((refl, tt), ((refl, tt), ((refl, tt), ((refl, tt), tt)))))))))))))))))))))))

pub further_hold : Every further_cases
further_hold = every further_cases further

indoors : EveryOnStates indoor_cases
unfolding after_all decode answer next outcome first_cause may_use_through lowest_role lookup authorized settle within put cut listed same exposed decide ℕ_discrete any_below find_below lowest_below
indoors = ((refl, (refl, tt)), ((refl, tt), ((refl, tt), ((refl, tt), ((refl, (refl, tt)), ((refl, tt), ((refl, (refl, tt)), ((refl, tt), ((refl, (refl, tt)), ((refl, tt), ((refl, (refl, tt)), ((refl, (refl, tt)), ((refl, (refl, (refl, tt))), ((refl, (refl, tt)), ((refl, (refl, tt)), ((refl, (refl, tt)), ((refl, (refl, tt)), ((refl, tt), ((refl, (refl, tt)), ((refl, (refl, tt)), ((refl, tt), ((refl, (refl, tt)), ((refl, (refl, tt)), tt)))))))))))))))))))))))

pub indoor_hold : Every indoor_cases
indoor_hold = every indoor_cases indoors

lesser : EveryOnStates lesser_cases
unfolding after_all decode answer next outcome first_cause may_use_through lowest_role lookup authorized settle within put cut listed same exposed decide ℕ_discrete any_below find_below lowest_below
lesser = ((refl, (refl, tt)), ((refl, (refl, (refl, tt))), ((refl, tt), ((refl, tt), ((refl, tt), ((refl, tt), ((refl, tt), ((refl, (refl, tt)), tt))))))))

pub lesser_hold : Every lesser_cases
lesser_hold = every lesser_cases lesser

dropped : EveryOnStates dropped_cases
unfolding after_all decode answer next outcome first_cause may_use_through lowest_role lookup authorized settle within put cut listed same exposed decide ℕ_discrete any_below find_below lowest_below
dropped = ((refl, (refl, tt)), ((refl, tt), ((refl, (refl, tt)), ((refl, (refl, (refl, (refl, tt)))), ((refl, (refl, (refl, (refl, tt)))), ((refl, (refl, (refl, tt))), ((refl, (refl, tt)), ((refl, (refl, tt)), tt))))))))

pub dropped_hold : Every dropped_cases
dropped_hold = every dropped_cases dropped

between : EveryOnStates between_cases
unfolding after_all decode answer next outcome first_cause may_use_through lowest_role lookup authorized settle within put cut listed same exposed decide ℕ_discrete any_below find_below lowest_below
between = ((refl, (refl, (refl, tt))), ((refl, (refl, tt)), ((refl, (refl, (refl, tt))), tt)))

pub between_hold : Every between_cases
between_hold = every between_cases between

signs_of_life : EveryOnStates sign_of_life_cases
unfolding after_all decode answer next outcome first_cause may_use_through lowest_role lookup authorized settle within put cut listed same exposed decide ℕ_discrete any_below find_below lowest_below
signs_of_life = ((refl, tt), ((refl, tt), ((refl, tt), ((refl, tt), ((refl, tt), tt)))))

pub sign_of_life-holds : Every sign_of_life_cases
sign_of_life-holds = every sign_of_life_cases signs_of_life

-- zeros have an open session of a user that isn't there
zeros-not_lawful : LawfulWords zeros → ⊥
zeros-not_lawful W =
    let zero-at = get_d_tabulate state_length (λ k. 0) in
    clash
    (W.lawful.supported (opened 0 0 0) (user 0 0) (view_says zeros (opened 0 0 0) (omega arith, (omega arith, (omega arith, tt))) ∙ ap (λ x. eqb x 0) (zero-at sessions_at (omega arith))) here)
    (view_says zeros (user 0 0) (omega arith, (omega arith, tt)) ∙ ap (λ x. bit x 0) (zero-at users_at (omega arith)) ∙ bit_0 0)

pub no_state : NoState
no_state = record {
  one_more = wrong_length _ [] (λ e. omega (arith, length-append (encode S) (0 ∷ []), encode_length S));
  never_started = not_lawful zeros [] (length-tabulate state_length (λ k. 0)) zeros-not_lawful;
}
