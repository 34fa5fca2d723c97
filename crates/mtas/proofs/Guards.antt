-- What an accepted call has shown: each of its guards passed. What a refused one is given is one of the refusals.
use mathlib.Core.Path.{◌≡◌, refl}
use mathlib.Core.List.{List, [], ◌∷◌, ◌++◌}
use mathlib.Core.Bool.{Bool, true, false}
use Prim.Native.Nat.{ℕ}
use native.Mathlib.Omega.{arith}
use borrow.Author.Tests.{not-false}
use lib.ListN.{drop}
use Rattle.bits.proofs.Booleans.{clash, and_left, and_right}
use Rattle.mtas.specs.Fact.{enrolled, Below16}
use Rattle.mtas.specs.State.{State, user_of}
use Rattle.mtas.specs.Hierarchy.{reaches}
use Rattle.mtas.specs.Law.{attachments}
use Rattle.mtas.specs.Settle.{authorized}
use Rattle.mtas.specs.Call.{Call, arguments}
use Rattle.mtas.specs.Rule.{Guard, absent, present, wrong, reached, unauthorized, cause, applies, Whose, operator's, issuer's, rule, may_call, front, guards, refusals, from_first, among_numbers, in_order}
use Rattle.mtas.specs.Answer.{accepted, refused, first_cause, outcome}
use Rattle.mtas.proofs.Facts.{below_16}
use Rattle.mtas.proofs.Refusals.{first_rest, still_among, tried_in_order}

-- what a guard says that doesn't apply
abbrev pub Passes : State → Guard → Type 0
Passes st (absent n f) = st.stands f ≡ true
Passes st (present n f) = st.stands f ≡ false
Passes st (wrong n b) = b ≡ false
Passes st (reached n a b) = reaches (attachments st) a b ≡ false
Passes st (unauthorized n i u r) = authorized st (attachments st) i u r ≡ true

abbrev pub Clear : State → List Guard → Type 0
Clear st [] = Unit
Clear st (g ∷ l) = Passes st g × Clear st l

pub passes : (st : State) (g : Guard) → applies st g ≡ false → Passes st g
passes st (absent n f) h = not-false (st.stands f) h
passes st (present n f) h = h
passes st (wrong n b) h = h
passes st (reached n a b) h = h
passes st (unauthorized n i u r) h = not-false (authorized st (attachments st) i u r) h

clear : (st : State) (l : List Guard) → first_cause st l ≡ accepted → Clear st l
unfolding first_cause
clear st [] h = tt
clear st (g ∷ l) h = go (clear st l) (applies st g) refl
  where
    go : (first_cause st l ≡ accepted → Clear st l) → (b : Bool) → applies st g ≡ b → Clear st (g ∷ l)
    go rec true e = absurd (let z : ◌≡◌ {A = ℕ} 0 1 = cc (rw (e, first_cause) at h) in omega arith)
    go rec false e = (passes st g e, rec (rw (e, first_cause) at h))

-- what a caller and its arguments have shown by passing the front
pub record Admitted (st : State) (w : Whose) (c : ℕ) (l : List ℕ) : Type 0 where
  pub may : may_call w c ≡ true
  pub known : w ≡ issuer's → st.stands (enrolled c) ≡ true
  pub small : Below16 l

pub admitted : (st : State) (w : Whose) (c : ℕ) (l : List ℕ) (m : List Guard) → Clear st (front w c l ++ m) → Admitted st w c l × Clear st m
admitted st operator's c l m h = (record { may = not-false _ h.0; known = λ e. absurd (let z : ◌≡◌ {A = ℕ} 0 1 = cc in omega arith); small = below_16 l h.1.0 }, h.1.1)
admitted st issuer's c l m h = (record { may = not-false _ h.0; known = λ _. h.1.0; small = below_16 l h.1.1.0 }, h.1.1.1)

-- what an accepted call has shown: the front, and the causes of its own row
pub record Passed (st : State) (c : ℕ) (k : Call) : Type 0 where
  pub front : Admitted st (rule (user_of st c) c k).whose c (arguments k)
  pub own : Clear st (rule (user_of st c) c k).causes

pub passed : (st : State) (c : ℕ) (k : Call) → outcome st c k ≡ accepted → Passed st c k
unfolding outcome
passed st c k e =
    let (f, o) = admitted st (rule (user_of st c) c k).whose c (arguments k) (rule (user_of st c) c k).causes (clear st (guards (user_of st c) c k) e) in
    record { front = f; own = o }

-- a refusal is one of the list
pub refused-among : (st : State) (l : List ℕ) (m : List Guard) (n : ℕ) → in_order l m ≡ true → first_cause st m ≡ refused n → among_numbers n l ≡ true
unfolding first_cause
refused-among st l [] n a h = absurd (let z : ◌≡◌ {A = ℕ} 0 1 = cc in omega arith)
refused-among st l (g ∷ m) n a h = go (refused-among st (from_first (cause g) l) m n) (applies st g) refl
  where
    go : (in_order (from_first (cause g) l) m ≡ true → first_cause st m ≡ refused n → among_numbers n (from_first (cause g) l) ≡ true) → (b : Bool) → applies st g ≡ b → among_numbers n l ≡ true
    go rec true e = let q : cause g ≡ n = cc (rw (e, first_cause) at h) in rw (← q) (and_left (among_numbers (cause g) l) (in_order (from_first (cause g) l) m) a)
    go rec false e = still_among n (first_rest (cause g) l) (rec (and_right (among_numbers (cause g) l) (in_order (from_first (cause g) l) m) a) (rw (e, first_cause) at h))

-- and so never 0
pub refused-not_0 : (st : State) (c : ℕ) (k : Call) (n : ℕ) → outcome st c k ≡ refused n → n ≡ 0 → ⊥
unfolding outcome
refused-not_0 st c k n e z = clash (rw z at (refused-among st (drop 3 refusals) (guards (user_of st c) c k) n (tried_in_order (user_of st c) c k) e)) refl
