-- Facts in lists, what a fact stands on, and what the two changes leave.
use mathlib.Core.Path.{◌≡◌, refl, ap, subst}
use mathlib.Core.List.{List, [], ◌∷◌}
use mathlib.Core.Logic.{◌⊎◌, inl, inr}
use mathlib.Core.Bool.{Bool, true, false, decide}
use native.Mathlib.Decide.{ℕ_discrete}
use lib.Dec.{ltb}
use borrow.Author.Tests.{ltb-true, lt-ltb}
use Prim.Native.Nat.{ℕ}
use Rattle.bits.proofs.Booleans.{clash, untrue}
use Rattle.mtas.specs.Fact.{Fact, Fact-discrete, enrolled, trusts, user, role, permission, public, holds, granted, attached, opened, active, same, above_15, Below16}
use Rattle.mtas.specs.Needs.{needs, exposed}
use Rattle.mtas.specs.State.{State, listed, put, cut}
use Rattle.mtas.specs.Law.{In, here, there}
use Rattle.mtas.proofs.Exposed.{exposed_has}

pub same_true : {f g : Fact} → same f g ≡ true → f ≡ g
unfolding same decide
same_true {f} {g} h = go (Fact-discrete ℕ_discrete f g) h
  where
    go : (d : Dec (f ≡ g)) → decide d ≡ true → f ≡ g
    go (yes p) e = p
    go (no q) e = absurd (clash e refl)

pub same_refl : (f : Fact) → same f f ≡ true
unfolding same decide
same_refl f = go (Fact-discrete ℕ_discrete f f)
  where
    go : (d : Dec (f ≡ f)) → decide d ≡ true
    go (yes p) = refl
    go (no q) = absurd (q refl)

in_listed : {f : Fact} {l : List Fact} → In f l → listed l f ≡ true
unfolding listed
in_listed {f} (here {l}) = rw (same_refl f, listed)
in_listed {f} (there {g} {l} m) = go (in_listed m) (same f g) refl
  where
    go : listed l f ≡ true → (b : Bool) → same f g ≡ b → listed (g ∷ l) f ≡ true
    go rec true e = rw (e, listed)
    go rec false e = rw (e, listed) rec

listed_in : (l : List Fact) {f : Fact} → listed l f ≡ true → In f l
unfolding listed
listed_in [] h = absurd (clash h refl)
listed_in (g ∷ l) {f} h = go (λ k. listed_in l {f = f} k) (same f g) refl
  where
    go : (listed l f ≡ true → In f l) → (b : Bool) → same f g ≡ b → In f (g ∷ l)
    go rec true e = subst (λ (x : Fact). In f (x ∷ l)) (same_true e) here
    go rec false e = there (rec (rw (e, listed) at h))

pub in_one : {g f : Fact} → In g (f ∷ []) → f ≡ g
in_one {g} here = refl
in_one {g = g} {f = f} (there m) = elim m [ ]

abbrev pub All : (Fact → Type 0) → List Fact → Type 0
All P [] = Unit
All P (f ∷ l) = P f × All P l

pub all_in : (P : Fact → Type 0) {f : Fact} {l : List Fact} → All P l → In f l → P f
all_in P a here = a.0
all_in P a (there m) = all_in P a.1 m

-- a fact and what it needs
abbrev pub roots : Fact → List Fact
roots f = f ∷ needs f

-- what an exposed role needs is in a list with the role and its issuer's enrolment
exposed_rooted : (j i r : ℕ) {l : List Fact} → In (exposed j i r) l → In (role i r) l → In (enrolled i) l → In (trusts i i) l → All (λ f. In f l) (roots (exposed j i r))
exposed_rooted j i r {l} x o e t =
    exposed_has (λ n. In n l → All (λ f. In f l) (roots n)) j i r (λ _ _. (o, (e, (t, tt)))) (λ _ p. (p, (o, (e, (t, tt))))) x

-- needs are listed to the last: what a need needs is there too
roots-of-roots : (g : Fact) → All (λ n. All (λ f. In f (roots g)) (roots n)) (roots g)
roots-of-roots (enrolled i) = search (here, there)
roots-of-roots (trusts i j) = search (here, there)
roots-of-roots (user i u) = search (here, there)
roots-of-roots (role i r) = search (here, there)
roots-of-roots (permission i p) = search (here, there)
roots-of-roots (public i r) = search (here, there)
roots-of-roots (holds i u r) = search (here, there)
roots-of-roots (granted j p i r) = (search (here, there) depth 9, (search (here, there) depth 9, (search (here, there) depth 9, (exposed_rooted j i r (search (here, there)) (search (here, there)) (search (here, there) depth 9) (search (here, there) depth 9), (search (here, there) depth 9, (search (here, there) depth 9, (search (here, there) depth 9, (search (here, there) depth 9, (search (here, there) depth 9, tt)))))))))
roots-of-roots (attached j q i r) = (search (here, there) depth 9, (search (here, there) depth 9, (search (here, there) depth 9, (exposed_rooted j i r (search (here, there)) (search (here, there)) (search (here, there) depth 9) (search (here, there) depth 9), (search (here, there) depth 9, (search (here, there) depth 9, (search (here, there) depth 9, (search (here, there) depth 9, (search (here, there) depth 9, tt)))))))))
roots-of-roots (opened i s u) = search (here, there) depth 9
roots-of-roots (active i s u r) = (search (here, there) depth 9, (search (here, there) depth 9, (search (here, there) depth 9, (search (here, there) depth 9, (search (here, there) depth 9, (search (here, there) depth 9, tt))))))

pub roots_trans : (g : Fact) {n f : Fact} → In n (roots g) → In f (roots n) → In f (roots g)
roots_trans g a b =
    all_in (λ x. In x (roots g)) (all_in (λ n. All (λ x. In x (roots g)) (roots n)) (roots-of-roots g) a) b

-- ---- the two changes
pub put-new : (l : List Fact) (st : State) {g : Fact} → In g l → (put l st).stands g ≡ true
unfolding put
put-new l st m = rw (in_listed m, put)

pub put-old : (l : List Fact) (st : State) (g : Fact) → st.stands g ≡ true → (put l st).stands g ≡ true
unfolding put
put-old l st g h = go (listed l g) refl
  where
    go : (b : Bool) → listed l g ≡ b → (put l st).stands g ≡ true
    go true e = rw (e, put)
    go false e = rw (e, put) h

pub put_cases : (l : List Fact) (st : State) (g : Fact) → (put l st).stands g ≡ true → (In g l) ⊎ (st.stands g ≡ true)
unfolding put
put_cases l st g h = go (listed l g) refl
  where
    go : (b : Bool) → listed l g ≡ b → (In g l) ⊎ (st.stands g ≡ true)
    go true e = inl (listed_in l e)
    go false e = inr (rw (e, put) at h)

pub put_other : (l : List Fact) (st : State) (g : Fact) → (In g l → ⊥) → (put l st).stands g ≡ st.stands g
unfolding put
put_other l st g n = rw (untrue (listed l g) (λ e. n (listed_in l e)), put)

-- one fact more
pub put-more : (f : Fact) (l : List Fact) (st : State) → put (f ∷ []) (put l st) ≡ put (f ∷ l) st
unfolding put listed
put-more f l st = λ t. record { stands = λ g. go g (same g f) refl t }
  where
    go : (g : Fact) (b : Bool) → same g f ≡ b → (put (f ∷ []) (put l st)).stands g ≡ (put (f ∷ l) st).stands g
    go g true e = rw (e, put, listed)
    go g false e = rw (e, put, listed)

pub cut-gone : (f : Fact) (st : State) (g : Fact) → In f (roots g) → (cut f st).stands g ≡ false
unfolding cut
cut-gone f st g m = rw (in_listed m, cut)

pub cut-other : (f : Fact) (st : State) (g : Fact) → (In f (roots g) → ⊥) → (cut f st).stands g ≡ st.stands g
unfolding cut
cut-other f st g n = rw (untrue (listed (roots g) f) (λ e. n (listed_in (roots g) e)), cut)

pub cut-old : (f : Fact) (st : State) (g : Fact) → (cut f st).stands g ≡ true → st.stands g ≡ true
unfolding cut
cut-old f st g h = go (listed (roots g) f) refl
  where
    go : (b : Bool) → listed (roots g) f ≡ b → st.stands g ≡ true
    go true e = absurd (clash (rw (e, cut) at h) refl)
    go false e = rw (e, cut) at h

-- the changes act on each fact by itself
pub put_agree : (l : List Fact) (st st' : State) (g : Fact) → st.stands g ≡ st'.stands g → (put l st).stands g ≡ (put l st').stands g
unfolding put
put_agree l st st' g h = ap (λ x. elim (listed l g) as (λ _. Bool) [ true ↦ true | false ↦ x ]) h

pub cut_agree : (f : Fact) (st st' : State) (g : Fact) → st.stands g ≡ st'.stands g → (cut f st).stands g ≡ (cut f st').stands g
unfolding cut
cut_agree f st st' g h = ap (λ x. elim (listed (roots g) f) as (λ _. Bool) [ true ↦ false | false ↦ x ]) h

-- ---- numbers below 16
pub below_16 : (l : List ℕ) → above_15 l ≡ false → Below16 l
below_16 [] h = tt
below_16 (n ∷ l) h = go (below_16 l) (ltb n 16) refl h
  where
    go : (above_15 l ≡ false → Below16 l) → (b : Bool) → ltb n 16 ≡ b → above_15 (n ∷ l) ≡ false → Below16 (n ∷ l)
    go rec true e k = (ltb-true n 16 e, rec (rw (e, above_15) at k))
    go rec false e k = absurd (clash refl (rw (e, above_15) at k))

pub none_above_15 : (l : List ℕ) → Below16 l → above_15 l ≡ false
none_above_15 [] h = refl
none_above_15 (n ∷ l) h = rw (lt-ltb n 16 h.0, above_15) (none_above_15 l h.1)
