-- What the tests over the numbers below n say, and the places of a tabulated list.
use mathlib.Core.Path.{◌≡◌, refl, ap, sym, subst, ◌∙◌}
use mathlib.Core.Logic.{◌⊎◌, inl, inr, ◌≢◌}
use mathlib.Core.Bool.{Bool, true, false, ◌&&◌}
use mathlib.Core.Option.{Option, none, some}
use Prim.Native.Nat.{ℕ, zero, suc, ◌+◌, ◌<◌, ◌≤◌}
use native.Mathlib.Omega.{arith}
use lib.ListN.{length, get_or}
use Rattle.bits.specs.Below.{any_below, all_below, find_below, lowest_below, tally, tabulate}
use Rattle.bits.proofs.Booleans.{clash, and_left, and_right, and_intro, same_test, below_or_not}

pub any_intro : (n : ℕ) (f : ℕ → Bool) (k : ℕ) → k < n → f k ≡ true → any_below n f ≡ true
unfolding any_below
any_intro zero f k l h = absurd (omega arith)
any_intro (suc n) f k l h = go (λ (m : k < n). any_intro n f k m h) (f n) refl
  where
    go : (k < n → any_below n f ≡ true) → (b : Bool) → f n ≡ b → any_below (suc n) f ≡ true
    go rec true e = rw (e, any_below)
    go rec false e = let ne : k ≢ n = (λ q. clash h (ap f q ∙ e)) in rw (e, any_below) (rec (omega arith))

pub any_elim : (n : ℕ) (f : ℕ → Bool) → any_below n f ≡ true → (k : ℕ) × (k < n) × (f k ≡ true)
unfolding any_below
any_elim zero f h = absurd (clash h refl)
any_elim (suc n) f h = go (any_elim n f) (f n) refl
  where
    go : (any_below n f ≡ true → (k : ℕ) × (k < n) × (f k ≡ true)) → (b : Bool) → f n ≡ b → (k : ℕ) × (k < suc n) × (f k ≡ true)
    go rec true e = (n, omega arith, e)
    go rec false e = let (k, l, p) = rec (rw (e, any_below) at h) in (k, omega arith, p)

-- two tests at once
pub any_both_intro : (n : ℕ) (f g : ℕ → Bool) (k : ℕ) → k < n → f k ≡ true → g k ≡ true → any_below n (λ j. f j && g j) ≡ true
any_both_intro n f g k l p q = any_intro n (λ j. f j && g j) k l (and_intro (f k) (g k) p q)

pub any_both_elim : (n : ℕ) (f g : ℕ → Bool) → any_below n (λ j. f j && g j) ≡ true → (k : ℕ) × (k < n) × (f k ≡ true) × (g k ≡ true)
any_both_elim n f g h =
    let (k, l, p) = any_elim n (λ j. f j && g j) h in
    (k, l, and_left (f k) (g k) p, and_right (f k) (g k) p)

pub any_ext : (n : ℕ) (f g : ℕ → Bool) → ((k : ℕ) → f k ≡ g k) → any_below n f ≡ any_below n g
any_ext n f g h =
    same_test _ _ (λ p. let (k, l, q) = any_elim n f p in any_intro n g k l (sym (h k) ∙ q))
    (λ p. let (k, l, q) = any_elim n g p in any_intro n f k l (h k ∙ q))

pub all_intro : (n : ℕ) (f : ℕ → Bool) → ((k : ℕ) → k < n → f k ≡ true) → all_below n f ≡ true
unfolding all_below
all_intro zero f h = refl
all_intro (suc n) f h = rw (h n (omega arith), all_below) (all_intro n f (λ k l. h k (omega arith)))

pub all_elim : (n : ℕ) (f : ℕ → Bool) → all_below n f ≡ true → (k : ℕ) → k < n → f k ≡ true
unfolding all_below
all_elim zero f h k l = absurd (omega arith)
all_elim (suc n) f h k l = go (all_elim n f) (f n) refl (below_or_not k n)
  where
    go : (all_below n f ≡ true → (j : ℕ) → j < n → f j ≡ true) → (b : Bool) → f n ≡ b → (k < n) ⊎ (n ≤ k) → f k ≡ true
    go rec true e (inl m) = rec (rw (e, all_below) at h) k m
    go rec true e (inr m) = let q : n ≡ k = omega arith in rw (← q) e
    go rec false e m = absurd (clash (rw (e, all_below) at h) refl)

-- what is found is below n, or is the number given
pub find_cases : (n : ℕ) (f : ℕ → Bool) (d : ℕ) → (find_below n f d < n) ⊎ (find_below n f d ≡ d)
unfolding find_below
find_cases zero f d = inr refl
find_cases (suc n) f d = go (find_cases n f d) (f n) refl
  where
    go : (find_below n f d < n) ⊎ (find_below n f d ≡ d) → (b : Bool) → f n ≡ b → (find_below (suc n) f d < suc n) ⊎ (find_below (suc n) f d ≡ d)
    go x true e = inl (rw (e, find_below) (omega arith))
    go (inl x) false e = inl (rw (e, find_below) (omega arith))
    go (inr x) false e = inr (rw (e, find_below) x)

-- where some number below n passes, the one found does
pub find_finds : (n : ℕ) (f : ℕ → Bool) (d k : ℕ) → k < n → f k ≡ true → f (find_below n f d) ≡ true
unfolding find_below
find_finds zero f d k l h = absurd (omega arith)
find_finds (suc n) f d k l h = go (λ (m : k < n). find_finds n f d k m h) (f n) refl
  where
    go : (k < n → f (find_below n f d) ≡ true) → (b : Bool) → f n ≡ b → f (find_below (suc n) f d) ≡ true
    go rec true e = rw (e, find_below) e
    go rec false e = let ne : k ≢ n = (λ q. clash h (ap f q ∙ e)) in rw (e, find_below) (rec (omega arith))

-- a number found below n passes
pub find_passes : (n : ℕ) (f : ℕ → Bool) (d : ℕ) → n ≤ d → find_below n f d < n → f (find_below n f d) ≡ true
unfolding find_below
find_passes zero f d l h = absurd (omega arith)
find_passes (suc n) f d l h = go (λ (h' : find_below n f d < n). find_passes n f d (omega arith) h') (f n) refl
  where
    go : (find_below n f d < n → f (find_below n f d) ≡ true) → (b : Bool) → f n ≡ b → f (find_below (suc n) f d) ≡ true
    go rec true e = rw (e, find_below) e
    go rec false e = rw (e, find_below) (fin (find_cases n f d) (rw (e, find_below) at h))
      where
        fin : (find_below n f d < n) ⊎ (find_below n f d ≡ d) → find_below n f d < suc n → f (find_below n f d) ≡ true
        fin (inl x) y = rec x
        fin (inr x) y = absurd (omega arith)

pub find_ext : (n : ℕ) (f g : ℕ → Bool) (d : ℕ) → ((k : ℕ) → f k ≡ g k) → find_below n f d ≡ find_below n g d
unfolding find_below
find_ext zero f g d h = refl
find_ext (suc n) f g d h = go (find_ext n f g d h) (f n) refl
  where
    go : find_below n f d ≡ find_below n g d → (b : Bool) → f n ≡ b → find_below (suc n) f d ≡ find_below (suc n) g d
    go rec true e = let e2 : g n ≡ true = sym (h n) ∙ e in rw (e, e2, find_below)
    go rec false e = let e2 : g n ≡ false = sym (h n) ∙ e in rw (e, e2, find_below) rec

-- the number is below n and passes, and none lower does
pub record IsLowest (n : ℕ) (f : ℕ → Bool) (k : ℕ) : Type 0 where
  pub below : k < n
  pub passes : f k ≡ true
  pub none_lower : (m : ℕ) → m < k → f m ≡ false

-- what is found: nothing where none passes, else the lowest that does
abbrev Finds : ℕ → (ℕ → Bool) → Option ℕ → Type 0
Finds n f none = (k : ℕ) → k < n → f k ≡ false
Finds n f (some k) = IsLowest n f k

finds : (n : ℕ) (f : ℕ → Bool) → Finds n f (lowest_below n f)
unfolding lowest_below
finds zero f = λ k l. absurd (omega arith)
finds (suc n) f = go (lowest_below n f) refl (finds n f)
  where
    last : (b : Bool) → f n ≡ b → ((k : ℕ) → k < n → f k ≡ false) → Finds (suc n) f (elim b [ true ↦ some n | false ↦ none ])
    last true e h = record { below = omega arith; passes = e; none_lower = h }
    last false e h = λ k l. at k l (below_or_not k n)
      where
        at : (k : ℕ) → k < suc n → (k < n) ⊎ (n ≤ k) → f k ≡ false
        at k l (inl m) = h k m
        at k l (inr m) = let q : n ≡ k = omega arith in rw (← q) e

    go : (o : Option ℕ) → lowest_below n f ≡ o → Finds n f o → Finds (suc n) f (lowest_below (suc n) f)
    go (some k) e h = rw (e, lowest_below) (record { below = omega (arith, h.below); passes = h.passes; none_lower = h.none_lower })
    go none e h = rw (e, lowest_below) (last (f n) refl h)

pub lowest-some : (n : ℕ) (f : ℕ → Bool) (k : ℕ) → lowest_below n f ≡ some k → IsLowest n f k
lowest-some n f k e = subst (Finds n f) e (finds n f)

pub lowest-none : (n : ℕ) (f : ℕ → Bool) → lowest_below n f ≡ none → (k : ℕ) → k < n → f k ≡ false
lowest-none n f e = subst (Finds n f) e (finds n f)

pub lowest_is : (n : ℕ) (f : ℕ → Bool) (k : ℕ) → IsLowest n f k → lowest_below n f ≡ some k
lowest_is n f k l = go (lowest_below n f) (finds n f)
  where
    go : (o : Option ℕ) → Finds n f o → o ≡ some k
    go none h = absurd (clash l.passes (h k l.below))
    go (some m) h = by (below_or_not m k) (below_or_not k m)
      where
        by : (m < k) ⊎ (k ≤ m) → (k < m) ⊎ (m ≤ k) → some m ≡ some k
        by (inl x) y = absurd (clash h.passes (l.none_lower m x))
        by (inr x) (inl y) = absurd (clash l.passes (h.none_lower k y))
        by (inr x) (inr y) = let e : m ≡ k = omega arith in ap some e

pub none_is : (n : ℕ) (f : ℕ → Bool) → ((k : ℕ) → k < n → f k ≡ false) → lowest_below n f ≡ none
none_is n f h = go (lowest_below n f) (finds n f)
  where
    go : (o : Option ℕ) → Finds n f o → o ≡ none
    go none m = refl
    go (some k) m = absurd (clash m.passes (h k m.below))

-- two tests that agree below n
pub lowest_ext : (n : ℕ) (f g : ℕ → Bool) → ((k : ℕ) → k < n → f k ≡ g k) → lowest_below n f ≡ lowest_below n g
lowest_ext n f g e = go (lowest_below n f) (finds n f)
  where
    go : (o : Option ℕ) → Finds n f o → o ≡ lowest_below n g
    go none h = sym (none_is n g (λ k l. sym (e k l) ∙ h k l))
    go (some k) h = sym (lowest_is n g k (record {
      below = h.below;
      passes = sym (e k h.below) ∙ h.passes;
      none_lower = λ m l. sym (e m (omega (arith, h.below))) ∙ h.none_lower m l;
    }))

pub tally-le : (n : ℕ) (f : ℕ → Bool) → tally n f ≤ n
unfolding tally
tally-le zero f = omega arith
tally-le (suc n) f = go (tally-le n f) (f n) refl
  where
    go : tally n f ≤ n → (b : Bool) → f n ≡ b → tally (suc n) f ≤ suc n
    go rec true e = rw (e, tally) (omega arith)
    go rec false e = rw (e, tally) (omega arith)

module _ (f g : ℕ → Bool) where
  tally_mono : (n : ℕ) → ((k : ℕ) → k < n → f k ≡ true → g k ≡ true) → tally n f ≤ tally n g
  unfolding tally
  tally_mono zero s = omega arith
  tally_mono (suc n) s = go (tally_mono n (λ k l. s k (omega arith))) (f n) refl (g n) refl
    where
      go : tally n f ≤ tally n g → (b : Bool) → f n ≡ b → (c : Bool) → g n ≡ c → tally (suc n) f ≤ tally (suc n) g
      go rec true e true d = rw (e, d, tally) (omega arith)
      go rec true e false d = absurd (clash (s n (omega arith) e) d)
      go rec false e true d = rw (e, d, tally) (omega arith)
      go rec false e false d = rw (e, d, tally) rec

  pub tally_more : (n : ℕ) → ((k : ℕ) → k < n → f k ≡ true → g k ≡ true) → (k : ℕ) → k < n → f k ≡ false → g k ≡ true → tally n f < tally n g
  unfolding tally
  tally_more zero s k l p q = absurd (omega arith)
  tally_more (suc n) s k l p q =
      let below : (j : ℕ) → j < n → f j ≡ true → g j ≡ true = λ j m. s j (omega arith) in
      go (tally_mono n below) (λ (m : k < n). tally_more n below k m p q) (f n) refl (g n) refl (below_or_not k n)
    where
      go : tally n f ≤ tally n g → (k < n → tally n f < tally n g) → (b : Bool) → f n ≡ b → (c : Bool) → g n ≡ c → (k < n) ⊎ (n ≤ k) → tally (suc n) f < tally (suc n) g
      go m rec true e true d (inl a) = let r = rec a in rw (e, d, tally) (omega arith)
      go m rec true e true d (inr a) = let w : k ≡ n = omega arith in absurd (clash e (subst (λ x. f x ≡ false) w p))
      go m rec true e false d a = absurd (clash (s n (omega arith) e) d)
      go m rec false e true d a = rw (e, d, tally) (omega arith)
      go m rec false e false d (inl a) = rw (e, d, tally) (rec a)
      go m rec false e false d (inr a) = let w : k ≡ n = omega arith in absurd (clash (subst (λ x. g x ≡ true) w q) d)

-- tests that agree below n are passed by equally many
pub tally_ext : (n : ℕ) (f g : ℕ → Bool) → ((k : ℕ) → k < n → f k ≡ g k) → tally n f ≡ tally n g
tally_ext n f g e = omega (arith, tally_mono f g n (λ k l h. sym (e k l) ∙ h), tally_mono g f n (λ k l h. e k l ∙ h))

pub tally-none : (n : ℕ) (f : ℕ → Bool) → ((k : ℕ) → k < n → f k ≡ false) → tally n f ≡ 0
unfolding tally
tally-none zero f e = refl
tally-none (suc n) f e = let h = e n (omega arith) in rw (h, tally) (tally-none n f (λ k l. e k (omega arith)))

pub tally-some : (n : ℕ) (f : ℕ → Bool) (k : ℕ) → k < n → f k ≡ true → 1 ≤ tally n f
tally-some n f k l h = omega (arith, tally_more (λ j. false) f n (λ j m e. absurd (clash e refl)) k l refl h)

-- those below m, and those from m on
pub tally-add : (m n : ℕ) (f : ℕ → Bool) → tally (m + n) f ≡ tally m f + tally n (λ k. f (m + k))
unfolding tally
tally-add m zero f = let e : m + 0 ≡ m = omega arith in rw e (omega arith)
tally-add m (suc n) f = go (tally-add m n f) (f (m + n)) refl
  where
    next : m + suc n ≡ suc (m + n)
    next = omega arith

    go : tally (m + n) f ≡ tally m f + tally n (λ k. f (m + k)) → (b : Bool) → f (m + n) ≡ b → tally (m + suc n) f ≡ tally m f + tally (suc n) (λ k. f (m + k))
    go rec true e = rw next (rw (e, tally) (omega (arith, rec)))
    go rec false e = rw next (rw (e, tally) (omega (arith, rec)))

-- a test that one number more passes
pub tally-one_more : (f g : ℕ → Bool) (n k : ℕ) → k < n → f k ≡ false → g k ≡ true → ((j : ℕ) → j < n → j ≢ k → f j ≡ g j) → tally n g ≡ tally n f + 1
unfolding tally
tally-one_more f g zero k l p q e = absurd (omega arith)
tally-one_more f g (suc n) k l p q e = go (λ m. tally-one_more f g n k m p q (λ j h. e j (omega arith))) (below_or_not k n)
  where
    go : (k < n → tally n g ≡ tally n f + 1) → (k < n) ⊎ (n ≤ k) → tally (suc n) g ≡ tally (suc n) f + 1
    go rec (inl m) = both (f n) refl
      where
        both : (b : Bool) → f n ≡ b → tally (suc n) g ≡ tally (suc n) f + 1
        both b h = let g-n : g n ≡ b = sym (e n (omega arith) (λ w. omega arith)) ∙ h in on b h g-n
          where
            on : (b : Bool) → f n ≡ b → g n ≡ b → tally (suc n) g ≡ tally (suc n) f + 1
            on true x y = rw (x, y, tally) (omega (arith, rec m))
            on false x y = rw (x, y, tally) (rec m)
    go rec (inr m) =
        let w : k ≡ n = omega arith in
        let x : f n ≡ false = subst (λ j. f j ≡ false) w p in
        let y : g n ≡ true = subst (λ j. g j ≡ true) w q in
        let z = tally_ext n f g (λ j h. e j (omega arith) (λ v. omega arith)) in
        rw (x, y, tally) (omega (arith, z))

pub length-tabulate : (n : ℕ) (f : ℕ → ℕ) → length (tabulate n f) ≡ n
unfolding tabulate
length-tabulate zero f = refl
length-tabulate (suc n) f = ap suc (length-tabulate n (λ k. f (suc k)))

pub get_d_tabulate : (n : ℕ) (f : ℕ → ℕ) (k : ℕ) → k < n → get_or (tabulate n f) k 0 ≡ f k
unfolding tabulate
get_d_tabulate zero f k l = absurd (omega arith)
get_d_tabulate (suc n) f zero l = refl
get_d_tabulate (suc n) f (suc k) l = get_d_tabulate n (λ j. f (suc j)) k (omega arith)
