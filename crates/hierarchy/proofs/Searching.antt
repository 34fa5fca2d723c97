-- A set that has all that reaches one of it grows by what reaches one role more; the search for the lowest role of a set that one of an issuer's roles reaches.
use Rattle.std.proofs.Common.{◌≡◌, ℕ, ◌+◌, ◌*◌, ◌/◌, ◌%◌, ◌<◌, ◌≤◌, Bool, true, false, ◌&&◌, ◌||◌, ◌⊎◌, List, get_or, bit_and, sym, ap, ◌∙◌, subst, inl, inr, arith}
use mathlib.Core.Option.{none, some}
use Rattle.bits.specs.Below.{lowest_below}
use Rattle.bits.specs.Bit.{bit}
use Rattle.bits.specs.RoleSet.{in_set, Added}
use Rattle.bits.proofs.Below.{any_both_intro, any_both_elim, lowest_is, none_is}
use Rattle.bits.proofs.Bit.{bit_0}
use Rattle.bits.proofs.Booleans.{clash, untrue, and_left, and_right, and_intro, or_cases, or_left, or_right, same_test, below_or_not}
use Rattle.bits.proofs.Gather.{common_bit}
use Rattle.mtas.specs.Hierarchy.{Role, ◌#◌, Graph, Reaches, itself, down, nth_role, same_role, reaches}
use Rattle.mtas.specs.Answer.{lowest_role}
use Rattle.mtas.proofs.Hierarchy.{Numbered, then, same_role_true, same_role_refl, reaches-sound, reaches-complete}
use Rattle.hierarchy.specs.Links.{among, Reaching, ReachesInto}
use Rattle.hierarchy.specs.Climbing.{Climbing}
use Rattle.hierarchy.specs.Lowest.{Closed, WithAbove, reached_by}
use Rattle.hierarchy.proofs.Freed.{subset_itself}
use Rattle.hierarchy.proofs.Links.{role-at}

-- ---- one role more
module _ {below : Graph} {j q : ℕ} {known seen : List ℕ} (c : Closed below known) (ad : Added j q known seen) where
  still : (a : Role) → among known a ≡ true → among seen a ≡ true
  still a h = ad.each a.issuer a.number ∙ or_left (among known a) _ h

  pub goes_on : Climbing below seen seen known
  goes_on = record { begun = subset_itself; sound = λ a l m h. (a, l, m, h, itself); closed = λ a b l m h t. still a (c.seniors a b l m h t) }

  pub with_above : {found : List ℕ} → Numbered below → j < 16 → q < 16 → Reaching below seen found → WithAbove below j q known found
  with_above {found} num lj lq f = record {
    closed = record { seniors = λ a b l m h t. let (d, ld, md, k, p) = f.sound b l m h in f.complete a d ld md k (then (down itself t) p) };
    each = λ a l m. same_test _ _ (λ h. sound a (f.sound a l m h)) (λ h. complete a l m (or_cases (among known a) (reaches below a (j # q)) h));
  }
    where
      up : {a b : Role} → Reaches below a b → among known b ≡ true → among known a ≡ true
      up itself h = h
      up (down {b} {c = d} p k) h = let (_, _, l, m) = num b d k in up p (c.seniors b d l m h k)

      sound : (a : Role) → ReachesInto below seen a → among known a || reaches below a (j # q) ≡ true
      sound a (b, _, _, h, p) = go (or_cases (among known b) (same_role (j # q) b) (sym (ad.each b.issuer b.number) ∙ h))
        where
          go : (among known b ≡ true) ⊎ (same_role (j # q) b ≡ true) → among known a || reaches below a (j # q) ≡ true
          go (inl x) = or_left (among known a) _ (up p x)
          go (inr x) = or_right (among known a) _ (reaches-complete below num (subst (Reaches below a) (sym (same_role_true (j # q) b x)) p))

      complete : (a : Role) → a.issuer < 16 → a.number < 16 → (among known a ≡ true) ⊎ (reaches below a (j # q) ≡ true) → among found a ≡ true
      complete a l m (inl x) = f.complete a a l m (still a x) itself
      complete a l m (inr x) = f.complete a (j # q) lj lq (ad.each j q ∙ or_right (in_set known j q) _ (same_role_refl (j # q))) (reaches-sound below a (j # q) x)

-- ---- the search
module _ (below : Graph) (set : List ℕ) (i word : ℕ) where
  abbrev pub test : Role → Bool
  test b = among set b && reached_by below i word b

  -- no role before the k-th passes; what was seen has all that reaches one of it, and none of the roles that the word has
  pub record Searching (k : ℕ) (seen : List ℕ) : Type 0 where
    pub closed : Closed below seen
    pub unmet : (r : ℕ) → r < 16 → in_set seen i r ≡ true → bit word r ≡ true → ⊥
    pub passed : (m : ℕ) → m < k → test (nth_role m) ≡ false

  pub search_begins : {seen : List ℕ} → ((j q : ℕ) → in_set seen j q ≡ false) → Searching 0 seen
  search_begins e = record {
    closed = record { seniors = λ a b l m h. absurd (clash h (e b.issuer b.number)) };
    unmet = λ r l h. absurd (clash h (e i r));
    passed = λ m l. absurd (omega arith);
  }

  module _ (j q : ℕ) {seen : List ℕ} (lq : q < 16) (s : Searching (16 * j + q) seen) where
    abbrev k : ℕ
    k = 16 * j + q

    at : nth_role k ≡ j # q
    at = role-at k (j # q) (omega arith) lq

    one_more : test (j # q) ≡ false → (m : ℕ) → m < k + 1 → test (nth_role m) ≡ false
    one_more n m l = go (below_or_not m k)
      where
        go : (m < k) ⊎ (k ≤ m) → test (nth_role m) ≡ false
        go (inl x) = s.passed m x
        go (inr x) = let e : k ≡ m = omega arith in subst (λ a. test a ≡ false) (sym at ∙ ap nth_role e) n

    -- a role that the set doesn't have
    pub search_skips : in_set set j q ≡ false → Searching (k + 1) seen
    search_skips n = record { closed = s.closed; unmet = s.unmet; passed = one_more (untrue _ (λ h. clash (and_left (in_set set j q) _ h) n)) }

    module _ {seen' : List ℕ} (li : i < 16) (w : WithAbove below j q seen seen') (wide : get_or seen' i 0 < 65536) where
      -- none of the word's roles reaches it
      pub search_goes_on : bit_and (get_or seen' i 0) word ≡ 0 → Searching (k + 1) seen'
      search_goes_on z = record {
        closed = w.closed;
        unmet = none;
        passed = one_more (untrue _ (λ h.
            let (r, l, x, y) = any_both_elim 16 (bit word) (λ r. reaches below (i # r) (j # q)) (and_right (in_set set j q) _ h) in
            none r l (w.each (i # r) li l ∙ or_right (in_set seen i r) _ y) x));
      }
        where
          none : (r : ℕ) → r < 16 → in_set seen' i r ≡ true → bit word r ≡ true → ⊥
          none r l x y = (common_bit (get_or seen' i 0) word wide).1 (r, l, x, y) z

      -- one of them does, since it wasn't seen before
      pub search_finds : j < 16 → in_set set j q ≡ true → (bit_and (get_or seen' i 0) word ≡ 0 → ⊥) → some (j # q) ≡ lowest_role test
      unfolding lowest_role
      search_finds lj h n =
          let (r, l, x, y) = (common_bit (get_or seen' i 0) word wide).0 n in
          let e : lowest_below 256 (λ m. test (nth_role m)) ≡ some k = lowest_is 256 (λ m. test (nth_role m)) k (record {
            below = omega arith;
            passes = subst (λ a. test a ≡ true) (sym at) (and_intro (in_set set j q) _ h (any_both_intro 16 (bit word) (λ r. reaches below (i # r) (j # q)) r l y (new r l y x)));
            none_lower = s.passed;
          }) in
          rw (e, lowest_role) (ap some (sym at))
        where
          new : (r : ℕ) → r < 16 → bit word r ≡ true → in_set seen' i r ≡ true → reaches below (i # r) (j # q) ≡ true
          new r l y x = go (or_cases (in_set seen i r) (reaches below (i # r) (j # q)) (sym (w.each (i # r) li l) ∙ x))
            where
              go : (in_set seen i r ≡ true) ⊎ (reaches below (i # r) (j # q) ≡ true) → reaches below (i # r) (j # q) ≡ true
              go (inl z) = absurd (s.unmet r l z y)
              go (inr z) = z

  -- an issuer of whom the set has none
  pub search_passes : (j : ℕ) {seen : List ℕ} → get_or set j 0 ≡ 0 → Searching (16 * j) seen → Searching (16 * (j + 1)) seen
  search_passes j z s = record { closed = s.closed; unmet = s.unmet; passed = λ m l. go m l (below_or_not m (16 * j)) }
    where
      go : (m : ℕ) → m < 16 * (j + 1) → (m < 16 * j) ⊎ (16 * j ≤ m) → test (nth_role m) ≡ false
      go m l (inl x) = s.passed m x
      go m l (inr x) =
          let e : m / 16 ≡ j = omega arith in
          untrue _ (λ h. clash (and_left (among set (nth_role m)) _ h) (ap (λ w. bit w (m % 16)) (ap (λ k. get_or set k 0) e ∙ z) ∙ bit_0 (m % 16)))

  pub search_ends : {seen : List ℕ} → Searching 256 seen → none ≡ lowest_role test
  unfolding lowest_role
  search_ends s = let e : lowest_below 256 (λ m. test (nth_role m)) ≡ none = none_is 256 (λ m. test (nth_role m)) s.passed in rw (e, lowest_role)
