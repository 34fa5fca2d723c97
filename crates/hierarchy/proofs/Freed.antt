-- Visits and sweeps free roles, in any graph that links only numbered roles.
use Rattle.std.proofs.Common.{◌≡◌, ℕ, ◌+◌, ◌*◌, ◌/◌, ◌%◌, ◌<◌, Bool, true, ◌&&◌, eqb, ◌⊎◌, List, length, get_or, set, sym, refl, ◌∙◌, subst, inl, inr, arith, get_or-set_other, get_or-set_same, below_more, eq-eqb, eqb-true}
use Rattle.bits.specs.Bit.{bit, with_bit}
use Rattle.bits.specs.RoleSet.{Added}
use Rattle.bits.proofs.Bit.{bit_0, bit_with}
use Rattle.bits.proofs.Booleans.{clash, and_left, and_right, and_intro, or_cases, or_left, or_right}
use Rattle.mtas.specs.Hierarchy.{Role, ◌#◌, Graph, itself, down, nth_role}
use Rattle.mtas.proofs.Hierarchy.{Numbered, then}
use Rattle.hierarchy.specs.Links.{among, Subset}
use Rattle.hierarchy.specs.Freed.{Free, AllFree, Due, TopsOf, Freed, Visited, VisitedAll, Filled}
use Rattle.hierarchy.proofs.Links.{role-at}

pub subset_itself : {s : List ℕ} → Subset s s
subset_itself = record { each = λ a l m h. h }

pub subset_then : {s t u : List ℕ} → Subset s t → Subset t u → Subset s u
subset_then v w = record { each = λ a l m h. w.each a l m (v.each a l m h) }

module _ {b : Role} {s t : List ℕ} (ad : Added b.issuer b.number s t) where
  abbrev is_b : Role → Bool
  is_b a = eqb b.issuer a.issuer && eqb b.number a.number

  added_in : among t b ≡ true
  added_in =
      ad.each b.issuer b.number
      ∙ or_right (among s b) (is_b b) (and_intro (eqb b.issuer b.issuer) (eqb b.number b.number) (eq-eqb b.issuer _ refl) (eq-eqb b.number _ refl))

  added_keeps : Subset s t
  added_keeps = record { each = λ a l m h. ad.each a.issuer a.number ∙ or_left (among s a) (is_b a) h }

  added_cases : (a : Role) → among t a ≡ true → (among s a ≡ true) ⊎ (a ≡ b)
  added_cases a h = go (or_cases (among s a) (is_b a) (sym (ad.each a.issuer a.number) ∙ h))
    where
      go : (among s a ≡ true) ⊎ (is_b a ≡ true) → (among s a ≡ true) ⊎ (a ≡ b)
      go (inl x) = inl x
      go (inr x) =
          let i : b.issuer ≡ a.issuer = eqb-true _ _ (and_left (eqb b.issuer a.issuer) (eqb b.number a.number) x) in
          let n : b.number ≡ a.number = eqb-true _ _ (and_right (eqb b.issuer a.issuer) (eqb b.number a.number) x) in
          inr (sym (λ p. i p # n p))

-- a role none of whose direct seniors is on a circle is on none
free-below : {e : Graph} (b : Role) → ((a : Role) → e a b ≡ true → Free e a) → Free e b
free-below b f c h itself = f c h c h itself
free-below b f c h (down p k) = f c h _ k (then (down itself h) p)

module _ {e : Graph} where
  pub freed_none : {s : List ℕ} → Freed e s s
  freed_none = record { kept = subset_itself; free = λ f. f }

  pub freed_then : {s t u : List ℕ} → Freed e s t → Freed e t u → Freed e s u
  freed_then v w = record { kept = subset_then v.kept w.kept; free = λ f. w.free (v.free f) }

-- roles without a senior, issuer by issuer
module _ {e : Graph} where
  pub tops_none : {j : ℕ} → TopsOf e j 0
  tops_none = record { each = λ q l h. absurd (clash h (bit_0 q)) }

  pub tops_more : {j w q : ℕ} → TopsOf e j w → ((a : Role) → e a (j # q) ≡ true → ⊥) → TopsOf e j (with_bit w q)
  tops_more {j} {w} {q} t n = record { each = λ p l h. go p l (or_cases (bit w p) (eqb q p) (sym (bit_with w q p) ∙ h)) }
    where
      go : (p : ℕ) → p < 16 → (bit w p ≡ true) ⊎ (eqb q p ≡ true) → (a : Role) → e a (j # p) ≡ true → ⊥
      go p l (inl x) = t.each p l x
      go p l (inr x) = rw (sym (eqb-true q p x)) n

  pub tops_set : (words : List ℕ) (n : ℕ) {w : ℕ} → n < length words → TopsOf e n w → ((j : ℕ) → j < n → TopsOf e j (get_or words j 0))
      → (j : ℕ) → j < n + 1 → TopsOf e j (get_or (set words n w) j 0)
  tops_set words n {w} h t rec =
      below_more _ n (λ j l. rw (get_or-set_other words n j w 0 (λ p. omega arith)) (rec j l)) (rw (get_or-set_same words n w 0 h) t)

  pub tops_free : (words : List ℕ) → ((j : ℕ) → j < 16 → TopsOf e j (get_or words j 0)) → AllFree e words
  tops_free words t b l m h a k p = (t b.issuer l).each b.number m h a k

-- a visit: the role is due and joins, or isn't due
module _ {e : Graph} (num : Numbered e) {k : ℕ} {s : List ℕ} where
  pub visited_joins : {t : List ℕ} → Due e s (nth_role k) → Added (k / 16) (k % 16) s t → Visited e k s t
  visited_joins {t} d ad = record {
    freed = record { kept = added_keeps {b = nth_role k} ad; free = λ f b l m h. go f b l m (added_cases {b = nth_role k} ad b h) };
    settled = λ _. added_in {b = nth_role k} ad;
  }
    where
      go : ((b : Role) → b.issuer < 16 → b.number < 16 → among s b ≡ true → Free e b)
          → (b : Role) → b.issuer < 16 → b.number < 16 → (among s b ≡ true) ⊎ (b ≡ nth_role k) → Free e b
      go f b l m (inl x) = f b l m x
      go f b l m (inr x) =
          subst (Free e) (sym x) (free-below (nth_role k) (λ a h. let (la, ma, _, _) = num a (nth_role k) h in f a la ma (d a h)))

  pub visited_left : (Due e s (nth_role k) → ⊥) → Visited e k s s
  visited_left n = record { freed = freed_none; settled = λ d. absurd (n d) }

-- what is due to a set is due to a larger one
due_more : {e : Graph} {s t : List ℕ} (b : Role) → Numbered e → Subset s t → Due e s b → Due e t b
due_more b num w d = λ a h. let (l, m, _, _) = num a b h in w.each a l m (d a h)

-- a visit of each of the first n roles
pub record VisitedTo (below : Graph) (n : ℕ) (before after : List ℕ) : Type 0 where
  pub freed : Freed below before after
  pub settled : (k : ℕ) → k < n → Due below before (nth_role k) → among after (nth_role k) ≡ true

module _ {e : Graph} (num : Numbered e) {s₀ : List ℕ} where
  pub visited_none : VisitedTo e 0 s₀ s₀
  visited_none = record { freed = freed_none; settled = λ k l. absurd (omega arith) }

  pub visited_more : {s t : List ℕ} (n : ℕ) → n < 256 → Visited e n s t → VisitedTo e n s₀ s → VisitedTo e (n + 1) s₀ t
  visited_more n h v u = record {
    freed = freed_then u.freed v.freed;
    settled = below_more _ n (λ k l d. v.freed.kept.each (nth_role k) (omega arith) (omega arith) (u.settled k l d))
        (λ d. v.settled (due_more (nth_role n) num u.freed.kept d));
  }

  pub visited_all : {s : List ℕ} → VisitedTo e 256 s₀ s → VisitedAll e s₀ s
  visited_all {s} u = record {
    freed = u.freed;
    settled = λ b l m.
        let k = 16 * b.issuer + b.number in
        subst (λ x. Due e s₀ x → among s x ≡ true) (role-at k b refl m) (u.settled k (omega arith));
  }

  -- a sweep that changed nothing
  pub filled : {s t : List ℕ} → Freed e s₀ s → VisitedAll e s t → Subset t s → Filled e s₀ t
  filled g v w = record {
    freed = freed_then g v.freed;
    closed = λ b l m d. v.settled b l m (due_more b num w d);
  }
