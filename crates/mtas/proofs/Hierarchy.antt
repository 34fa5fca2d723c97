-- Reaching and circles in any graph of roles; the test for reaching is sound, and complete where only numbered roles are linked.
use mathlib.Core.Path.{◌≡◌, refl, ap, sym, subst}
use mathlib.Core.Logic.{◌⊎◌, inl, inr}
use mathlib.Core.Bool.{Bool, true, false, not, ◌&&◌}
use Prim.Native.Nat.{ℕ, zero, suc, ◌<◌, ◌+◌, ◌*◌, ◌/◌, ◌%◌}
use native.Mathlib.Omega.{arith}
use lib.Dec.{eqb}
use borrow.Author.Tests.{eqb-true, eq-eqb, not-true}
use Rattle.bits.specs.Below.{any_below, tally}
use Rattle.bits.proofs.Booleans.{and_left, and_right, clash}
use Rattle.bits.proofs.Below.{any_both_intro, any_both_elim, tally-le, tally_more}
use Rattle.mtas.specs.Hierarchy.{Role, ◌#◌, Graph, Reaches, itself, down, Acyclic, nth_role, same_role, within, most_links, reaches}

pub then : {e : Graph} {a b c : Role} → Reaches e a b → Reaches e b c → Reaches e a c
then p itself = p
then p (down q h) = down (then p q) h

-- with fewer links less is reached, and no circle closes
pub fewer_links : {e e' : Graph} → ((a b : Role) → e' a b ≡ true → e a b ≡ true) → {a b : Role} → Reaches e' a b → Reaches e a b
fewer_links s itself = itself
fewer_links s (down {b} {c} p h) = down (fewer_links s p) (s b c h)

pub fewer_acyclic : {e e' : Graph} → ((a b : Role) → e' a b ≡ true → e a b ≡ true) → Acyclic e → Acyclic e'
unfolding Acyclic
fewer_acyclic s ac a b h p = ac a b (s a b h) (fewer_links s p)

-- one link more, from r down to q, where q doesn't reach r
module _ (e e' : Graph) (r q : Role) (more : (a b : Role) → e' a b ≡ true → (e a b ≡ true) ⊎ ((a ≡ r) × (b ≡ q))) (clear : Reaches e q r → ⊥) where
  through : {a b : Role} → Reaches e' a b → (Reaches e a b) ⊎ (Reaches e a r × Reaches e q b)
  through itself = inl itself
  through {a} (down {b} {c} p h) = go (through p) (more b c h)
    where
      go : (Reaches e a b) ⊎ (Reaches e a r × Reaches e q b) → (e b c ≡ true) ⊎ ((b ≡ r) × (c ≡ q)) → (Reaches e a c) ⊎ (Reaches e a r × Reaches e q c)
      go (inl x) (inl k) = inl (down x k)
      go (inl x) (inr k) = inr (subst (Reaches e a) k.0 x, subst (Reaches e q) (sym k.1) itself)
      go (inr x) (inl k) = inr (x.0, down x.1 k)
      go (inr x) (inr k) = absurd (clear (subst (Reaches e q) k.0 x.1))

  pub more_acyclic : Acyclic e → Acyclic e'
  unfolding Acyclic
  more_acyclic ac a b h p = go (more a b h) (through p)
    where
      go : (e a b ≡ true) ⊎ ((a ≡ r) × (b ≡ q)) → (Reaches e b a) ⊎ (Reaches e b r × Reaches e q a) → ⊥
      go (inl k) (inl x) = ac a b k x
      go (inl k) (inr x) = clear (then (down x.1 k) x.0)
      go (inr k) (inl x) = clear (subst (λ z. Reaches e z r) k.1 (subst (Reaches e b) k.0 x))
      go (inr k) (inr x) = clear (subst (λ z. Reaches e z r) k.1 x.0)

pub same_role_true : (a b : Role) → same_role a b ≡ true → a ≡ b
same_role_true a b h =
    let i : a.issuer ≡ b.issuer = eqb-true _ _ (and_left (eqb a.issuer b.issuer) (eqb a.number b.number) h) in
    let n : a.number ≡ b.number = eqb-true _ _ (and_right (eqb a.issuer b.issuer) (eqb a.number b.number) h) in
    λ t. i t # n t

pub same_role_refl : (a : Role) → same_role a a ≡ true
same_role_refl a = simp (eq-eqb a.issuer a.issuer refl, eq-eqb a.number a.number refl)

pub nth_role-of : (a : Role) → a.issuer < 16 → a.number < 16 → nth_role (a.issuer * 16 + a.number) ≡ a
nth_role-of a h k =
    let i : (a.issuer * 16 + a.number) / 16 ≡ a.issuer = omega arith in
    let n : (a.issuer * 16 + a.number) % 16 ≡ a.number = omega arith in
    λ t. i t # n t

-- ---- the test
module _ (e : Graph) (a : Role) where
  -- the links to c, and what n links reach, by the roles' numbers
  abbrev link : Role → ℕ → Bool
  link c k = e (nth_role k) c

  abbrev by : ℕ → ℕ → Bool
  by n k = within e n a (nth_role k)

  within_sound : (n : ℕ) (c : Role) → within e n a c ≡ true → Reaches e a c
  unfolding within
  within_sound zero c h = subst (Reaches e a) (same_role_true a c h) itself
  within_sound (suc n) c h = go (within_sound n) (same_role a c) refl
    where
      go : ((x : Role) → within e n a x ≡ true → Reaches e a x) → (b : Bool) → same_role a c ≡ b → Reaches e a c
      go rec true q = subst (Reaches e a) (same_role_true a c q) itself
      go rec false q =
          let (k, l, t, u) = any_both_elim 256 (link c) (by n) (rw (q, within) at h) in
          down (rec (nth_role k) u) t

  within_step : (n k : ℕ) (c : Role) → k < 256 → within e n a (nth_role k) ≡ true → e (nth_role k) c ≡ true → within e (suc n) a c ≡ true
  unfolding within
  within_step n k c l h t = go (same_role a c) refl
    where
      go : (b : Bool) → same_role a c ≡ b → within e (suc n) a c ≡ true
      go true q = rw (q, within)
      go false q = rw (q, within) (any_both_intro 256 (link c) (by n) k l t h)

  within_more : (n : ℕ) (c : Role) → within e n a c ≡ true → within e (suc n) a c ≡ true
  unfolding within
  within_more zero c h = rw (h, within)
  within_more (suc n) c h = go (within_more n) (same_role a c) refl
    where
      go : ((x : Role) → within e n a x ≡ true → within e (suc n) a x ≡ true) → (b : Bool) → same_role a c ≡ b → within e (suc (suc n)) a c ≡ true
      go rec true q = rw (q, within)
      go rec false q =
          let (k, l, t, u) = any_both_elim 256 (link c) (by n) (rw (q, within) at h) in
          within_step (suc n) k c l (rec (nth_role k) u) t

  -- from n links on nothing new is reached
  abbrev Stable : ℕ → Type 0
  Stable n = (k : ℕ) → k < 256 → within e (suc n) a (nth_role k) ≡ true → within e n a (nth_role k) ≡ true

  stable_on : (n : ℕ) → Stable n → Stable (suc n)
  unfolding within
  stable_on n S k l h = go (same_role a (nth_role k)) refl
    where
      go : (b : Bool) → same_role a (nth_role k) ≡ b → within e (suc n) a (nth_role k) ≡ true
      go true q = rw (q, within)
      go false q =
          let (j, m, t, u) = any_both_elim 256 (link (nth_role k)) (by (suc n)) (rw (q, within) at h) in
          within_step n j (nth_role k) m (S j m u) t

  reached : ℕ → ℕ
  reached n = tally 256 (by n)

  abbrev unreached : ℕ → ℕ → Bool
  unreached n k = not (by n k)

  stable_or_grows : (n : ℕ) → (Stable n) ⊎ (reached n < reached (suc n))
  unfolding reached
  stable_or_grows n = go (any_below 256 (λ k. by (suc n) k && unreached n k)) refl
    where
      go : (b : Bool) → any_below 256 (λ k. by (suc n) k && unreached n k) ≡ b → (Stable n) ⊎ (reached n < reached (suc n))
      go true q =
          let (k, l, t, u) = any_both_elim 256 (by (suc n)) (unreached n) q in
          inr (tally_more (by n) (by (suc n)) 256 (λ j _. within_more n (nth_role j)) k l (not-true (by n k) u) t)
      go false q = inl (λ k l h. still k l h (within e n a (nth_role k)) refl)
        where
          still : (k : ℕ) → k < 256 → within e (suc n) a (nth_role k) ≡ true → (b : Bool) → within e n a (nth_role k) ≡ b → within e n a (nth_role k) ≡ true
          still k l h true r = r
          still k l h false r = absurd (clash (any_both_intro 256 (by (suc n)) (unreached n) k l h (ap not r)) q)

  stable_or_many : (n : ℕ) → (Stable n) ⊎ (n < reached (suc n))
  stable_or_many zero = go (stable_or_grows zero)
    where
      go : (Stable zero) ⊎ (reached zero < reached 1) → (Stable zero) ⊎ (zero < reached 1)
      go (inl x) = inl x
      go (inr x) = inr (omega arith)
  stable_or_many (suc n) = go (stable_or_many n) (stable_or_grows (suc n))
    where
      go : (Stable n) ⊎ (n < reached (suc n)) → (Stable (suc n)) ⊎ (reached (suc n) < reached (suc (suc n))) → (Stable (suc n)) ⊎ (suc n < reached (suc (suc n)))
      go x (inl y) = inl y
      go (inl x) (inr y) = inl (stable_on n x)
      go (inr x) (inr y) = inr (omega arith)

  stable : Stable 256
  unfolding reached
  stable = go (stable_or_many 256)
    where
      go : (Stable 256) ⊎ (256 < reached 257) → Stable 256
      go (inl x) = x
      go (inr x) = absurd (omega (arith, tally-le 256 (by 257)))

-- only roles numbered below 16, of issuers numbered so, are linked
abbrev pub Numbered : Graph → Type 0
Numbered e = (a b : Role) → e a b ≡ true → (a.issuer < 16) × (a.number < 16) × (b.issuer < 16) × (b.number < 16)

pub reaches-sound : (e : Graph) (a b : Role) → reaches e a b ≡ true → Reaches e a b
reaches-sound e a b h = within_sound e a most_links b h

pub reaches-complete : (e : Graph) → Numbered e → {a b : Role} → Reaches e a b → reaches e a b ≡ true
unfolding within
reaches-complete e w {a} itself = rw (same_role_refl a, within)
reaches-complete e w {a} (down {b} {c} p h) =
    let (i, r, j, q) = w b c h in
    let sb : nth_role (b.issuer * 16 + b.number) ≡ b = nth_role-of b i r in
    let sc : nth_role (c.issuer * 16 + c.number) ≡ c = nth_role-of c j q in
    subst (λ x. within e 256 a x ≡ true) sc
    (stable e a (c.issuer * 16 + c.number) (omega arith)
    (within_step e a 256 (b.issuer * 16 + b.number) (nth_role (c.issuer * 16 + c.number)) (omega arith) (rw sb (reaches-complete e w p)) (rw (sb, sc) h)))
