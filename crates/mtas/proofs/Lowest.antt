-- The lowest of the roles that pass a test, by issuer and then by number, where none passes but roles numbered below 16, of issuers numbered so.
use mathlib.Core.Path.{◌≡◌, refl}
use mathlib.Core.Logic.{◌⊎◌, inl, inr}
use mathlib.Core.Option.{Option, none, some}
use mathlib.Core.Bool.{Bool, true}
use Prim.Native.Nat.{ℕ, ◌+◌, ◌*◌, ◌<◌, ◌≤◌}
use native.Mathlib.Omega.{arith}
use Rattle.bits.specs.Below.{lowest_below}
use Rattle.bits.proofs.Booleans.{clash, below_or_not}
use Rattle.bits.proofs.Below.{lowest-some, lowest-none, lowest_ext}
use Rattle.mtas.specs.Hierarchy.{Role, ◌#◌, nth_role}
use Rattle.mtas.specs.Answer.{lowest_role}
use Rattle.mtas.specs.Through.{Lower, by_issuer, by_number}
use Rattle.mtas.proofs.Hierarchy.{nth_role-of}

abbrev pub Small : Role → Type 0
Small a = (a.issuer < 16) × (a.number < 16)

-- a passes, and no lower role does
pub record LowestOf (test : Role → Bool) (a : Role) : Type 0 where
  pub passes : test a ≡ true
  pub none_lower : (b : Role) → Lower b a → test b ≡ true → ⊥

-- of two roles one is lower, or they are the same
pub compare : (a b : Role) → (Lower a b) ⊎ ((Lower b a) ⊎ (a ≡ b))
compare a b = go (below_or_not a.issuer b.issuer) (below_or_not b.issuer a.issuer) (below_or_not a.number b.number) (below_or_not b.number a.number)
  where
    go : (a.issuer < b.issuer) ⊎ (b.issuer ≤ a.issuer) → (b.issuer < a.issuer) ⊎ (a.issuer ≤ b.issuer)
        → (a.number < b.number) ⊎ (b.number ≤ a.number) → (b.number < a.number) ⊎ (a.number ≤ b.number) → (Lower a b) ⊎ ((Lower b a) ⊎ (a ≡ b))
    go (inl x) _ _ _ = inl (by_issuer x)
    go (inr x) (inl y) _ _ = inr (inl (by_issuer y))
    go (inr x) (inr y) (inl z) _ = inl (by_number (omega arith) z)
    go (inr x) (inr y) (inr z) (inl w) = inr (inl (by_number (omega arith) w))
    go (inr x) (inr y) (inr z) (inr w) =
        let i : a.issuer ≡ b.issuer = omega arith in
        let n : a.number ≡ b.number = omega arith in
        inr (inr (λ t. i t # n t))

-- two tests that agree on the 256 roles
pub lowest-same : (f g : Role → Bool) → ((b : Role) → Small b → f b ≡ g b) → lowest_role f ≡ lowest_role g
unfolding lowest_role
lowest-same f g e = rw (lowest_ext 256 (λ k. f (nth_role k)) (λ k. g (nth_role k)) (λ k l. e (nth_role k) (omega arith)), lowest_role)

module _ (test : Role → Bool) (known : (b : Role) → test b ≡ true → Small b) where
  abbrev place : Role → ℕ
  place a = a.issuer * 16 + a.number

  abbrev at : ℕ → Bool
  at k = test (nth_role k)

  at_place : (b : Role) → test b ≡ true → at (place b) ≡ true
  at_place b h = let (i, r) = known b h in rw (nth_role-of b i r) h

  before : (b : Role) (k : ℕ) → Small b → Lower b (nth_role k) → place b < k
  before b k s (by_issuer l) = omega arith
  before b k s (by_number e l) = omega arith

  pub lowest_found : (a : Role) → lowest_role test ≡ some a → LowestOf test a
  unfolding lowest_role
  lowest_found a e = go (lowest_below 256 at) refl
    where
      go : (o : Option ℕ) → lowest_below 256 at ≡ o → LowestOf test a
      go none d = let f : none ≡ some a = rw (d, lowest_role) at e in let z : ◌≡◌ {A = ℕ} 0 1 = cc in absurd (omega arith)
      go (some k) d =
          let f : some (nth_role k) ≡ some a = rw (d, lowest_role) at e in
          let x : nth_role k ≡ a = cc in
          let l = lowest-some 256 at k d in
          rw (← x) (record { passes = l.passes; none_lower = λ b h t. clash (at_place b t) (l.none_lower (place b) (before b k (known b t) h)) })

  pub none_found : lowest_role test ≡ none → (b : Role) → test b ≡ true → ⊥
  unfolding lowest_role
  none_found e b t = go (lowest_below 256 at) refl
    where
      go : (o : Option ℕ) → lowest_below 256 at ≡ o → ⊥
      go (some k) d = let f : some (nth_role k) ≡ none = rw (d, lowest_role) at e in let z : ◌≡◌ {A = ℕ} 0 1 = cc in omega arith
      go none d = let (i, r) = known b t in clash (at_place b t) (lowest-none 256 at d (place b) (omega arith))

  pub lowest_is : (a : Role) → LowestOf test a → lowest_role test ≡ some a
  lowest_is a l = go (lowest_role test) refl
    where
      go : (o : Option Role) → lowest_role test ≡ o → o ≡ some a
      go none e = absurd (none_found e a l.passes)
      go (some b) e = same (lowest_found b e) (compare a b)
        where
          same : LowestOf test b → (Lower a b) ⊎ ((Lower b a) ⊎ (a ≡ b)) → some b ≡ some a
          same m (inl x) = absurd (m.none_lower a x l.passes)
          same m (inr (inl x)) = absurd (l.none_lower b x m.passes)
          same m (inr (inr x)) = cc
