-- How many roles a set has: a set that takes in what another has not is larger.
use Rattle.std.proofs.Common.{◌≡◌, ℕ, ◌+◌, ◌-◌, ◌*◌, ◌<◌, Bool, true, false, not, ◌&&◌, ◌⊎◌, List, sym, refl, ap, subst, inl, inr, arith}
use borrow.Author.Tests.{not-true}
use Rattle.bits.specs.Below.{any_below, tally}
use Rattle.bits.proofs.Below.{any_both_intro, any_both_elim, tally-le, tally_more}
use Rattle.bits.proofs.Booleans.{clash}
use Rattle.mtas.specs.Hierarchy.{Role, nth_role}
use Rattle.hierarchy.specs.Links.{among, Subset}
use Rattle.hierarchy.proofs.Links.{role-at}

abbrev pub size : List ℕ → ℕ
size s = tally 256 (λ k. among s (nth_role k))

module _ (s t : List ℕ) (w : Subset s t) where
  abbrev new : ℕ → Bool
  new k = among t (nth_role k)

  abbrev old : ℕ → Bool
  old k = among s (nth_role k)

  same_or_larger : (Subset t s) ⊎ (size s < size t)
  same_or_larger = go (any_below 256 (λ k. new k && not (old k))) refl
    where
      go : (x : Bool) → any_below 256 (λ k. new k && not (old k)) ≡ x → (Subset t s) ⊎ (size s < size t)
      go true q =
          let (k, l, h, g) = any_both_elim 256 new (λ k. not (old k)) q in
          inr (tally_more old new 256 (λ j m. w.each (nth_role j) (omega arith) (omega arith)) k l (not-true (old k) g) h)
      go false q = inl (record { each = λ a l m h. still a l m h (among s a) refl })
        where
          still : (a : Role) → a.issuer < 16 → a.number < 16 → among t a ≡ true → (x : Bool) → among s a ≡ x → among s a ≡ true
          still a l m h true r = r
          still a l m h false r =
              let k = 16 * a.issuer + a.number in
              let at = sym (role-at k a refl m) in
              absurd (clash (any_both_intro 256 new (λ k. not (old k)) k (omega arith) (subst (λ x. among t x ≡ true) at h)
              (ap not (subst (λ x. among s x ≡ false) at r))) q)

  -- fewer roles are outside
  pub fewer_outside : (Subset t s → ⊥) → 256 - size t < 256 - size s
  fewer_outside n = go same_or_larger
    where
      go : (Subset t s) ⊎ (size s < size t) → 256 - size t < 256 - size s
      go (inl v) = absurd (n v)
      go (inr l) = omega (arith, tally-le 256 (λ k. among t (nth_role k)))
