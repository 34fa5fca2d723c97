-- The walk upwards from a set of one role sees what reaches that role.
use Rattle.std.proofs.Common.{◌≡◌, ℕ, ◌<◌, true, false, ◌⊎◌, List, sym, ◌∙◌, subst, inl, inr}
use Rattle.bits.specs.RoleSet.{in_set, Added}
use Rattle.bits.proofs.Booleans.{clash, or_cases, or_right, same_test}
use Rattle.mtas.specs.Hierarchy.{Role, ◌#◌, Graph, Reaches, same_role, reaches}
use Rattle.mtas.proofs.Hierarchy.{Numbered, same_role_true, same_role_refl, reaches-sound, reaches-complete}
use Rattle.hierarchy.specs.Links.{among, Reaching, ReachesInto, ReachingOne}

module _ {i r : ℕ} {none one : List ℕ} (empty : (j q : ℕ) → in_set none j q ≡ false) (ad : Added i r none one) where
  the_one : among one (i # r) ≡ true
  the_one = ad.each i r ∙ or_right (in_set none i r) _ (same_role_refl (i # r))

  only_one : (b : Role) → among one b ≡ true → i # r ≡ b
  only_one b h = go (or_cases (among none b) (same_role (i # r) b) (sym (ad.each b.issuer b.number) ∙ h))
    where
      go : (among none b ≡ true) ⊎ (same_role (i # r) b ≡ true) → i # r ≡ b
      go (inl x) = absurd (clash x (empty b.issuer b.number))
      go (inr x) = same_role_true (i # r) b x

  pub one_reached : {below : Graph} {found : List ℕ} → Numbered below → i < 16 → r < 16 → Reaching below one found → ReachingOne below i r found
  one_reached {below} n li lr f = record {
    each = λ j q lj lq. same_test _ _ (λ h. up (j # q) (f.sound (j # q) lj lq h)) (λ h. f.complete (j # q) (i # r) li lr the_one (reaches-sound below (j # q) (i # r) h));
  }
    where
      up : (a : Role) → ReachesInto below one a → reaches below a (i # r) ≡ true
      up a (b, _, _, h, p) = reaches-complete below n (subst (λ c. Reaches below a c) (sym (only_one b h)) p)
