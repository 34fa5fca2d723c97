-- What exposes a role: to its own issuer that it is there, to another that it is public.
use mathlib.Core.Path.{◌≡◌, refl, subst}
use mathlib.Core.Logic.{◌≢◌}
use mathlib.Core.List.{List}
use mathlib.Core.Bool.{Bool, true, false}
use Prim.Native.Nat.{ℕ}
use lib.Dec.{eqb}
use borrow.Author.Tests.{ne_eqb}
use Rattle.mtas.specs.Fact.{Fact, role, public}
use Rattle.mtas.specs.Needs.{exposed}
use Rattle.mtas.specs.Law.{In}

module _ (j i r : ℕ) where
  pub own_exposed : eqb j i ≡ true → exposed j i r ≡ role i r
  unfolding exposed
  own_exposed e = rw (e, exposed)

  pub other_exposed : eqb j i ≡ false → exposed j i r ≡ public i r
  unfolding exposed
  other_exposed e = rw (e, exposed)

  -- across estates a link has the publication among what it stands on
  pub public_in : {l : List Fact} → In (exposed j i r) l → j ≢ i → In (public i r) l
  public_in {l} m n = subst (λ f. In f l) (other_exposed (ne_eqb j i n)) m

-- what holds in both cases
pub exposed_has : (P : Fact → Type 0) (j i r : ℕ) → (eqb j i ≡ true → P (role i r)) → (eqb j i ≡ false → P (public i r)) → P (exposed j i r)
exposed_has P j i r own other = go (eqb j i) refl
  where
    go : (b : Bool) → eqb j i ≡ b → P (exposed j i r)
    go true e = rw (own_exposed j i r e) (own e)
    go false e = rw (other_exposed j i r e) (other e)
