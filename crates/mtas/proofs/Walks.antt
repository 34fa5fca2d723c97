-- Walks in two graphs that carry each other's links inside: what leads to an inside role comes from inside, and is the same in both.
use mathlib.Core.Path.{◌≡◌}
use mathlib.Core.Bool.{Bool, true}
use Prim.Native.Nat.{ℕ}
use Rattle.bits.proofs.Booleans.{same_test}
use Rattle.mtas.specs.Hierarchy.{Role, Graph, Reaches, itself, down, reaches}
use Rattle.mtas.specs.Fact.{holds}
use Rattle.mtas.specs.State.{State}
use Rattle.mtas.specs.Law.{Authorized}
use Rattle.mtas.proofs.Hierarchy.{Numbered, reaches-sound, reaches-complete}

module _ (inside : ℕ → Bool) where
  -- a link to an inside role comes from inside, and is in the other graph too
  abbrev pub Carries : Graph → Graph → Type 0
  Carries e e' = (a b : Role) → inside b.issuer ≡ true → e a b ≡ true → (inside a.issuer ≡ true) × (e' a b ≡ true)

  pub from_inside : {e e' : Graph} → Carries e e' → {a b : Role} → Reaches e a b → inside b.issuer ≡ true → (inside a.issuer ≡ true) × Reaches e' a b
  from_inside k itself h = (h, itself)
  from_inside k (down {b} {c} p e) h =
      let (t, l) = k b c h e in
      let (i, q) = from_inside k p t in
      (i, down q l)

  -- so an inside user is authorized in both
  pub authorized_inside : {e e' : Graph} → Carries e e' → {st st' : State} {i u r : ℕ} → inside i ≡ true → ((h : ℕ) → st.stands (holds i u h) ≡ true → st'.stands (holds i u h) ≡ true)
      → Authorized st e i u r → Authorized st' e' i u r
  authorized_inside k h m A = record { through = A.through; is_held = m A.through A.is_held; is_reached = (from_inside k A.is_reached h).1 }

  -- two graphs, each with a test of roles
  pub record Twin (e e' : Graph) (t t' : Role → Bool) : Type 0 where
    pub there : Carries e e'
    pub back : Carries e' e
    pub numbered : Numbered e
    pub numbered' : Numbered e'
    pub same : (b : Role) → t b ≡ t' b
    pub only_inside : (b : Role) → t b ≡ true → inside b.issuer ≡ true

  reaches_too : {e e' : Graph} → Carries e e' → Numbered e' → (a b : Role) → inside b.issuer ≡ true → reaches e a b ≡ true → reaches e' a b ≡ true
  reaches_too {e} {e'} c n a b h p = reaches-complete e' n (from_inside c (reaches-sound e a b p) h).1

  pub reaches_same : {e e' : Graph} → Carries e e' → Carries e' e → Numbered e → Numbered e' → (a b : Role) → inside b.issuer ≡ true → reaches e a b ≡ reaches e' a b
  reaches_same c d n m a b h = same_test _ _ (reaches_too c m a b h) (reaches_too d n a b h)
