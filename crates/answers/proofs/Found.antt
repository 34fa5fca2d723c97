-- The walk's set is what the model's test of reaching asks for.
use mathlib.Core.Path.{◌≡◌, ap, subst, ◌∙◌}
use mathlib.Core.Bool.{Bool, true, false}
use mathlib.Core.List.{List, [], ◌∷◌}
use Prim.Native.Nat.{ℕ}
use Rattle.bits.specs.RoleSet.{in_set}
use Rattle.bits.proofs.Booleans.{clash, same_test}
use Rattle.mtas.specs.Hierarchy.{Role, ◌#◌, Graph, Reaches, itself, down, same_role, reaches}
use Rattle.mtas.specs.Law.{attachments}
use Rattle.mtas.specs.Layout.{view}
use Rattle.mtas.specs.LawTest.{lawful_words}
use Rattle.mtas.proofs.LawTest.{lawful_words-sound}
use Rattle.mtas.specs.Fact.{above_15}
use Rattle.mtas.proofs.Facts.{below_16, none_above_15}
use Rattle.mtas.proofs.Hierarchy.{Numbered, same_role_true, same_role_refl, reaches-sound, reaches-complete}
use Rattle.mtas.proofs.Lowest.{Small}
use Rattle.mtas.proofs.Authorized.{attachments-numbered}
use Rattle.hierarchy.specs.Links.{linked, ReachingOne}
use Rattle.hierarchy.proofs.Links.{attachment_words, linked-attachments}

-- the walk upwards from the one role
pub reaches_told : (ws : List ℕ) {links : List ℕ} (j q : ℕ) {i r : ℕ} {b : Bool} {found : List ℕ} → links ≡ attachment_words ws → ReachingOne (linked links) i r found
    → above_15 (j ∷ q ∷ i ∷ r ∷ []) ≡ false → b ≡ in_set found j q → b ≡ reaches (attachments (view ws)) (j # q) (i # r)
reaches_told ws j q {i} {r} {found = found} l f t e =
    let n = below_16 (j ∷ q ∷ i ∷ r ∷ []) t in
    e ∙ (subst (λ g. ReachingOne g i r found) (ap linked l ∙ linked-attachments ws) f).each j q n.0 n.1.0

module _ (ws : List ℕ) (lawful : lawful_words ws ≡ true) where
  abbrev links : Graph
  links = attachments (view ws)

  numbered : Numbered links
  numbered = attachments-numbered (view ws) (lawful_words-sound ws lawful).lawful.numbered

  -- only numbered roles are linked, so a role with a number above 15 reaches itself alone, and is reached by itself alone
  small_above : {a b : Role} → Reaches links a b → Small b → Small a
  small_above itself h = h
  small_above (down {b} {c} p k) h = let n = numbered b c k in small_above p (n.0, n.1)

  alone : {a b : Role} → (Small a → Small b → ⊥) → Reaches links a b → same_role a b ≡ true
  alone {a} n itself = same_role_refl a
  alone n (down {b} {c} p k) = let m = numbered b c k in absurd (n (small_above p (m.0, m.1)) (m.2, m.3))

  pub reaches_alone : (j q i r : ℕ) {b : Bool} → above_15 (j ∷ q ∷ i ∷ r ∷ []) ≡ true → b ≡ same_role (j # q) (i # r) → b ≡ reaches links (j # q) (i # r)
  reaches_alone j q i r t e =
      e ∙ same_test _ _ (λ h. reaches-complete links numbered (subst (λ c. Reaches links (j # q) c) (same_role_true (j # q) (i # r) h) itself))
      (λ h. alone (λ k l. clash t (none_above_15 (j ∷ q ∷ i ∷ r ∷ []) (k.0, (k.1, (l.0, (l.1, tt)))))) (reaches-sound links (j # q) (i # r) h))
