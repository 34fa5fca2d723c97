-- The lowest role that holds a permission and that an active role of the session reaches, read from the words, is the model's lookup.
use mathlib.Core.Path.{◌≡◌, ap, ap₂, sym, ◌∙◌}
use mathlib.Core.Option.{Option, none}
use mathlib.Core.Bool.{Bool, true, false, ◌&&◌}
use mathlib.Core.List.{List, [], ◌∷◌}
use Prim.Native.Nat.{ℕ, ◌+◌, ◌<◌}
use native.Mathlib.Omega.{arith}
use lib.ListN.{get_or}
use Rattle.bits.specs.Below.{any_below}
use Rattle.bits.specs.Bit.{bit}
use Rattle.bits.specs.RoleSet.{Row}
use Rattle.bits.proofs.Booleans.{clash, same_test}
use Rattle.bits.proofs.Below.{any_both_intro, any_both_elim}
use Rattle.bits.proofs.Bit.{bit_0, bit-pack}
use Rattle.mtas.specs.Fact.{granted, active, above_15}
use Rattle.mtas.specs.State.{user_of}
use Rattle.mtas.specs.Hierarchy.{Role, ◌#◌, reaches}
use Rattle.mtas.specs.Law.{attachments, holders_of}
use Rattle.mtas.specs.Answer.{may_use_through, lowest_role, lookup}
use Rattle.mtas.specs.Layout.{holders, active_roles, address, view}
use Rattle.mtas.specs.LawTest.{LawfulWords, lawful_words}
use Rattle.mtas.proofs.LawTest.{lawful_words-sound}
use Rattle.mtas.proofs.Facts.{below_16, none_above_15}
use Rattle.mtas.proofs.Law.{rooted}
use Rattle.mtas.proofs.Sessions.{user_is}
use Rattle.mtas.proofs.Lowest.{Small, lowest-same}
use Rattle.mtas.proofs.Decision.{none_iff}
use Rattle.mtas.proofs.Words.{view_says, sound-words, contents_view}
use Rattle.hierarchy.specs.Links.{linked, among}
use Rattle.hierarchy.specs.Lowest.{reached_by}
use Rattle.hierarchy.proofs.Links.{attachment_words, linked-attachments}

module _ (ws : List ℕ) (is_lawful : lawful_words ws ≡ true) (j p i s : ℕ) where
  words : LawfulWords ws
  words = lawful_words-sound ws is_lawful

  -- what stands is numbered
  pub none_above : above_15 (j ∷ p ∷ i ∷ s ∷ []) ≡ true → none ≡ lookup (view ws) j p i s
  none_above t = sym ((none_iff (view ws) words.lawful j p i s).1 (λ m.
      let n = words.lawful.numbered (active i s m.may.its_user m.may.its_role) m.may.is_active in
      let g = words.lawful.numbered (granted j p m.reached.issuer m.reached.number) m.may.is_holder in
      clash t (none_above_15 (j ∷ p ∷ i ∷ s ∷ []) (g.0, (g.1.0, (n.0, (n.1.0, tt)))))))

  module _ (t : above_15 (j ∷ p ∷ i ∷ s ∷ []) ≡ false) {k : ℕ} (is_active : k ≡ address (active_roles i s)) where
    below : (j < 16) × (p < 16) × (i < 16) × (s < 16)
    below = let n = below_16 (j ∷ p ∷ i ∷ s ∷ []) t in (n.0, n.1.0, n.1.1.0, n.1.1.1.0)

    -- i#r is active in i/s
    abbrev on : ℕ → Bool
    on r = (view ws).stands (active i s (user_of (view ws) i s) r)

    active_read : (r : ℕ) → r < 16 → bit (get_or ws k 0) r ≡ on r
    active_read r l =
        ap (λ x. bit (get_or ws x 0) r) is_active ∙ ap (λ w. bit w r) (sym (contents_view ws (sound-words words) (active_roles i s) (below.2, (below.3, tt)))) ∙ bit-pack 16 on r l

    -- no role is active
    pub none_active : get_or ws k 0 ≡ 0 → none ≡ lookup (view ws) j p i s
    none_active z = sym ((none_iff (view ws) words.lawful j p i s).1 (λ m.
        let r = m.may.its_role in
        let l = (words.lawful.numbered (active i s m.may.its_user r) m.may.is_active).1.1.1.0 in
        let x : on r ≡ true = ap (λ u. (view ws).stands (active i s u r)) (user_is (view ws) (rooted words.lawful) i s m.may.its_user m.may.is_open) ∙ m.may.is_active in
        clash (active_read r l ∙ x) (ap (λ w. bit w r) z ∙ bit_0 r)))

    module _ {at : ℕ} {set : List ℕ} (place : at ≡ address (holders j p 0)) (is_row : Row ws at set) where
      in_row : (b : Role) → Small b → among set b ≡ holders_of (view ws) j p b
      in_row b (l, m) =
          let e : at + b.issuer ≡ address (holders j p b.issuer) = omega arith in
          ap (λ w. bit w b.number) (is_row.each b.issuer l ∙ ap (λ k. get_or ws k 0) e)
          ∙ sym (view_says ws (granted j p b.issuer b.number) (below.0, (below.1, (l, (m, tt)))))

      -- the roles that reach b
      to : Role → ℕ → Bool
      to b r = reaches (attachments (view ws)) (i # r) b

      reached : (b : Role) → reached_by (attachments (view ws)) i (get_or ws k 0) b ≡ any_below 16 (λ r. on r && to b r)
      unfolding to
      reached b =
          same_test _ _ (λ h. let (r, l, x, y) = any_both_elim 16 (bit (get_or ws k 0)) (to b) h in any_both_intro 16 on (to b) r l (sym (active_read r l) ∙ x) y)
          (λ h. let (r, l, x, y) = any_both_elim 16 on (to b) h in any_both_intro 16 (bit (get_or ws k 0)) (to b) r l (active_read r l ∙ x) y)

      pub looked_up : {o : Option Role} {links : List ℕ} → links ≡ attachment_words ws → o ≡ lowest_role (λ b. among set b && reached_by (linked links) i (get_or ws k 0) b) → o ≡ lookup (view ws) j p i s
      unfolding lookup may_use_through to
      looked_up l e =
          e ∙ ap (λ g. lowest_role (λ b. among set b && reached_by g i (get_or ws k 0) b)) (ap linked l ∙ linked-attachments ws)
          ∙ lowest-same _ _ (λ b l. ap₂ ◌&&◌ (in_row b l) (reached b))
