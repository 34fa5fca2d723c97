-- The graph of the attachment words: only numbered roles are linked, and of a state's words it is what the state says.
use Rattle.std.proofs.Common.{◌≡◌, ℕ, ◌+◌, ◌*◌, ◌<◌, Bool, true, false, List, [], ◌∷◌, get_or, take, drop, sym, refl, ap, ◌∙◌, arith, get_or-drop, get_or-take}
use Rattle.bits.specs.Bit.{bit}
use Rattle.bits.proofs.Booleans.{clash, same_test}
use Rattle.mtas.specs.Fact.{attached, above_15, Below16}
use Rattle.mtas.specs.Hierarchy.{Role, ◌#◌, nth_role}
use Rattle.mtas.specs.Law.{attachments}
use Rattle.mtas.specs.Layout.{seniors, seniors_at, links_length, address, view}
use Rattle.mtas.proofs.Facts.{below_16, none_above_15}
use Rattle.mtas.proofs.Hierarchy.{Numbered}
use Rattle.mtas.proofs.Words.{view_says, view_numbered}
use Rattle.hierarchy.specs.Links.{linked}

-- the k-th role is the one with these numbers
pub role-at : (k : ℕ) (b : Role) → k ≡ 16 * b.issuer + b.number → b.number < 16 → nth_role k ≡ b
role-at k b e h =
    let i : (nth_role k).issuer ≡ b.issuer = omega arith in
    let n : (nth_role k).number ≡ b.number = omega arith in
    λ t. i t # n t

module _ (words : List ℕ) where
  abbrev four : Role → Role → List ℕ
  four a b = b.issuer ∷ b.number ∷ a.issuer ∷ a.number ∷ []

  pub linked_numbered : Numbered (linked words)
  unfolding linked
  linked_numbered a b h = go (above_15 (four a b)) refl
    where
      go : (x : Bool) → above_15 (four a b) ≡ x → (a.issuer < 16) × (a.number < 16) × (b.issuer < 16) × (b.number < 16)
      go true e = absurd (clash (rw (e, linked) at h) refl)
      go false e = let n = below_16 (four a b) e in (omega arith, omega arith, omega arith, omega arith)

  pub linked_bit : (a b : Role) → Below16 (four a b) → linked words a b ≡ bit (get_or words (16 * (16 * b.issuer + b.number) + a.issuer) 0) a.number
  unfolding linked
  linked_bit a b h = rw (none_above_15 (four a b) h, linked)

-- a state's attachment words
abbrev pub attachment_words : List ℕ → List ℕ
attachment_words ws = take links_length (drop seniors_at ws)

-- their graph is the graph of the attachments that stand
pub linked-attachments : (ws : List ℕ) → linked (attachment_words ws) ≡ attachments (view ws)
linked-attachments ws = λ t a b. same a b t
  where
    link_same : (a b : Role) → Below16 (four (attachment_words ws) a b) → linked (attachment_words ws) a b ≡ attachments (view ws) a b
    link_same a b h =
        let p = 16 * (16 * b.issuer + b.number) + a.issuer in
        let shift : seniors_at + p ≡ address (seniors b.issuer b.number a.issuer) = omega arith in
        let word = get_or-take links_length (drop seniors_at ws) p 0 (omega arith) ∙ get_or-drop seniors_at ws p 0 ∙ ap (λ k. get_or ws k 0) shift in
        linked_bit (attachment_words ws) a b h ∙ ap (λ w. bit w a.number) word
        ∙ sym (view_says ws (attached b.issuer b.number a.issuer a.number) h)

    same : (a b : Role) → linked (attachment_words ws) a b ≡ attachments (view ws) a b
    same a b =
        same_test _ _ (λ e. sym (link_same a b (let n = linked_numbered (attachment_words ws) a b e in (omega arith, (omega arith, (omega arith, (omega arith, tt)))))) ∙ e)
        (λ e. link_same a b (view_numbered ws (attached b.issuer b.number a.issuer a.number) e) ∙ e)
