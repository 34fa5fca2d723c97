-- Holding one of the roles above i#r is being authorized for it; and who holds an active role is.
use Rattle.std.proofs.Common.{◌≡◌, refl, ap, sym, subst, ◌∙◌, ◌⊎◌, inl, inr, Bool, true, false, not, ◌&&◌, ◌||◌, List, ℕ, ◌<◌, ◌≤◌, arith, eqb, get_or, lt-ltb, le-ltb, eqb-true, ne_eqb}
use borrow.Author.Tests.{eqb-false, not-true}
use Rattle.bits.specs.Bit.{bit, with_bit}
use Rattle.bits.proofs.Bit.{bit_0, bit-and, bit_not, bit_with}
use Rattle.bits.proofs.Booleans.{clash, untrue, same_test, below_or_not, and_left, and_right, and-not, and_intro}
use Rattle.bits.proofs.Gather.{common_bit}
use Rattle.mtas.specs.Fact.{holds}
use Rattle.mtas.specs.Hierarchy.{Role, ◌#◌, Graph, Reaches, itself, down}
use Rattle.mtas.specs.Law.{attachments, Authorized}
use Rattle.mtas.specs.Settle.{authorized}
use Rattle.mtas.specs.Layout.{held, session_user, active_roles, address, read, view}
use Rattle.mtas.proofs.Authorized.{attachments-numbered, authorized_sound, authorized_complete}
use Rattle.mtas.proofs.Hierarchy.{Numbered, reaches-sound, reaches-complete}
use Rattle.mtas.proofs.Words.{view_says, view_numbered}
use Rattle.hierarchy.specs.Links.{linked, ReachingOne}
use Rattle.hierarchy.proofs.Links.{attachment_words, linked-attachments}
use Rattle.sessions.specs.Lesser.{lesser, Over, holds_one, reached_in}

-- the walk in the attachment words sees the roles of i that reach i#r
pub over_told : (ws : List ℕ) {links : List ℕ} {i r : ℕ} {found : List ℕ} → i < 16 → links ≡ attachment_words ws → ReachingOne (linked links) i r found → Over ws i r (get_or found i 0)
over_told ws {links} {i} {r} {found} li same x = record { each = λ h l. (subst (λ g. ReachingOne g i r found) (ap linked same ∙ linked-attachments ws) x).each i h li l }

module _ (ws : List ℕ) where
  abbrev links : Graph
  links = attachments (view ws)

  numbered : Numbered links
  numbered = attachments-numbered (view ws) (view_numbered ws)

  complete : {i u r : ℕ} → Authorized (view ws) links i u r → authorized (view ws) links i u r ≡ true
  complete {i} {u} {r} A = authorized_complete (view ws) links i u r (view_numbered ws) numbered A

  -- nobody is authorized for a role with a number above 15
  small : (i u r : ℕ) → authorized (view ws) links i u r ≡ true → (i < 16) × (u < 16) × (r < 16)
  small i u r e = go (authorized_sound (view ws) links i u r e)
    where
      target : {a : ℕ} {b : Role} → a < 16 → Reaches links (i # a) b → b.number < 16
      target l itself = l
      target l (down {b} {c} p h) = (numbered b c h).3

      go : Authorized (view ws) links i u r → (i < 16) × (u < 16) × (r < 16)
      go A = let n = view_numbered ws (holds i u A.through) A.is_held in (n.0, n.1.0, target n.1.1.0 A.is_reached)

  pub none_above : (i u r : ℕ) → ((i < 16) × (16 ≤ r)) ⊎ (16 ≤ i) → false ≡ authorized (view ws) links i u r
  none_above i u r a = sym (untrue _ (λ e. go a (small i u r e)))
    where
      go : ((i < 16) × (16 ≤ r)) ⊎ (16 ≤ i) → (i < 16) × (u < 16) × (r < 16) → ⊥
      go (inl (_, x)) (li, lu, lr) = omega arith
      go (inr x) (li, lu, lr) = omega arith

  module _ (wide : (k : ℕ) → get_or ws k 0 < 65536) {i : ℕ} (li : i < 16) where
    held_says : {u r : ℕ} → u < 16 → r < 16 → (view ws).stands (holds i u r) ≡ bit (read ws (held i u)) r
    held_says {u} {r} lu lr = view_says ws (holds i u r) (li, (lu, (lr, tt)))

    holds_it : {u h r : ℕ} → u < 16 → h < 16 → bit (read ws (held i u)) h ≡ true → Reaches links (i # h) (i # r) → authorized (view ws) links i u r ≡ true
    holds_it {u} {h} lu lh b w = complete (record { through = h; is_held = held_says lu lh ∙ b; is_reached = w })

    -- the roles that i@u holds and those of a word
    module _ (u roles : ℕ) where
      abbrev Common : Type 0
      Common = (h : ℕ) × (h < 16) × (bit (read ws (held i u)) h ≡ true) × (bit roles h ≡ true)

      some_held : holds_one ws i u roles ≡ true → (u < 16) × Common
      some_held e = go (below_or_not u 16)
        where
          go : (u < 16) ⊎ (16 ≤ u) → (u < 16) × Common
          go (inl l) = (l, (common_bit _ roles (wide (address (held i u)))).0 (eqb-false _ 0 (not-true _ (rw (lt-ltb u 16 l) at e))))
          go (inr l) = absurd (clash (rw (le-ltb u 16 l) at e) refl)

      held_some : u < 16 → Common → holds_one ws i u roles ≡ true
      held_some l c = rw (lt-ltb u 16 l) (ap not (ne_eqb _ 0 ((common_bit _ roles (wide (address (held i u)))).1 c)))

    pub one_held : (u r : ℕ) {above : ℕ} {b : Bool} → Over ws i r above → b ≡ holds_one ws i u above → b ≡ authorized (view ws) links i u r
    one_held u r {above} o p = p ∙ same_test _ _ (λ e. up (some_held u above e)) (λ e. back (small i u r e) (authorized_sound (view ws) links i u r e))
      where
        up : (u < 16) × Common u above → authorized (view ws) links i u r ≡ true
        up (lu, (h, lh, b, a)) = holds_it lu lh b (reaches-sound links (i # h) (i # r) (sym (o.each h lh) ∙ a))

        back : (i < 16) × (u < 16) × (r < 16) → Authorized (view ws) links i u r → holds_one ws i u above ≡ true
        back (_, lu, _) A =
            let lh = (view_numbered ws (holds i u A.through) A.is_held).1.1.0 in
            held_some u above lu (A.through, lh, sym (held_says lu lh) ∙ A.is_held, o.each A.through lh ∙ reaches-complete links numbered A.is_reached)

    -- who holds the role itself needs no walk
    pub itself_held : (u r : ℕ) {w : ℕ} {b : Bool} → w ≡ with_bit 0 r → b ≡ holds_one ws i u w → b ≡ true → true ≡ authorized (view ws) links i u r
    itself_held u r q p t = sym (go (some_held u (with_bit 0 r) (ap (holds_one ws i u) (sym q) ∙ sym p ∙ t)))
      where
        go : (u < 16) × Common u (with_bit 0 r) → authorized (view ws) links i u r ≡ true
        go (lu, (h, lh, b, a)) =
            let q : r ≡ h = only h (sym (bit_with 0 r h) ∙ a) in
            holds_it lu lh b (subst (λ x. Reaches links (i # h) (i # x)) (sym q) itself)
          where
            only : (n : ℕ) → bit 0 n || eqb r n ≡ true → r ≡ n
            only n x = eqb-true r n (rw (bit_0 n) at x)

    -- ---- the active roles of i/s
    module _ (s n : ℕ) (ln : n < 16) where
      abbrev user : ℕ
      user = read ws (session_user i s)

      abbrev active : Bool
      active = bit (read ws (active_roles i s)) n

      lesser_is : user < 16 → bit (lesser ws i s) n ≡ active && not (bit (read ws (held i user)) n)
      unfolding lesser
      lesser_is l = rw (lt-ltb user 16 l, lesser) (bit-and _ _ n ∙ ap (λ b. active && b) (bit_not 16 _ n (wide (address (held i user))) ln))

      pub lesser_active : bit (lesser ws i s) n ≡ true → active ≡ true
      unfolding lesser
      lesser_active e = go (below_or_not user 16)
        where
          go : (user < 16) ⊎ (16 ≤ user) → active ≡ true
          go (inl l) = and_left active (not (bit (read ws (held i user)) n)) (sym (lesser_is l) ∙ e)
          go (inr l) = rw (le-ltb user 16 l, lesser) at e

      -- an active role that isn't lesser is held
      pub active_held : bit (lesser ws i s) n ≡ false → active ≡ true → (user < 16) × (bit (read ws (held i user)) n ≡ true)
      unfolding lesser
      active_held e a = go (below_or_not user 16)
        where
          go : (user < 16) ⊎ (16 ≤ user) → (user < 16) × (bit (read ws (held i user)) n ≡ true)
          go (inl l) = (l, (and-not active (bit (read ws (held i user)) n)).0 (sym (lesser_is l) ∙ e) a)
          go (inr l) = absurd (clash a (rw (le-ltb user 16 l, lesser) at e))

      pub held_reached : bit (lesser ws i s) n ≡ false → active ≡ true → reached_in ws i s n ≡ true
      held_reached e a = let (l, h) = active_held e a in holds_it l ln h itself

      -- nothing is beyond reach that isn't lesser
      pub none_beyond : bit (lesser ws i s) n ≡ false → active && not (reached_in ws i s n) ≡ false
      none_beyond e = (and-not active (reached_in ws i s n)).1 (held_reached e)

      -- a lesser role is beyond reach where its user holds none of those above it
      pub is_beyond : bit (lesser ws i s) n && not (reached_in ws i s n) ≡ active && not (reached_in ws i s n)
      is_beyond =
          same_test _ _ (λ e. and_intro _ _ (lesser_active (and_left _ (not (reached_in ws i s n)) e)) (and_right (bit (lesser ws i s) n) _ e))
          (λ e. go (bit (lesser ws i s) n) refl (and_left active _ e) (and_right active _ e))
        where
          go : (b : Bool) → bit (lesser ws i s) n ≡ b → active ≡ true → not (reached_in ws i s n) ≡ true → b && not (reached_in ws i s n) ≡ true
          go true q a x = x
          go false q a x = absurd (clash (held_reached q a) (not-true _ x))
