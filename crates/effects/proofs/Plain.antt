-- Where each active role is held by its session's user, a cut of anything but a holding breaks no reach.
use Rattle.std.proofs.Common.{◌≡◌, refl, ap, sym, ◌∙◌, true, false, List, ℕ, eqb, eqb-true}
use Rattle.bits.specs.Bit.{bit}
use Rattle.bits.proofs.Bit.{bit_0}
use Rattle.bits.proofs.Booleans.{clash, and_both}
use Rattle.mtas.specs.Fact.{Fact, holds, active}
use Rattle.mtas.specs.State.{cut}
use Rattle.mtas.specs.Hierarchy.{itself}
use Rattle.mtas.specs.Law.{In, here, there, attachments, Authorized}
use Rattle.mtas.specs.Settle.{settle}
use Rattle.mtas.specs.Layout.{session_user, active_roles, read, view}
use Rattle.mtas.specs.LawTest.{LawfulWords}
use Rattle.mtas.proofs.Facts.{All, all_in, roots, cut-old, cut-gone, cut-other}
use Rattle.mtas.proofs.Law.{cut_rooted}
use Rattle.mtas.proofs.Settle.{reached-settled}
use Rattle.mtas.proofs.Words.{view_says, view_numbered}
use Rattle.sessions.specs.Lesser.{Plain}
use Rattle.sessions.proofs.Reached.{active_held}
use Rattle.effects.specs.Cut.{is_holding}

-- what a holding needs an active role of its user needs too
shared : (i s u r : ℕ) → All (λ f. is_holding f ≡ false → In f (roots (active i s u r))) (roots (holds i u r))
shared i s u r = (λ e. absurd (clash refl e), (λ _. search (here, there), (λ _. search (here, there), (λ _. search (here, there), (λ _. search (here, there) depth 9, tt)))))

module _ (ws : List ℕ) (W : LawfulWords ws) (H : Plain ws) (f : Fact) (n : is_holding f ≡ false) where
  held : (i s u r : ℕ) → (view ws).stands (active i s u r) ≡ true → (view ws).stands (holds i u r) ≡ true
  held i s u r h =
      let (li, (ls, (lu, (lr, _)))) = view_numbered ws (active i s u r) h in
      let (o, b) = and_both (eqb (read ws (session_user i s)) u) (bit (read ws (active_roles i s)) r) (sym (view_says ws (active i s u r) (li, (ls, (lu, (lr, tt))))) ∙ h) in
      let e = eqb-true (read ws (session_user i s)) u o in
      let (_, k) = active_held ws W.wide li s r lr (ap (λ w. bit w r) (H.roles i s li ls) ∙ bit_0 r) b in
      view_says ws (holds i u r) (li, (lu, (lr, tt))) ∙ (rw e at k)

  still : (i s u r : ℕ) → (cut f (view ws)).stands (active i s u r) ≡ true → Authorized (cut f (view ws)) (attachments (cut f (view ws))) i u r
  still i s u r h = record {
    through = r;
    is_held =
        cut-other f (view ws) (holds i u r) (λ m. clash h (cut-gone f (view ws) (active i s u r) (all_in (λ g. is_holding g ≡ false → In g (roots (active i s u r))) (shared i s u r) m n)))
        ∙ held i s u r (cut-old f (view ws) (active i s u r) h);
    is_reached = itself;
  }

  pub plain_settled : settle (cut f (view ws)) ≡ cut f (view ws)
  plain_settled = reached-settled (cut f (view ws)) (cut_rooted (view ws) W.lawful f).numbered still
