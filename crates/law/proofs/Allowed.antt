-- The roles that are allowed to j: the public ones of the issuers that trust it, with j's own word written over.
use Rattle.std.proofs.Common.{◌≡◌, refl, sym, List, ℕ, ◌<◌, length, get_or, set, get_or-set_same, get_or-set_other, eq-eqb, ne_eqb}
use native.Mathlib.Decide.{ℕ_discrete}
use Rattle.bits.specs.Bit.{bit}
use Rattle.mtas.specs.Layout.{trusted, roles, public_roles, read}
use Rattle.law.specs.Stray.{only_if, allowed, Trusting}

module _ (ws : List ℕ) (j : ℕ) where
  -- where i trusts j
  abbrev pub if_trusting : ℕ → ℕ → ℕ
  if_trusting i w = only_if (bit (read ws (trusted i)) j) w

  pub own_over : (vs : List ℕ) {w : ℕ} → j < length vs → ((i : ℕ) → i < 16 → get_or vs i 0 ≡ if_trusting i (read ws (public_roles i)))
      → w ≡ if_trusting j (read ws (roles j)) → Trusting ws j (set vs j w)
  own_over vs {w} long others own = record { each = λ i l. go i l (ℕ_discrete i j) }
    where
      go : (i : ℕ) → i < 16 → Dec (i ≡ j) → get_or (set vs j w) i 0 ≡ allowed ws j i
      go i l (yes e) = rw (e, get_or-set_same vs j w 0 long, eq-eqb j j refl) own
      go i l (no n) = rw (get_or-set_other vs j i w 0 n, ne_eqb j i (λ e. n (sym e))) (others i l)
