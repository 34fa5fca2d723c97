-- Nothing is doubtful where all sessions are closed.
use Rattle.std.proofs.Common.{◌≡◌, sym, ◌∙◌, List, ℕ, ◌-◌, ◌<◌, arith, get_or}
use Rattle.bits.specs.Gather.{gather}
use Rattle.bits.proofs.Gather.{gather-zero, or-zero}
use Rattle.mtas.specs.Layout.{session_user, active_roles, address, read}
use Rattle.sessions.specs.Lesser.{awake, stranger, lesser}
use Rattle.sessions.proofs.Looked.{closed, lesser_of_nobody}
use Rattle.law.specs.Stray.{issuer_doubt}

pub all_closed : (ws : List ℕ) (i : ℕ) {x : ℕ} → ((k : ℕ) → get_or ws k 0 < 65536) → x ≡ gather 16 (awake ws i) → x ≡ 0 → 0 ≡ issuer_doubt ws i
unfolding issuer_doubt
all_closed ws i wide e z = sym ((gather-zero 16 _).1 (λ s l. (or-zero (stranger ws i s) (lesser ws i s)).1 (go s ((or-zero _ _).0 ((gather-zero 16 (awake ws i)).0 (sym e ∙ z) s l)))))
  where
    go : (s : ℕ) → (65535 - read ws (session_user i s) ≡ 0) × (read ws (active_roles i s) ≡ 0) → (stranger ws i s ≡ 0) × (lesser ws i s ≡ 0)
    go s (a, b) = let w = wide (address (session_user i s)) in (sym (closed ws i s (omega arith) (omega arith)), sym (lesser_of_nobody ws i s (omega arith)) ∙ b)
