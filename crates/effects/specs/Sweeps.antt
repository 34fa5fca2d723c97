-- What happens to sessions where a fact is cut.
use Rattle.std.specs.Prelude.{◌≡◌, Bool, true, cond, ◌&&◌, List, Option, Some, None, is_none, unwrap_or, ℕ, ◌+◌, ◌-◌, ◌*◌, ◌^◌, ◌<◌, eqb, leb, ltb, length, get_or, set}
use Rattle.std.specs.Int.Bits.{bit_and}
use Rattle.mtas.specs.Fact.{Fact, enrolled, trusts, user, role, permission, public, holds, granted, attached, opened, active}
use Rattle.mtas.specs.Layout.{sessions_at}
use Rattle.effects.specs.declared.sweep.Sweep.{Sweep}

abbrev pub closing : ℕ → ℕ → Option ℕ → Sweep
closing m n o = record { first = m; count = n; user = o; keep = None }

abbrev pub dropping : ℕ → ℕ → Option ℕ → ℕ → Sweep
dropping m n o r = record { first = m; count = n; user = o; keep = Some (65535 - 2 ^ r) }

abbrev pub no_sweep : Sweep
no_sweep = closing 0 0 None

-- what a fact and all that needs it are to sessions; what loses its reach is dropped by settling
abbrev pub sweep_of : Fact → Sweep
sweep_of (enrolled i) = closing (16 * i) 16 None
sweep_of (trusts i j) = no_sweep
sweep_of (user i u) = closing (16 * i) 16 (Some u)
sweep_of (role i r) = dropping (16 * i) 16 None r
sweep_of (permission i p) = no_sweep
sweep_of (public i r) = no_sweep
sweep_of (holds i u r) = no_sweep
sweep_of (granted j p i r) = no_sweep
sweep_of (attached j q i r) = no_sweep
sweep_of (opened i s u) = closing (16 * i + s) 1 (Some u)
sweep_of (active i s u r) = dropping (16 * i + s) 1 (Some u) r

-- o: the sweep of f, or none where it has no sessions
pub record IsSweep (f : Fact) (o : Option Sweep) : Type 0 where
  pub is : unwrap_or o no_sweep ≡ sweep_of f

-- a session of the user u is one of those of this user, or of anyone
abbrev pub of_user : Option ℕ → ℕ → Bool
of_user None u = true
of_user (Some v) u = eqb u v

-- a session of this user is one of the sweep's
abbrev pub meant : Sweep → ℕ → Bool
meant sw u = of_user sw.user u

-- its sessions close, or keep these roles
abbrev pub close : Sweep → Bool
close sw = is_none sw.keep

abbrev pub roles_kept : Sweep → ℕ
roles_kept sw = unwrap_or sw.keep 0

abbrev pub user_after : Sweep → ℕ → ℕ
user_after sw u = cond (meant sw u && close sw) 65535 u

abbrev pub roles_after : Sweep → ℕ → ℕ → ℕ
roles_after sw u a = cond (meant sw u) (cond (close sw) 0 (bit_and a (roles_kept sw))) a

-- where the words of the session m begin
abbrev pub session_at : ℕ → ℕ
session_at m = sessions_at + 2 * m

-- the words ws with the session m swept
abbrev pub swept_words : Sweep → ℕ → List ℕ → List ℕ
swept_words sw m ws =
    set (set ws (session_at m) (user_after sw (get_or ws (session_at m) 0))) (session_at m + 1)
    (roles_after sw (get_or ws (session_at m) 0) (get_or ws (session_at m + 1) 0))

-- the session m is one of the first t that are swept
abbrev pub reached : Sweep → ℕ → ℕ → Bool
reached sw t m = leb sw.first m && ltb m (sw.first + t)

-- vs: the words ws, with the first t sessions of the sweep swept
pub record Swept (sw : Sweep) (t : ℕ) (ws vs : List ℕ) : Type 0 where
  pub len : length vs ≡ length ws
  pub users : (m : ℕ) → get_or vs (session_at m) 0 ≡ cond (reached sw t m) (user_after sw (get_or ws (session_at m) 0)) (get_or ws (session_at m) 0)
  pub roles : (m : ℕ) → get_or vs (session_at m + 1) 0 ≡ cond (reached sw t m) (roles_after sw (get_or ws (session_at m) 0) (get_or ws (session_at m + 1) 0)) (get_or ws (session_at m + 1) 0)
  pub apart : (k : ℕ) → ((m : ℕ) → m < 256 → k ≡ session_at m → ⊥) → ((m : ℕ) → m < 256 → k ≡ session_at m + 1 → ⊥) → get_or vs k 0 ≡ get_or ws k 0
