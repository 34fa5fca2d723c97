-- The user that the table finds for a session, and that it is the session's one user.
use mathlib.Core.Path.{◌≡◌}
use mathlib.Core.Logic.{◌⊎◌}
use mathlib.Core.Bool.{Bool, true, false}
use Prim.Native.Nat.{ℕ, ◌<◌}
use native.Mathlib.Omega.{arith}
use Rattle.bits.proofs.Booleans.{clash, untrue}
use Rattle.bits.proofs.Below.{find_cases, find_finds, find_passes}
use Rattle.mtas.specs.Fact.{opened}
use Rattle.mtas.specs.State.{State, user_of}
use Rattle.mtas.proofs.Law.{Rooted}

module _ (st : State) (i s : ℕ) where
  abbrev open_for : ℕ → Bool
  open_for u = st.stands (opened i s u)

  pub user_cases : (user_of st i s < 16) ⊎ (user_of st i s ≡ 65535)
  user_cases = find_cases 16 open_for 65535

  pub user_passes : user_of st i s < 16 → st.stands (opened i s (user_of st i s)) ≡ true
  user_passes l = find_passes 16 open_for 65535 (omega arith) l

  pub user_finds : (u : ℕ) → u < 16 → st.stands (opened i s u) ≡ true → st.stands (opened i s (user_of st i s)) ≡ true
  user_finds u l h = find_finds 16 open_for 65535 u l h

module _ (st : State) (R : Rooted st) (i s : ℕ) where
  open_found : (u : ℕ) → st.stands (opened i s u) ≡ true → st.stands (opened i s (user_of st i s)) ≡ true
  open_found u h = user_finds st i s u (R.numbered (opened i s u) h).1.1.0 h

  pub user_is : (u : ℕ) → st.stands (opened i s u) ≡ true → user_of st i s ≡ u
  user_is u h = R.one_user i s (user_of st i s) u (open_found u h) h

  -- a closed session is open for nobody
  pub closed : st.stands (opened i s (user_of st i s)) ≡ false → (u : ℕ) → st.stands (opened i s u) ≡ false
  closed h u = untrue (st.stands (opened i s u)) (λ k. clash (open_found u k) h)
