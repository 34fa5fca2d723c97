-- What is seen of a session, by the tests on its user.
use Rattle.std.proofs.Common.{◌≡◌, Bool, true, false, List, ℕ, ◌<◌, ◌≤◌, lt-ltb, le-ltb, eq-eqb, ne_eqb}
use Rattle.bits.specs.Bit.{bit}
use Rattle.mtas.specs.Layout.{users, session_user, active_roles, read}
use Rattle.sessions.specs.Lesser.{stranger, lesser}

module _ (ws : List ℕ) (i s : ℕ) where
  pub user_present : {b : Bool} → read ws (session_user i s) < 16 → b ≡ bit (read ws (users i)) (read ws (session_user i s)) → b ≡ true → 0 ≡ stranger ws i s
  unfolding stranger
  user_present l e t = rw (lt-ltb _ _ l, ← e, t, stranger)

  pub user_absent : {b : Bool} → read ws (session_user i s) < 16 → b ≡ bit (read ws (users i)) (read ws (session_user i s)) → b ≡ false → 1 ≡ stranger ws i s
  unfolding stranger
  user_absent l e t = rw (lt-ltb _ _ l, ← e, t, stranger)

  pub closed : 16 ≤ read ws (session_user i s) → read ws (session_user i s) ≡ 65535 → 0 ≡ stranger ws i s
  unfolding stranger
  closed l e = rw (le-ltb _ _ l, eq-eqb _ _ e, stranger)

  pub no_user : 16 ≤ read ws (session_user i s) → (read ws (session_user i s) ≡ 65535 → ⊥) → 1 ≡ stranger ws i s
  unfolding stranger
  no_user l n = rw (le-ltb _ _ l, ne_eqb _ _ n, stranger)

  pub lesser_of_nobody : 16 ≤ read ws (session_user i s) → read ws (active_roles i s) ≡ lesser ws i s
  unfolding lesser
  lesser_of_nobody l = rw (le-ltb _ 16 l, lesser)
