-- Words whose sessions lost the active roles that no role held by their users reaches.
use Rattle.std.specs.Prelude.{◌≡◌, cond, ◌&&◌, List, ℕ, ◌-◌, ◌<◌, ltb, length, get_or}
use Rattle.std.specs.Int.Bits.{bit_and}
use Rattle.bits.specs.Bit.{bit}
use Rattle.mtas.specs.Layout.{address, active_roles, read}
use Rattle.sessions.specs.Lesser.{reached_in}

-- vs: ws, where the first t sessions of i lost the active roles of the words
pub record Dropped (i : ℕ) (words : List ℕ) (t : ℕ) (ws vs : List ℕ) : Type 0 where
  pub len : length vs ≡ length ws
  pub roles : (s : ℕ) → s < 16 → read vs (active_roles i s) ≡ cond (ltb s t) (bit_and (read ws (active_roles i s)) (65535 - get_or words s 0)) (read ws (active_roles i s))
  pub apart : (k : ℕ) → ((s : ℕ) → s < 16 → k ≡ address (active_roles i s) → ⊥) → get_or vs k 0 ≡ get_or ws k 0

-- vs: ws, where every session keeps the active roles that a role held by its user reaches, and no others
pub record Settled (ws vs : List ℕ) : Type 0 where
  pub len : length vs ≡ length ws
  pub roles : (i s n : ℕ) → i < 16 → s < 16 → n < 16 → bit (read vs (active_roles i s)) n ≡ bit (read ws (active_roles i s)) n && reached_in ws i s n
  pub apart : (k : ℕ) → ((i s : ℕ) → i < 16 → s < 16 → k ≡ address (active_roles i s) → ⊥) → get_or vs k 0 ≡ get_or ws k 0
