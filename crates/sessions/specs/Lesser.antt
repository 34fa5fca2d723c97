-- What is seen of sessions, by words: strangers, active roles that the session's user doesn't hold, and those of them that no role held by it reaches.
use Rattle.std.specs.Prelude.{◌≡◌, Bool, true, false, cond, not, ◌&&◌, List, ℕ, ◌-◌, ◌<◌, eqb, ltb, get_or}
use Rattle.std.specs.Int.Bits.{bit_and, bit_or}
use Rattle.bits.specs.Bit.{bit, without_bit}
use Rattle.mtas.specs.Hierarchy.{◌#◌, reaches}
use Rattle.mtas.specs.Law.{attachments}
use Rattle.mtas.specs.Settle.{authorized}
use Rattle.mtas.specs.Layout.{users, held, session_user, active_roles, read, view}

-- the bits of a session that are not those of a closed one
abbrev pub awake : List ℕ → ℕ → ℕ → ℕ
awake ws i s = bit_or (65535 - read ws (session_user i s)) (read ws (active_roles i s))

-- 1 where the user of i/s is neither nobody nor one that is present
unfoldable pub stranger : List ℕ → ℕ → ℕ → ℕ
stranger ws i s =
    cond (ltb (read ws (session_user i s)) 16)
    (cond (bit (read ws (users i)) (read ws (session_user i s))) 0 1)
    (cond (eqb (read ws (session_user i s)) 65535) 0 1)

-- the active roles of i/s that its user doesn't hold; nobody has a number above 15
unfoldable pub lesser : List ℕ → ℕ → ℕ → ℕ
lesser ws i s =
    cond (ltb (read ws (session_user i s)) 16)
    (bit_and (read ws (active_roles i s)) (65535 - read ws (held i (read ws (session_user i s)))))
    (read ws (active_roles i s))

-- a word for each session of i
pub record IsLesser (ws : List ℕ) (i : ℕ) (words : List ℕ) : Type 0 where
  pub each : (s : ℕ) → s < 16 → get_or words s 0 ≡ lesser ws i s

-- the roles of i that reach i#r
pub record Over (ws : List ℕ) (i r above : ℕ) : Type 0 where
  pub each : (h : ℕ) → h < 16 → bit above h ≡ reaches (attachments (view ws)) (i # h) (i # r)

-- i@u holds one of these roles
abbrev pub holds_one : List ℕ → ℕ → ℕ → ℕ → Bool
holds_one ws i u some = cond (ltb u 16) (not (eqb (bit_and (read ws (held i u)) some) 0)) false

-- after: the words before, without i#r in the sessions whose users hold one of the roles above it
pub record Spared (ws : List ℕ) (i r above : ℕ) (before after : List ℕ) : Type 0 where
  pub each : (s : ℕ) → s < 16 → get_or after s 0 ≡ cond (holds_one ws i (read ws (session_user i s)) above) (without_bit (get_or before s 0) r) (get_or before s 0)

-- a role that the user of i/s holds reaches i#n, by what the words say
abbrev pub reached_in : List ℕ → ℕ → ℕ → ℕ → Bool
reached_in ws i s n = authorized (view ws) (attachments (view ws)) i (read ws (session_user i s)) n

-- a word for each session of i: its active roles that no role held by its user reaches
pub record Beyond (ws : List ℕ) (i : ℕ) (words : List ℕ) : Type 0 where
  pub each : (s n : ℕ) → s < 16 → n < 16 → bit (get_or words s 0) n ≡ bit (read ws (active_roles i s)) n && not (reached_in ws i s n)

-- each user of i's sessions is nobody or present, and each of their active roles reached by one that this user holds
pub record IssuerInOrder (ws : List ℕ) (i : ℕ) : Type 0 where
  pub users : (s : ℕ) → s < 16 → stranger ws i s ≡ 0
  pub roles : (s n : ℕ) → s < 16 → n < 16 → bit (read ws (active_roles i s)) n ≡ true → reached_in ws i s n ≡ true

-- the same of all issuers
pub record InOrder (ws : List ℕ) : Type 0 where
  pub users : (i s : ℕ) → i < 16 → s < 16 → stranger ws i s ≡ 0
  pub roles : (i s n : ℕ) → i < 16 → s < 16 → n < 16 → bit (read ws (active_roles i s)) n ≡ true → reached_in ws i s n ≡ true

-- each session's user is nobody or present, and holds each of its active roles itself
pub record Plain (ws : List ℕ) : Type 0 where
  pub users : (i s : ℕ) → i < 16 → s < 16 → stranger ws i s ≡ 0
  pub roles : (i s : ℕ) → i < 16 → s < 16 → lesser ws i s ≡ 0
