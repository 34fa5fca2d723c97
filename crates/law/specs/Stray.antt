-- Stray bits: bits of a state's words that lack what they need. Where the law holds, each of these words is 0.
use Rattle.std.specs.Prelude.{◌≡◌, Bool, cond, List, ℕ, ◌+◌, ◌*◌, ◌<◌, eqb, get_or}
use Rattle.std.specs.Int.Bits.{bit_or}
use Rattle.bits.specs.Bit.{bit, with_bit}
use Rattle.bits.specs.Gather.{gather, outside}
use Rattle.mtas.specs.Layout.{enrolled_issuers, trusted, users, roles, permissions, held, public_roles, holders_at, seniors_at, read}
use Rattle.sessions.specs.Lesser.{stranger, lesser}

-- w where the test holds, else no bit
abbrev pub only_if : Bool → ℕ → ℕ
only_if test w = cond test w 0

-- 'trust only among enrolled issuers, and each enrolled one trusts itself'; here says whether i is enrolled
unfoldable pub trust_stray : List ℕ → ℕ → Bool → ℕ
trust_stray ws i here =
    bit_or (outside (read ws (trusted i)) (only_if here (read ws enrolled_issuers)))
    (outside (only_if here (with_bit 0 i)) (read ws (trusted i)))

-- 'users, roles and permissions only under enrolled issuers'
unfoldable pub present_stray : List ℕ → ℕ → Bool → ℕ
present_stray ws i here =
    bit_or (bit_or (outside (read ws (users i)) (only_if here 65535)) (outside (read ws (roles i)) (only_if here 65535)))
    (outside (read ws (permissions i)) (only_if here 65535))

-- 'a lawful one has only present roles there'
unfoldable pub public_stray : List ℕ → ℕ → ℕ
public_stray ws i = outside (read ws (public_roles i)) (read ws (roles i))

unfoldable pub own_stray : List ℕ → ℕ → ℕ
own_stray ws i =
    bit_or (bit_or (trust_stray ws i (bit (read ws enrolled_issuers) i)) (present_stray ws i (bit (read ws enrolled_issuers) i)))
    (public_stray ws i)

-- 'held bits only between a present user and a present role'
unfoldable pub held_stray : List ℕ → ℕ → ℕ
held_stray ws i = gather 16 (λ u. outside (read ws (held i u)) (only_if (bit (read ws (users i)) u) (read ws (roles i))))

-- the roles of i that are exposed to j: to i itself all that are present, to others the public ones
abbrev pub exposed_roles : List ℕ → ℕ → ℕ → ℕ
exposed_roles ws j i = cond (eqb j i) (read ws (roles i)) (read ws (public_roles i))

-- the roles of i that may hold j's permissions and be seniors of j's roles: those exposed to j, where i trusts j
abbrev pub allowed : List ℕ → ℕ → ℕ → ℕ
allowed ws j i = only_if (bit (read ws (trusted i)) j) (exposed_roles ws j i)

-- a set of the roles allowed to j
pub record Trusting (ws : List ℕ) (j : ℕ) (words : List ℕ) : Type 0 where
  pub each : (i : ℕ) → i < 16 → get_or words i 0 ≡ allowed ws j i

-- 'grants and attachments only between present ends': word i of row p of j in a region may have the bits of a i, if bit p of present is set
abbrev pub link_stray : List ℕ → ℕ → ℕ → ℕ → (ℕ → ℕ) → ℕ → ℕ → ℕ
link_stray ws from j present a i p = outside (get_or ws (from + 16 * (16 * j + p) + i) 0) (only_if (bit present p) (a i))

-- the sixteen rows of j
unfoldable pub rows_stray : List ℕ → ℕ → ℕ → ℕ → (ℕ → ℕ) → ℕ
rows_stray ws from j present a = gather 16 (λ i. gather 16 (link_stray ws from j present a i))

-- all that the issuer i owns, but for its sessions
unfoldable pub issuer_stray : List ℕ → ℕ → ℕ
issuer_stray ws i =
    bit_or (bit_or (bit_or (own_stray ws i) (held_stray ws i))
    (rows_stray ws holders_at i (read ws (permissions i)) (allowed ws i)))
    (rows_stray ws seniors_at i (read ws (roles i)) (allowed ws i))

-- what is to be looked at more closely in i's sessions: strangers, and active roles that their users don't hold
unfoldable pub issuer_doubt : List ℕ → ℕ → ℕ
issuer_doubt ws i = gather 16 (λ s. bit_or (stranger ws i s) (lesser ws i s))
