-- Strips: words side by side or sixteen apart, and the bits that they keep where a fact is cut.
use Rattle.std.specs.Prelude.{◌≡◌, Bool, not, ◌&&◌, List, [], ◌∷◌, ℕ, ◌+◌, ◌-◌, ◌*◌, ◌^◌, ◌≤◌, length, get_or}
use Rattle.std.specs.List.{list_all}
use Rattle.bits.specs.Bit.{bit}
use Rattle.bits.specs.Stride.{in_stride}
use Rattle.bits.specs.Update.{Masked}
use Rattle.mtas.specs.Fact.{Fact, enrolled, trusts, user, role, permission, public, holds, granted, attached, opened, active}
use Rattle.mtas.specs.Layout.{state_length, address, enrolled_issuers, trusted, users, roles, permissions, held, holders, seniors, public_roles}

-- words a step apart: where they begin, how many they are, and the bits that they keep
pub record Strip : Type 0 where
  pub step : ℕ
  pub from : ℕ
  pub count : ℕ
  pub keep : ℕ

-- one word, words side by side, and words sixteen apart
abbrev pub word : ℕ → ℕ → Strip
word at m = record { step = 1; from = at; count = 1; keep = m }

abbrev pub run : ℕ → ℕ → ℕ → Strip
run k n m = record { step = 1; from = k; count = n; keep = m }

abbrev pub column : ℕ → ℕ → ℕ → Strip
column k n m = record { step = 16; from = k; count = n; keep = m }

-- the bits of a fact and of all that needs it, but for sessions; where a role is no longer public, the words of its own issuer's links are left out
abbrev pub strips : Fact → List Strip
strips (enrolled i) =
    word (address enrolled_issuers) (65535 - 2 ^ i) ∷ run (address (trusted 0)) 16 (65535 - 2 ^ i)
    ∷ word (address (trusted i)) 0 ∷ word (address (users i)) 0 ∷ word (address (roles i)) 0 ∷ word (address (permissions i)) 0 ∷ run (address (held i 0)) 16 0
    ∷ run (address (holders i 0 0)) 256 0 ∷ column (address (holders 0 0 i)) 256 0
    ∷ run (address (seniors i 0 0)) 256 0 ∷ column (address (seniors 0 0 i)) 256 0 ∷ word (address (public_roles i)) 0 ∷ []
strips (trusts i j) = word (address (trusted i)) (65535 - 2 ^ j) ∷ column (address (holders j 0 i)) 16 0 ∷ column (address (seniors j 0 i)) 16 0 ∷ []
strips (user i u) = word (address (users i)) (65535 - 2 ^ u) ∷ word (address (held i u)) 0 ∷ []
strips (role i r) =
    word (address (roles i)) (65535 - 2 ^ r) ∷ run (address (held i 0)) 16 (65535 - 2 ^ r)
    ∷ column (address (holders 0 0 i)) 256 (65535 - 2 ^ r) ∷ column (address (seniors 0 0 i)) 256 (65535 - 2 ^ r) ∷ run (address (seniors i r 0)) 16 0
    ∷ word (address (public_roles i)) (65535 - 2 ^ r) ∷ []
strips (permission i p) = word (address (permissions i)) (65535 - 2 ^ p) ∷ run (address (holders i p 0)) 16 0 ∷ []
strips (public i r) =
    word (address (public_roles i)) (65535 - 2 ^ r)
    ∷ column (address (holders 0 0 i)) (16 * i) (65535 - 2 ^ r) ∷ column (address (holders (i + 1) 0 i)) (240 - 16 * i) (65535 - 2 ^ r)
    ∷ column (address (seniors 0 0 i)) (16 * i) (65535 - 2 ^ r) ∷ column (address (seniors (i + 1) 0 i)) (240 - 16 * i) (65535 - 2 ^ r) ∷ []
strips (holds i u r) = word (address (held i u)) (65535 - 2 ^ r) ∷ []
strips (granted j p i r) = word (address (holders j p i)) (65535 - 2 ^ r) ∷ []
strips (attached j q i r) = word (address (seniors j q i)) (65535 - 2 ^ r) ∷ []
strips (opened i s u) = []
strips (active i s u r) = []

-- the words of a strip
abbrev pub covers : Strip → ℕ → Bool
covers s = in_stride s.step s.from s.count

pub record StripMasked (s : Strip) (ws vs : List ℕ) : Type 0 where
  pub words : Masked (covers s) s.keep ws vs

-- the strip lies within the state
abbrev pub Lies : Strip → Type 0
Lies s = s.from + s.step * s.count ≤ state_length + s.step - 1

abbrev pub AllLie : List Strip → Type 0
AllLie [] = Unit
AllLie (s ∷ l) = Lies s × AllLie l

-- whether the strip spares bit n of the word at k
abbrev pub spares : Strip → ℕ → ℕ → Bool
spares s k n = not (covers s k && not (bit s.keep n))

-- vs: the words ws, with the bits that each strip leaves
pub record Kept (l : List Strip) (ws vs : List ℕ) : Type 0 where
  pub len : length vs ≡ length ws
  pub below : (k : ℕ) → get_or vs k 0 ≤ get_or ws k 0
  pub each : (k n : ℕ) → bit (get_or vs k 0) n ≡ bit (get_or ws k 0) n && list_all (λ s. spares s k n) l
