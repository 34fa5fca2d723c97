-- The state as 9,041 unsigned 16-bit words (document 01, 'The state'; the last sixteen are Card 1's).
use Rattle.std.specs.Prelude.{List, [], ◌∷◌, Bool, true, false, ◌&&◌, ℕ, ◌+◌, ◌-◌, ◌*◌, ◌/◌, ◌%◌, eqb, ltb, get_or}
use Rattle.bits.specs.Bit.{bit}
use Rattle.bits.specs.Below.{tabulate}
use Rattle.mtas.specs.Fact.{Fact, enrolled, trusts, user, role, permission, public, holds, granted, attached, opened, active, numbers, above_15}
use Rattle.mtas.specs.State.{State, packed, user_of}

-- the words, by what they say
pub data Word : Type 0 where
  enrolled_issuers : Word
  trusted : ℕ → Word  -- i: the issuers that i trusts
  users roles permissions : ℕ → Word  -- i: present, of the issuer i
  held : ℕ → ℕ → Word  -- i u: roles held by i@u
  holders : ℕ → ℕ → ℕ → Word  -- j p i: roles of i that hold j%p
  seniors : ℕ → ℕ → ℕ → Word  -- j q i: roles of i that are direct seniors of j#q
  session_user : ℕ → ℕ → Word  -- i s: the user of i/s, or 65535 when closed
  active_roles : ℕ → ℕ → Word  -- i s: the active roles of i/s
  public_roles : ℕ → Word  -- i: the public roles of the issuer i

-- where each region begins, and the state's length
abbrev pub trusted_at : ℕ
trusted_at = 1

abbrev pub users_at : ℕ
users_at = 17

abbrev pub roles_at : ℕ
roles_at = 33

abbrev pub permissions_at : ℕ
permissions_at = 49

abbrev pub held_at : ℕ
held_at = 65

abbrev pub holders_at : ℕ
holders_at = 321

abbrev pub seniors_at : ℕ
seniors_at = 4417

abbrev pub sessions_at : ℕ
sessions_at = 8513

abbrev pub public_at : ℕ
public_at = 9025

abbrev pub state_length : ℕ
state_length = 9041

-- the words of grants, and as many of attachments
abbrev pub links_length : ℕ
links_length = 4096

abbrev pub address : Word → ℕ
address enrolled_issuers = 0
address (trusted i) = trusted_at + i
address (users i) = users_at + i
address (roles i) = roles_at + i
address (permissions i) = permissions_at + i
address (held i u) = held_at + 16 * i + u
address (holders j p i) = holders_at + 16 * (16 * j + p) + i
address (seniors j q i) = seniors_at + 16 * (16 * j + q) + i
address (session_user i s) = sessions_at + 2 * (16 * i + s)
address (active_roles i s) = sessions_at + 2 * (16 * i + s) + 1
address (public_roles i) = public_at + i

-- the words of a region, by their distance from where it begins
pub record Region : Type 0 where
  pub from : ℕ
  pub word : ℕ → Word

abbrev region : ℕ → (ℕ → Word) → Region
region k f = record { from = k; word = f }

abbrev session_word : ℕ → Word
session_word k = elim (eqb (k % 2) 0) [ true ↦ session_user (k / 32) (k / 2 % 16) | false ↦ active_roles (k / 32) (k / 2 % 16) ]

-- the regions behind word 0
abbrev pub regions : List Region
regions =
    region trusted_at trusted
    ∷ region users_at users
    ∷ region roles_at roles
    ∷ region permissions_at permissions
    ∷ region held_at (λ k. held (k / 16) (k % 16))
    ∷ region holders_at (λ k. holders (k / 256) (k / 16 % 16) (k % 16))
    ∷ region seniors_at (λ k. seniors (k / 256) (k / 16 % 16) (k % 16))
    ∷ region sessions_at session_word
    ∷ region public_at public_roles
    ∷ []

-- of the regions that begin at k or before it, the last one's word; w where there is none
unfoldable pub word_in : List Region → Word → ℕ → Word
word_in [] w k = w
word_in (r ∷ l) w k = elim (ltb k r.from) [ true ↦ w | false ↦ word_in l (r.word (k - r.from)) k ]

-- the word at an address below the state's length: address the other way
unfoldable pub word_at : ℕ → Word
word_at k = word_in regions enrolled_issuers k

-- the three sorts of word, by what its bits or its number say
pub data Cell : Type 0 where
  sixteen : (ℕ → Fact) → Cell  -- bit n says whether the n-th fact stands
  its_user : ℕ → ℕ → Cell  -- i s: the number is the user of i/s, or 65535 when it is closed
  in_session : ℕ → ℕ → (ℕ → ℕ → Fact) → Cell  -- i s: bit n says whether the n-th fact of the user of i/s stands

-- the facts that a word says
abbrev pub cell : Word → Cell
cell enrolled_issuers = sixteen enrolled
cell (trusted i) = sixteen (trusts i)
cell (users i) = sixteen (user i)
cell (roles i) = sixteen (role i)
cell (permissions i) = sixteen (permission i)
cell (held i u) = sixteen (holds i u)
cell (holders j p i) = sixteen (granted j p i)
cell (seniors j q i) = sixteen (attached j q i)
cell (session_user i s) = its_user i s
cell (active_roles i s) = in_session i s (active i s)
cell (public_roles i) = sixteen (public i)

-- where a fact is said
pub data Place : Type 0 where
  bit_of : Word → ℕ → Place  -- w n: bit n of the word w
  user_in : ℕ → ℕ → ℕ → Place  -- i s u: the user of i/s is u
  bit_while : ℕ → ℕ → ℕ → Word → ℕ → Place  -- i s u w n: bit n of the word w, while the user of i/s is u

-- the place of a fact
abbrev pub place : Fact → Place
place (enrolled i) = bit_of enrolled_issuers i
place (trusts i j) = bit_of (trusted i) j
place (user i u) = bit_of (users i) u
place (role i r) = bit_of (roles i) r
place (permission i p) = bit_of (permissions i) p
place (public i r) = bit_of (public_roles i) r
place (holds i u r) = bit_of (held i u) r
place (granted j p i r) = bit_of (holders j p i) r
place (attached j q i r) = bit_of (seniors j q i) r
place (opened i s u) = user_in i s u
place (active i s u r) = bit_while i s u (active_roles i s) r

-- 'In j's own name stand its .. trust word, its users, roles, permissions, held words and sessions, and the words of j%p and j#q':
-- in whose name a word stands, with 'the issuer whose call sets them' for the public roles. The enrolled bits stand each in its issuer's, so that word is nobody's, 16.
abbrev pub owner : Word → ℕ
owner enrolled_issuers = 16
owner (trusted i) = i
owner (users i) = i
owner (roles i) = i
owner (permissions i) = i
owner (held i u) = i
owner (holders j p i) = j
owner (seniors j q i) = j
owner (session_user i s) = i
owner (active_roles i s) = i
owner (public_roles i) = i

-- what a state holds in a word
abbrev pub contents : State → Cell → ℕ
contents st (sixteen f) = packed st f
contents st (its_user i s) = user_of st i s
contents st (in_session i s f) = packed st (f (user_of st i s))

-- the words of a state
unfoldable pub encode : State → List ℕ
encode st = tabulate state_length (λ k. contents st (cell (word_at k)))

-- the word w in a list of words
abbrev pub read : List ℕ → Word → ℕ
read ws w = get_or ws (address w) 0

-- what words say at a place
abbrev pub tells : List ℕ → Place → Bool
tells ws (bit_of w n) = bit (read ws w) n
tells ws (user_in i s u) = eqb (read ws (session_user i s)) u
tells ws (bit_while i s u w n) = eqb (read ws (session_user i s)) u && bit (read ws w) n

abbrev pub says : List ℕ → Fact → Bool
says ws f = tells ws (place f)

-- the state that words say; no fact has a number above 15
unfoldable pub view : List ℕ → State
view ws = record { stands = λ f. elim (above_15 (numbers f)) [ true ↦ false | false ↦ says ws f ] }
