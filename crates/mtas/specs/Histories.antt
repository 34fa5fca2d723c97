-- The two histories (document 01), and what demand 3 says of them: noninterference.
use Rattle.std.specs.Prelude.{◌≡◌, ◌↔◌, List, [], ◌∷◌, Bool, true, false, ℕ, ◌<◌, get_or}
use Rattle.bits.specs.Bit.{bit}
use Rattle.mtas.specs.Hierarchy.{Role, ◌#◌, Reaches}
use Rattle.mtas.specs.Law.{attachments}
use Rattle.mtas.specs.Call.{AssignTrust}
use Rattle.mtas.specs.Answer.{Answer}
use Rattle.mtas.specs.Decision.{MayUsePermission}
use Rattle.mtas.specs.Through.{LowestThrough}
use Rattle.mtas.specs.Layout.{enrolled_issuers, owner, state_length, word_at, read, view}
use Rattle.mtas.specs.Record.{request, decode, inside, remains}
use Rattle.mtas.specs.Monitor.{monitor, initial_words}

-- 'a list of records, of any bytes'
abbrev pub History : Type 0
History = List (List ℕ)

-- 'Each record is played on the state that the one before left': the words at the end
unfoldable pub final : List ℕ → History → List ℕ
final ws [] = ws
final ws (b ∷ h) = final (monitor ws b).words h

-- for a set of members
module _ (member : ℕ → Bool) where
  -- 'once the outsiders' records are left out'
  unfoldable pub purge : History → History
  purge [] = []
  purge (b ∷ h) = elim (remains member (decode b)) [ true ↦ b ∷ purge h | false ↦ purge h ]

  -- 'the answers to the records that remain'
  unfoldable pub answers : List ℕ → History → List Answer
  answers ws [] = []
  answers ws (b ∷ h) = elim (remains member (decode b)) [ true ↦ (monitor ws b).answer ∷ answers (monitor ws b).words h | false ↦ answers (monitor ws b).words h ]

  -- 'a kind 3 from an outsider that names a member' is not accepted
  abbrev pub TrustRefused : List ℕ → List ℕ → Type 0
  TrustRefused ws b = (c j : ℕ) → decode b ≡ request c (AssignTrust j) → inside member c ≡ false → j < 16 → member j ≡ true → (monitor ws b).answer.refusal ≡ 0 → ⊥

  -- nowhere in a history
  abbrev pub NoTrustIn : List ℕ → History → Type 0
  NoTrustIn ws [] = Unit
  NoTrustIn ws (b ∷ h) = TrustRefused ws b × NoTrustIn (monitor ws b).words h

-- all that stands in j's name is equal bit for bit: its enrolled bit, and every word of its own
pub record SameInName (j : ℕ) (ws vs : List ℕ) : Type 0 where
  pub enrolled_bit : bit (read ws enrolled_issuers) j ≡ bit (read vs enrolled_issuers) j
  pub own_words : (k : ℕ) → k < state_length → owner (word_at k) ≡ j → get_or ws k 0 ≡ get_or vs k 0

-- what two histories have in common for the members
pub record SameForMembers (member : ℕ → Bool) (h₁ h₂ : History) : Type 0 where
  pub same_answers : answers member initial_words h₁ ≡ answers member initial_words h₂
  pub same_words : (j : ℕ) → j < 16 → member j ≡ true → SameInName j (final initial_words h₁) (final initial_words h₂)
  pub same_decisions : (j p i s : ℕ) → j < 16 → member j ≡ true → MayUsePermission (view (final initial_words h₁)) j p i s ↔ MayUsePermission (view (final initial_words h₂)) j p i s
  -- 'demand 3 holds for these two numbers' (Card 7): in the answers above, and read from the words
  pub same_roles : (j p i s : ℕ) → j < 16 → member j ≡ true → (a : Role) → LowestThrough (view (final initial_words h₁)) j p i s a ↔ LowestThrough (view (final initial_words h₂)) j p i s a

-- Demand 3: for every set of members and every two histories that are equal once the outsiders' records are left out,
-- and in neither of which a kind 3 from an outsider that names a member is accepted.
abbrev pub Noninterference : Type 0
Noninterference =
    (member : ℕ → Bool) (h₁ h₂ : History) → purge member h₁ ≡ purge member h₂
    → NoTrustIn member initial_words h₁ → NoTrustIn member initial_words h₂
    → SameForMembers member h₁ h₂

-- 'under its premises only members' roles reach a member's' (document 02, Card 2): in a history where no outsider is accepted in giving trust to a member
abbrev pub OnlyMembersReach : Type 0
OnlyMembersReach =
    (member : ℕ → Bool) (h : History) → NoTrustIn member initial_words h
    → (a : Role) (j r : ℕ) → j < 16 → member j ≡ true → Reaches (attachments (view (final initial_words h))) a (j # r)
    → (a.issuer < 16) × (member a.issuer ≡ true)
