-- Through which role (document 02, Card 7): 'Owners reading a yes want to see what gave it.'
use Rattle.std.specs.Prelude.{◌≡◌, ◌↔◌, true, List, ℕ, ◌<◌, ◌≤◌}
use Rattle.mtas.specs.Fact.{trusts}
use Rattle.mtas.specs.State.{State}
use Rattle.mtas.specs.Hierarchy.{Role, ◌#◌}
use Rattle.mtas.specs.Call.{CheckAccess}
use Rattle.mtas.specs.Layout.{view}
use Rattle.mtas.specs.LawTest.{LawfulWords}
use Rattle.mtas.specs.Record.{request, decode}
use Rattle.mtas.specs.Monitor.{start, monitor}
use Rattle.mtas.specs.Decision.{MayUsePermissionThrough}
use Rattle.mtas.specs.Chain.{Chain}

-- 'the lowest issuer number, then the lowest role number': a is lower than b
pub data Lower (a b : Role) : Type 0 where
  by_issuer : a.issuer < b.issuer → Lower a b
  by_number : a.issuer ≡ b.issuer → a.number < b.number → Lower a b

-- the session i/s may use j%p through a, and through no lower role
pub record LowestThrough (st : State) (j p i s : ℕ) (a : Role) : Type 0 where
  pub may : MayUsePermissionThrough st j p i s a
  pub none_lower : (b : Role) → Lower b a → MayUsePermissionThrough st j p i s b → ⊥

pub record Through : Type 0 where
  -- kind 21 is a yes through a where the words are a lawful state and a is that role, and only there
  pub yes_iff : (ws b : List ℕ) (c p i s : ℕ) (a : Role) → decode b ≡ request c (CheckAccess p i s)
      → ((monitor ws b).answer ≡ record { refusal = 0; verdict = 1; through = a }) ↔ (LawfulWords ws × LowestThrough (view ws) c p i s a)
  -- where the verdict is 1 there is such a role, with numbers of a role: so 255 tells that there is none
  pub with_a_yes : (ws b : List ℕ) → (monitor ws b).answer.verdict ≡ 1
      → (a : Role) × (a.issuer < 16) × (a.number < 16) × ((monitor ws b).answer ≡ record { refusal = 0; verdict = 1; through = a })
  -- said by the numbers: of all roles through which the session may use the permission it has the lowest issuer number, of those of this issuer the lowest role number
  pub lowest_issuer : (ws b : List ℕ) (c p i s : ℕ) (a : Role) → decode b ≡ request c (CheckAccess p i s) → LawfulWords ws → MayUsePermissionThrough (view ws) c p i s a
      → (monitor ws b).answer.through.issuer ≤ a.issuer
  pub lowest_number : (ws b : List ℕ) (c p i s : ℕ) (a : Role) → decode b ≡ request c (CheckAccess p i s) → LawfulWords ws → MayUsePermissionThrough (view ws) c p i s a
      → (monitor ws b).answer.through.issuer ≡ a.issuer → (monitor ws b).answer.through.number ≤ a.number
  -- 'without a yes they are 255 and 255': in a refusal, in every other kind, in a sign of life, and in starting's answer
  pub without_a_yes : (ws b : List ℕ) → ((monitor ws b).answer.verdict ≡ 1 → ⊥) → (monitor ws b).answer.through ≡ 255 # 255
  pub refused : (ws b : List ℕ) → ((monitor ws b).answer.refusal ≡ 0 → ⊥) → (monitor ws b).answer.through ≡ 255 # 255
  pub other_kinds : (ws b : List ℕ) → ((c p i s : ℕ) → decode b ≡ request c (CheckAccess p i s) → ⊥)
      → ((monitor ws b).answer.verdict ≡ 0) × ((monitor ws b).answer.through ≡ 255 # 255)
  pub starting : (ws : List ℕ) → (start ws).answer.through ≡ 255 # 255
  -- a chain of trust leads to its owner from the session's issuer
  pub led_to : (ws b : List ℕ) (c p i s : ℕ) → decode b ≡ request c (CheckAccess p i s) → (monitor ws b).answer.verdict ≡ 1
      → Chain (view ws) i (monitor ws b).answer.through.issuer
  -- 'That role's owner trusts the permission's'
  pub trusted : (ws b : List ℕ) (c p i s : ℕ) → decode b ≡ request c (CheckAccess p i s) → (monitor ws b).answer.verdict ≡ 1
      → (view ws).stands (trusts (monitor ws b).answer.through.issuer c) ≡ true
