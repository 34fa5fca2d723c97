-- What a call answers and what it leaves (document 01: 'An answer is two numbers: a refusal (0 for accepted) and a verdict'; document 02, Card 7: it carries the role that gave a yes).
use Rattle.std.specs.Prelude.{List, [], ◌∷◌, Bool, true, false, ◌&&◌, ℕ}
use Rattle.std.proofs.Math.Option.{Option, none, some}
use Rattle.bits.specs.Below.{any_below, lowest_below}
use Rattle.mtas.specs.Fact.{active}
use Rattle.mtas.specs.State.{State, put, cut, user_of}
use Rattle.mtas.specs.Hierarchy.{Role, ◌#◌, Graph, nth_role, reaches}
use Rattle.mtas.specs.Law.{attachments, holders_of}
use Rattle.mtas.specs.Settle.{settle}
use Rattle.mtas.specs.Call.{Call}
use Rattle.mtas.specs.Rule.{Guard, cause, applies, Effect, puts, cuts, decides, rule, guards}

pub record Answer : Type 0 where
  pub refusal : ℕ
  pub verdict : ℕ
  pub through : Role  -- 'what gave it'

-- the verdict and the role of what was looked up: 'without a yes they are 255 and 255'
abbrev pub verdict_of : Option Role → ℕ
verdict_of none = 0
verdict_of (some a) = 1

abbrev pub role_of : Option Role → Role
role_of none = 255 # 255
role_of (some a) = a

-- the answer to an accepted call, and to a refused one
abbrev pub accepts : Option Role → Answer
accepts found = record { refusal = 0; verdict = verdict_of found; through = role_of found }

abbrev pub refuses : ℕ → Answer
refuses n = record { refusal = n; verdict = verdict_of none; through = role_of none }

pub data Outcome : Type 0 where
  accepted : Outcome
  refused : ℕ → Outcome

-- 'the first that applies is given, and never otherwise'
unfoldable pub first_cause : State → List Guard → Outcome
first_cause st [] = accepted
first_cause st (g ∷ l) = elim (applies st g) [ true ↦ refused (cause g) | false ↦ first_cause st l ]

unfoldable pub outcome : State → ℕ → Call → Outcome
outcome st c k = first_cause st (guards (user_of st c) c k)

-- 'an active role of an open session reaches', in a graph, the role b, which passes the test
unfoldable pub may_use_through : State → Graph → (Role → Bool) → ℕ → ℕ → Role → Bool
may_use_through st below holder i s b = holder b && any_below 16 (λ r. st.stands (active i s (user_of st i s) r) && reaches below (i # r) b)

-- 'the one with the lowest issuer number, then the lowest role number': the first of the 256 roles, issuer by issuer, that passes the test
unfoldable pub lowest_role : (Role → Bool) → Option Role
lowest_role test = elim (lowest_below 256 (λ k. test (nth_role k))) [ some k ↦ some (nth_role k) | none ↦ none ]

-- the lookup on j%p: through the attachments that stand, to 'a role that holds p'
unfoldable pub lookup : State → ℕ → ℕ → ℕ → ℕ → Option Role
lookup st j p i s = lowest_role (may_use_through st (attachments st) (holders_of st j p) i s)

-- what an accepted call from c looks up: a role only for kind 21
abbrev pub found : State → ℕ → Effect → Option Role
found st c (puts l) = none
found st c (cuts f) = none
found st c (decides p i s) = lookup st c p i s

abbrev pub change : Effect → State → State
change (puts l) st = put l st
change (cuts f) st = settle (cut f st)
change (decides p i s) st = st

-- a refusal changes nothing
abbrev pub reply : State → ℕ → Effect → Outcome → Answer
reply st c e accepted = accepts (found st c e)
reply st c e (refused n) = refuses n

abbrev pub after : State → Effect → Outcome → State
after st e accepted = change e st
after st e (refused n) = st

-- the answer to the call k from c, and the state that it leaves
unfoldable pub answer : State → ℕ → Call → Answer
answer st c k = reply st c (rule (user_of st c) c k).effect (outcome st c k)

unfoldable pub next : State → ℕ → Call → State
next st c k = after st (rule (user_of st c) c k).effect (outcome st c k)
