-- 'When a call is turned down' as document 01 and Cards 1 and 2 have it: by refusal, with the kinds that each concerns. Proved to be what the rows of Rule try.
use Rattle.std.specs.Prelude.{◌≡◌, ◌↔◌, List, [], ◌∷◌, true, false, not, ℕ, zero, suc, ◌-◌, eqb, ltb}
use Rattle.mtas.specs.Fact.{enrolled, trusts, user, role, permission, public, holds, granted, attached, opened, active, above_15}
use Rattle.mtas.specs.Needs.{exposed}
use Rattle.mtas.specs.State.{State}
use Rattle.mtas.specs.Hierarchy.{◌#◌, Reaches}
use Rattle.mtas.specs.Law.{attachments, Authorized, Lawful}
use Rattle.mtas.specs.Call.{Call, arguments}
use Rattle.mtas.specs.Record.{kind}
use Rattle.mtas.specs.Rule.{Guard, absent, present, wrong, reached, unauthorized, applies, among_numbers}

-- the letters of 'The call record': what an argument names
pub data Letter : Type 0 where
  issuer user-number role-number junior permission-number session-number : Letter

-- its third column, for kinds 1 to 21: i and j are issuers; then Card 1's two kinds
abbrev columns : List (List Letter)
columns =
    (issuer ∷ []) ∷ (issuer ∷ [])
    ∷ (issuer ∷ []) ∷ (issuer ∷ [])
    ∷ (user-number ∷ []) ∷ (user-number ∷ [])
    ∷ (role-number ∷ []) ∷ (role-number ∷ [])
    ∷ (permission-number ∷ []) ∷ (permission-number ∷ [])
    ∷ (user-number ∷ role-number ∷ []) ∷ (user-number ∷ role-number ∷ [])
    ∷ (permission-number ∷ issuer ∷ role-number ∷ []) ∷ (permission-number ∷ issuer ∷ role-number ∷ [])
    ∷ (junior ∷ issuer ∷ role-number ∷ []) ∷ (junior ∷ issuer ∷ role-number ∷ [])
    ∷ (session-number ∷ user-number ∷ []) ∷ (session-number ∷ [])
    ∷ (session-number ∷ role-number ∷ []) ∷ (session-number ∷ role-number ∷ [])
    ∷ (permission-number ∷ issuer ∷ session-number ∷ [])
    ∷ (role-number ∷ []) ∷ (role-number ∷ []) ∷ []

abbrev letter_number : Letter → ℕ
letter_number issuer = 0
letter_number user-number = 1
letter_number role-number = 2
letter_number junior = 3
letter_number permission-number = 4
letter_number session-number = 5

abbrev column : List (List Letter) → ℕ → List Letter
column [] n = []
column (c ∷ l) zero = c
column (c ∷ l) (suc n) = column l n

-- the argument that stands under a letter
abbrev under : Letter → List Letter → List ℕ → ℕ
under x [] l = 0
under x (y ∷ m) [] = 0
under x (y ∷ m) (n ∷ l) = elim (eqb (letter_number x) (letter_number y)) [ true ↦ n | false ↦ under x m l ]

abbrev the : Letter → Call → ℕ
the x k = under x (column columns (kind k - 1)) (arguments k)

-- a cause of refusal, with the kinds that it concerns
pub record Cause : Type 0 where
  pub kinds : List ℕ
  pub tries : Guard

abbrev of : List ℕ → Guard → Cause
of l g = record { kinds = l; tries = g }

-- kinds m, m + 1, .., n kinds of them
abbrev run : ℕ → ℕ → List ℕ
run m zero = []
run m (suc n) = m ∷ run (suc m) n

-- the table, from refusal 4 on: of a call k from c, where the session c/s is open for c@(u-of s), or closed
abbrev pub table : (ℕ → ℕ) → ℕ → Call → List Cause
table u-of c k =
    let i = the issuer k in
    let u = the user-number k in
    let r = the role-number k in
    let q = the junior k in
    let p = the permission-number k in
    let s = the session-number k in
    of (1 ∷ 2 ∷ []) (wrong 4 (not (eqb c 16))) ∷ of (run 3 21) (wrong 4 (not (ltb c 16)))
    ∷ of (run 3 21) (absent 5 (enrolled c))
    ∷ of (run 1 23) (wrong 6 (above_15 (arguments k)))
    ∷ of (1 ∷ []) (present 7 (enrolled i)) ∷ of (2 ∷ 3 ∷ 4 ∷ run 13 4) (absent 7 (enrolled i))
    ∷ of (3 ∷ 4 ∷ []) (wrong 8 (eqb c i))
    ∷ of (run 13 4) (absent 9 (trusts i c))
    ∷ of (6 ∷ 11 ∷ 12 ∷ 17 ∷ []) (absent 10 (user c u))
    ∷ of (10 ∷ 13 ∷ 14 ∷ 21 ∷ []) (absent 10 (permission c p))
    ∷ of (15 ∷ 16 ∷ []) (absent 10 (role c q)) ∷ of (run 13 4) (absent 10 (role i r))
    ∷ of (8 ∷ 11 ∷ 12 ∷ 19 ∷ 20 ∷ 22 ∷ 23 ∷ []) (absent 10 (role c r))
    ∷ of (18 ∷ 19 ∷ 20 ∷ []) (absent 10 (opened c s (u-of s)))
    ∷ of (run 13 4) (absent 14 (exposed c i r))
    ∷ of (19 ∷ []) (unauthorized 11 c (u-of s) r)
    ∷ of (3 ∷ []) (present 12 (trusts c i)) ∷ of (4 ∷ []) (absent 12 (trusts c i))
    ∷ of (5 ∷ []) (present 12 (user c u))
    ∷ of (7 ∷ []) (present 12 (role c r))
    ∷ of (9 ∷ []) (present 12 (permission c p))
    ∷ of (11 ∷ []) (present 12 (holds c u r)) ∷ of (12 ∷ []) (absent 12 (holds c u r))
    ∷ of (13 ∷ []) (present 12 (granted c p i r)) ∷ of (14 ∷ []) (absent 12 (granted c p i r))
    ∷ of (15 ∷ []) (present 12 (attached c q i r)) ∷ of (16 ∷ []) (absent 12 (attached c q i r))
    ∷ of (17 ∷ []) (present 12 (opened c s (u-of s)))
    ∷ of (19 ∷ []) (present 12 (active c s (u-of s) r)) ∷ of (20 ∷ []) (absent 12 (active c s (u-of s) r))
    ∷ of (22 ∷ []) (present 12 (public c r)) ∷ of (23 ∷ []) (absent 12 (public c r))
    ∷ of (15 ∷ []) (reached 13 (c # q) (i # r))
    ∷ []

-- the causes that concern a kind
abbrev pub concerning : ℕ → List Cause → List Guard
concerning n [] = []
concerning n (x ∷ l) = elim (among_numbers n x.kinds) [ true ↦ x.tries ∷ concerning n l | false ↦ concerning n l ]

-- what a cause of refusal says, without a test
abbrev pub Applies : State → Guard → Type 0
Applies st (absent n f) = st.stands f ≡ false
Applies st (present n f) = st.stands f ≡ true
Applies st (wrong n b) = b ≡ true
Applies st (reached n a b) = Reaches (attachments st) a b
Applies st (unauthorized n i u r) = Authorized st (attachments st) i u r → ⊥

-- on lawful states the tests say so: a refusal is given where its cause applies, 'and never otherwise'
abbrev pub AsCaused : Type 0
AsCaused = (st : State) → Lawful st → (g : Guard) → (applies st g ≡ true) ↔ Applies st g
