-- The table of the calls: whose each is, its causes of refusal in order, and its effect (document 01, 'The call record', 'When a call is turned down'; Cards 1 and 2).
use Rattle.std.specs.Prelude.{List, [], ◌∷◌, ◌++◌, Bool, true, false, not, ◌&&◌, ℕ, eqb, ltb}
use Rattle.mtas.specs.Fact.{Fact, enrolled, trusts, user, role, permission, public, holds, granted, attached, opened, active, above_15}
use Rattle.mtas.specs.Needs.{enrolment, exposed}
use Rattle.mtas.specs.State.{State}
use Rattle.mtas.specs.Hierarchy.{Role, ◌#◌, reaches}
use Rattle.mtas.specs.Law.{attachments}
use Rattle.mtas.specs.Settle.{authorized}
use Rattle.mtas.specs.Call.{Call, AddIssuer, RemoveIssuer, AssignTrust, RevokeTrust, AddUser, RemoveUser, AddRole, RemoveRole, AddPerm, RemovePerm, AssignUser, RevokeUser, AssignPerm, RevokePerm, AssignRH, RevokeRH, CreateSession, DeleteSession, AddActiveRole, DropActiveRole, CheckAccess, PublishRole, UnpublishRole, arguments}

-- a cause of refusal, with its number
pub data Guard : Type 0 where
  absent present : ℕ → Fact → Guard  -- the fact doesn't stand, stands
  wrong : ℕ → Bool → Guard  -- a test on the call's own numbers
  reached : ℕ → Role → Role → Guard  -- the first role reaches the second
  unauthorized : ℕ → ℕ → ℕ → ℕ → Guard  -- i u r: no role that i@u holds reaches i#r

-- what an accepted call does
pub data Effect : Type 0 where
  puts : List Fact → Effect
  cuts : Fact → Effect  -- with all that needs it, and the active roles that no held role reaches any more
  decides : ℕ → ℕ → ℕ → Effect  -- p, i, s: changes nothing, and gives the verdict

-- whose call it is
pub data Whose : Type 0 where
  operator's issuer's : Whose

pub record Rule : Type 0 where
  pub whose : Whose
  pub causes : List Guard  -- the row's own, in order
  pub effect : Effect

abbrev row : Whose → List Guard → Effect → Rule
row w l e = record { whose = w; causes = l; effect = e }

-- what kinds 13 to 16 from c try first, which link or unlink a thing of the caller's own and i#r
abbrev pub link_causes : ℕ → ℕ → ℕ → Fact → List Guard → List Guard
link_causes c i r own l = absent 7 (enrolled i) ∷ absent 9 (trusts i c) ∷ absent 10 own ∷ absent 10 (role i r) ∷ absent 14 (exposed c i r) ∷ l

-- the row of a call from c; the session c/s is open for c@(u-of s), or closed
abbrev pub rule : (ℕ → ℕ) → ℕ → Call → Rule
rule u-of c (AddIssuer i) = row operator's (present 7 (enrolled i) ∷ []) (puts (enrolment i))
rule u-of c (RemoveIssuer i) = row operator's (absent 7 (enrolled i) ∷ []) (cuts (enrolled i))
rule u-of c (AssignTrust j) = row issuer's (absent 7 (enrolled j) ∷ wrong 8 (eqb c j) ∷ present 12 (trusts c j) ∷ []) (puts (trusts c j ∷ []))
rule u-of c (RevokeTrust j) = row issuer's (absent 7 (enrolled j) ∷ wrong 8 (eqb c j) ∷ absent 12 (trusts c j) ∷ []) (cuts (trusts c j))
rule u-of c (AddUser u) = row issuer's (present 12 (user c u) ∷ []) (puts (user c u ∷ []))
rule u-of c (RemoveUser u) = row issuer's (absent 10 (user c u) ∷ []) (cuts (user c u))
rule u-of c (AddRole r) = row issuer's (present 12 (role c r) ∷ []) (puts (role c r ∷ []))
rule u-of c (RemoveRole r) = row issuer's (absent 10 (role c r) ∷ []) (cuts (role c r))
rule u-of c (AddPerm p) = row issuer's (present 12 (permission c p) ∷ []) (puts (permission c p ∷ []))
rule u-of c (RemovePerm p) = row issuer's (absent 10 (permission c p) ∷ []) (cuts (permission c p))
rule u-of c (AssignUser u r) = row issuer's (absent 10 (user c u) ∷ absent 10 (role c r) ∷ present 12 (holds c u r) ∷ []) (puts (holds c u r ∷ []))
rule u-of c (RevokeUser u r) = row issuer's (absent 10 (user c u) ∷ absent 10 (role c r) ∷ absent 12 (holds c u r) ∷ []) (cuts (holds c u r))
rule u-of c (AssignPerm p i r) = row issuer's (link_causes c i r (permission c p) (present 12 (granted c p i r) ∷ [])) (puts (granted c p i r ∷ []))
rule u-of c (RevokePerm p i r) = row issuer's (link_causes c i r (permission c p) (absent 12 (granted c p i r) ∷ [])) (cuts (granted c p i r))
rule u-of c (AssignRH q i r) = row issuer's (link_causes c i r (role c q) (present 12 (attached c q i r) ∷ reached 13 (c # q) (i # r) ∷ [])) (puts (attached c q i r ∷ []))
rule u-of c (RevokeRH q i r) = row issuer's (link_causes c i r (role c q) (absent 12 (attached c q i r) ∷ [])) (cuts (attached c q i r))
rule u-of c (CreateSession s u) = row issuer's (absent 10 (user c u) ∷ present 12 (opened c s (u-of s)) ∷ []) (puts (opened c s u ∷ []))
rule u-of c (DeleteSession s) = row issuer's (absent 10 (opened c s (u-of s)) ∷ []) (cuts (opened c s (u-of s)))
rule u-of c (AddActiveRole s r) = row issuer's (absent 10 (role c r) ∷ absent 10 (opened c s (u-of s)) ∷ unauthorized 11 c (u-of s) r ∷ present 12 (active c s (u-of s) r) ∷ []) (puts (active c s (u-of s) r ∷ []))
rule u-of c (DropActiveRole s r) = row issuer's (absent 10 (role c r) ∷ absent 10 (opened c s (u-of s)) ∷ absent 12 (active c s (u-of s) r) ∷ []) (cuts (active c s (u-of s) r))
rule u-of c (CheckAccess p i s) = row issuer's (absent 10 (permission c p) ∷ []) (decides p i s)
rule u-of c (PublishRole r) = row issuer's (absent 10 (role c r) ∷ present 12 (public c r) ∷ []) (puts (public c r ∷ []))
rule u-of c (UnpublishRole r) = row issuer's (absent 10 (role c r) ∷ absent 12 (public c r) ∷ []) (cuts (public c r))

-- 'caller above 16; kinds 1, 2 not from 16; other kinds from 16'
abbrev pub may_call : Whose → ℕ → Bool
may_call operator's c = eqb c 16
may_call issuer's c = ltb c 16

-- 'calling issuer not enrolled'; the operator is no issuer
abbrev pub must_be_enrolled : Whose → ℕ → List Guard
must_be_enrolled operator's c = []
must_be_enrolled issuer's c = absent 5 (enrolled c) ∷ []

-- what every row begins with, for a caller and its arguments
abbrev pub front : Whose → ℕ → List ℕ → List Guard
front w c l = wrong 4 (not (may_call w c)) ∷ must_be_enrolled w c ++ (wrong 6 (above_15 l) ∷ [])

-- all that is tried of a call from c
abbrev pub guards : (ℕ → ℕ) → ℕ → Call → List Guard
guards u-of c k = front (rule u-of c k).whose c (arguments k) ++ (rule u-of c k).causes

abbrev pub cause : Guard → ℕ
cause (absent n f) = n
cause (present n f) = n
cause (wrong n b) = n
cause (reached n a b) = n
cause (unauthorized n i u r) = n

abbrev pub applies : State → Guard → Bool
applies st (absent n f) = not (st.stands f)
applies st (present n f) = st.stands f
applies st (wrong n b) = b
applies st (reached n a b) = reaches (attachments st) a b
applies st (unauthorized n i u r) = not (authorized st (attachments st) i u r)

-- the refusals, in the order in which they are tried; 14 is tried 'directly after 10'
abbrev pub refusals : List ℕ
refusals = 1 ∷ 2 ∷ 3 ∷ 4 ∷ 5 ∷ 6 ∷ 7 ∷ 8 ∷ 9 ∷ 10 ∷ 14 ∷ 11 ∷ 12 ∷ 13 ∷ []

abbrev pub among_numbers : ℕ → List ℕ → Bool
among_numbers n [] = false
among_numbers n (m ∷ l) = elim (eqb n m) [ true ↦ true | false ↦ among_numbers n l ]

-- no number comes twice
abbrev pub each_once : List ℕ → Bool
each_once [] = true
each_once (n ∷ l) = not (among_numbers n l) && each_once l

-- the list from its first n on
abbrev pub from_first : ℕ → List ℕ → List ℕ
from_first n [] = []
from_first n (m ∷ l) = elim (eqb n m) [ true ↦ m ∷ l | false ↦ from_first n l ]

-- the guards are tried in the order of the list
abbrev pub in_order : List ℕ → List Guard → Bool
in_order l [] = true
in_order l (g ∷ m) = among_numbers (cause g) l && in_order (from_first (cause g) l) m
