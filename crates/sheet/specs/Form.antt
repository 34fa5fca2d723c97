-- The form of a sheet's rows (Card 5): 'a word (user, role, perm, trust, give, grant or attach) and then the matching call's arguments as decimals 0 to 15
-- without leading zeros'.
use Rattle.std.specs.Prelude.{List, [], ◌∷◌, ◌++◌, ℕ, ◌≤◌}
use Prim.Native.Char.{code}
use Prim.Native.String.{String}
use Rattle.mtas.specs.Call.{Call, AssignTrust, AddUser, AddRole, AddPerm, AssignUser, AssignPerm, AssignRH}
use Rattle.lines.specs.Decimal.{decimal}
use Rattle.sheet.specs.Rfc4180.{CR, LF, Row}

-- a text's bytes in ASCII
abbrev pub ascii : String → List ℕ
ascii String.[] = []
ascii (String.◌∷◌ c s) = code c ∷ ascii s

-- the words
abbrev pub user : List ℕ
user = ascii "user"

abbrev pub role : List ℕ
role = ascii "role"

abbrev pub perm : List ℕ
perm = ascii "perm"

abbrev pub trust : List ℕ
trust = ascii "trust"

abbrev pub give : List ℕ
give = ascii "give"

abbrev pub grant : List ℕ
grant = ascii "grant"

abbrev pub attach : List ℕ
attach = ascii "attach"

-- the texts of a row's fields, and its call
pub data Form : List (List ℕ) → Call → Type 0 where
  a_user : {u : ℕ} → u ≤ 15 → Form (user ∷ decimal u ∷ []) (AddUser u)
  a_role : {r : ℕ} → r ≤ 15 → Form (role ∷ decimal r ∷ []) (AddRole r)
  a_permission : {p : ℕ} → p ≤ 15 → Form (perm ∷ decimal p ∷ []) (AddPerm p)
  a_trust : {j : ℕ} → j ≤ 15 → Form (trust ∷ decimal j ∷ []) (AssignTrust j)
  a_giving : {u r : ℕ} → u ≤ 15 → r ≤ 15 → Form (give ∷ decimal u ∷ decimal r ∷ []) (AssignUser u r)
  a_grant : {p i r : ℕ} → p ≤ 15 → i ≤ 15 → r ≤ 15 → Form (grant ∷ decimal p ∷ decimal i ∷ decimal r ∷ []) (AssignPerm p i r)
  an_attachment : {q i r : ℕ} → q ≤ 15 → i ≤ 15 → r ≤ 15 → Form (attach ∷ decimal q ∷ decimal i ∷ decimal r ∷ []) (AssignRH q i r)

-- the bytes of a row of this form, and its call
pub data Says (b : List ℕ) (k : Call) : Type 0 where
  says : {ts : List (List ℕ)} → Row b ts → Form ts k → Says b k

-- RFC 4180's file without a header, record *(CRLF record) [CRLF], whose rows are of this form; 'an empty file gives no records'
pub data Sheet : List ℕ → List Call → Type 0 where
  no_more : Sheet [] []
  last_row : {b : List ℕ} {k : Call} → Says b k → Sheet b (k ∷ [])
  one_more : {b csv : List ℕ} {k : Call} {ks : List Call} → Says b k → Sheet csv ks → Sheet (b ++ (CR ∷ LF ∷ csv)) (k ∷ ks)
