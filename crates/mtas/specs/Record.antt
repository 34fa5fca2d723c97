-- The call record (document 01): length 2 bytes, kind 2 bytes, both little-endian, caller 1 byte, then the arguments, 1 byte each.
use Rattle.std.specs.Prelude.{List, [], ◌∷◌, ◌++◌, Bool, true, false, ◌&&◌, ◌||◌, ℕ, zero, suc, ◌+◌, ◌*◌, ◌/◌, ◌%◌, eqb, ltb, leb, length, get_or, drop}
use Rattle.mtas.specs.Call.{Call, AddIssuer, RemoveIssuer, AssignTrust, RevokeTrust, AddUser, RemoveUser, AddRole, RemoveRole, AddPerm, RemovePerm, AssignUser, RevokeUser, AssignPerm, RevokePerm, AssignRH, RevokeRH, CreateSession, DeleteSession, AddActiveRole, DropActiveRole, CheckAccess, PublishRole, UnpublishRole, arguments}

-- a kind: how many arguments it has, and its call with them
pub record Form : Type 0 where
  pub count : ℕ
  pub call : (ℕ → ℕ) → Call

abbrev one : (ℕ → Call) → Form
one f = record { count = 1; call = λ x. f (x 0) }

abbrev two : (ℕ → ℕ → Call) → Form
two f = record { count = 2; call = λ x. f (x 0) (x 1) }

abbrev three : (ℕ → ℕ → ℕ → Call) → Form
three f = record { count = 3; call = λ x. f (x 0) (x 1) (x 2) }

-- the forms of kinds 1 to 23
abbrev pub forms : List Form
forms =
    one AddIssuer ∷ one RemoveIssuer
    ∷ one AssignTrust ∷ one RevokeTrust
    ∷ one AddUser ∷ one RemoveUser
    ∷ one AddRole ∷ one RemoveRole
    ∷ one AddPerm ∷ one RemovePerm
    ∷ two AssignUser ∷ two RevokeUser
    ∷ three AssignPerm ∷ three RevokePerm
    ∷ three AssignRH ∷ three RevokeRH
    ∷ two CreateSession ∷ one DeleteSession
    ∷ two AddActiveRole ∷ two DropActiveRole
    ∷ three CheckAccess
    ∷ one PublishRole ∷ one UnpublishRole ∷ []

pub data Kind : Type 0 where
  unknown : Kind
  known : Form → Kind

abbrev pub nth_kind : List Form → ℕ → Kind
nth_kind [] k = unknown
nth_kind (f ∷ l) zero = known f
nth_kind (f ∷ l) (suc k) = nth_kind l k

abbrev pub kind_at : ℕ → Kind
kind_at zero = unknown
kind_at (suc k) = nth_kind forms k

-- a record as the monitor takes it: a press with nothing to report (Card 4), refusal 3's row, or a caller and a call
pub data Request : Type 0 where
  sign_of_life : Request
  undecodable : Request
  request : ℕ → Call → Request

-- the refusal that its bytes alone give it, 0 for none
abbrev pub bytes_refusal : Request → ℕ
bytes_refusal sign_of_life = 0
bytes_refusal undecodable = 3
bytes_refusal (request c k) = 0

-- exactly the arguments of the kind
abbrev pub fill : ℕ → Kind → List ℕ → Request
fill c unknown l = undecodable
fill c (known f) l = elim (eqb (length l) f.count) [ true ↦ request c (f.call (λ n. get_or l n 0)) | false ↦ undecodable ]

-- the bytes before the arguments: length, kind and caller
abbrev pub header : ℕ
header = 5

abbrev pub two_bytes : List ℕ → ℕ → ℕ
two_bytes b k = get_or b k 0 + 256 * get_or b (suc k) 0

abbrev pub kind_of : List ℕ → ℕ
kind_of b = two_bytes b 2

abbrev pub caller_of : List ℕ → ℕ
caller_of b = get_or b 4 0

-- refusal 3's row, '1 to 4 bytes' (Card 4), 'length field wrong, kind unknown, or length wrong for the kind': undecodable.
-- It is said of lists of any numbers; those above 255, which no record has, are read like the others.
abbrev pub decode_bytes : List ℕ → Request
decode_bytes b = elim (leb header (length b) && eqb (two_bytes b 0) (length b)) [ true ↦ fill (caller_of b) (kind_at (kind_of b)) (drop header b) | false ↦ undecodable ]

-- 'a record of zero bytes' is the sign of life
unfoldable pub decode : List ℕ → Request
decode [] = sign_of_life
decode (x ∷ l) = decode_bytes (x ∷ l)

-- the kind of a call
abbrev pub kind : Call → ℕ
kind (AddIssuer i) = 1
kind (RemoveIssuer i) = 2
kind (AssignTrust j) = 3
kind (RevokeTrust j) = 4
kind (AddUser u) = 5
kind (RemoveUser u) = 6
kind (AddRole r) = 7
kind (RemoveRole r) = 8
kind (AddPerm p) = 9
kind (RemovePerm p) = 10
kind (AssignUser u r) = 11
kind (RevokeUser u r) = 12
kind (AssignPerm p i r) = 13
kind (RevokePerm p i r) = 14
kind (AssignRH q i r) = 15
kind (RevokeRH q i r) = 16
kind (CreateSession s u) = 17
kind (DeleteSession s) = 18
kind (AddActiveRole s r) = 19
kind (DropActiveRole s r) = 20
kind (CheckAccess p i s) = 21
kind (PublishRole r) = 22
kind (UnpublishRole r) = 23

-- two bytes, little-endian
abbrev as_two_bytes : ℕ → List ℕ
as_two_bytes n = n % 256 ∷ n / 256 ∷ []

-- the record of a kind, a caller and arguments, whether there is such a kind or not
abbrev pub record_of : ℕ → ℕ → List ℕ → List ℕ
record_of k c args = as_two_bytes (header + length args) ++ as_two_bytes k ++ (c ∷ args)

-- the record of a call: decode the other way
unfoldable pub encode_call : ℕ → Call → List ℕ
encode_call c k = record_of (kind k) c (arguments k)

-- 'A member is an issuer in the set, every other issuer an outsider'; the operator, caller 16, is neither, and its records remain
abbrev pub inside : (ℕ → Bool) → ℕ → Bool
inside member c = eqb c 16 || (ltb c 16 && member c)

-- whether a record is the operator's or a member's; 'a record that can't be decoded, the empty one too, or names a caller above 16 counts as an outsider's'
abbrev pub remains : (ℕ → Bool) → Request → Bool
remains member sign_of_life = false
remains member undecodable = false
remains member (request c k) = inside member c
