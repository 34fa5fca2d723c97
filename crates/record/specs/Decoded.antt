-- What the code's types say, in the model's terms.
use Rattle.std.specs.Prelude.{◌≡◌, true, false, List, ℕ, Option, Some, None, eqb, length, get_or}
use Rattle.mtas.specs.Call as model
use Rattle.mtas.specs.Record.{Request, request, undecodable, sign_of_life, bytes_refusal, kind_at, fill, decode}
use Rattle.record.specs.declared.Call.{Call}
use Rattle.record.specs.declared.Call.TheVariants.{AddIssuer, RemoveIssuer, AssignTrust, RevokeTrust, AddUser, RemoveUser, AddRole, RemoveRole, AddPerm, RemovePerm, AssignUser, RevokeUser, AssignPerm, RevokePerm, AssignRH, RevokeRH, CreateSession, DeleteSession, AddActiveRole, DropActiveRole, CheckAccess, PublishRole, UnpublishRole}
use Rattle.record.specs.declared.Decoded.{Decoded}
use Rattle.record.specs.declared.Decoded.TheVariants.{Request as Requested, Undecodable, SignOfLife}

-- the model's call of the same name and arguments
abbrev pub call_of : Call → model.Call
call_of (AddIssuer i) = model.AddIssuer i
call_of (RemoveIssuer i) = model.RemoveIssuer i
call_of (AssignTrust j) = model.AssignTrust j
call_of (RevokeTrust j) = model.RevokeTrust j
call_of (AddUser u) = model.AddUser u
call_of (RemoveUser u) = model.RemoveUser u
call_of (AddRole r) = model.AddRole r
call_of (RemoveRole r) = model.RemoveRole r
call_of (AddPerm p) = model.AddPerm p
call_of (RemovePerm p) = model.RemovePerm p
call_of (AssignUser u r) = model.AssignUser u r
call_of (RevokeUser u r) = model.RevokeUser u r
call_of (AssignPerm p i r) = model.AssignPerm p i r
call_of (RevokePerm p i r) = model.RevokePerm p i r
call_of (AssignRH q i r) = model.AssignRH q i r
call_of (RevokeRH q i r) = model.RevokeRH q i r
call_of (CreateSession s u) = model.CreateSession s u
call_of (DeleteSession s) = model.DeleteSession s
call_of (AddActiveRole s r) = model.AddActiveRole s r
call_of (DropActiveRole s r) = model.DropActiveRole s r
call_of (CheckAccess p i s) = model.CheckAccess p i s
call_of (PublishRole r) = model.PublishRole r
call_of (UnpublishRole r) = model.UnpublishRole r

-- a decoded record as the model has it
abbrev pub request_of : Decoded → Request
request_of (Requested r) = request r.caller (call_of r.call)
request_of Undecodable = undecodable
request_of SignOfLife = sign_of_life

-- document 01's number for it: 3 where it can't be decoded, else 0
abbrev pub refusal_of : Decoded → ℕ
refusal_of (Requested r) = 0
refusal_of Undecodable = 3
refusal_of SignOfLife = 0

-- the bytes b are decoded into d: its number, and the caller and the call
pub record Decodes (b : List ℕ) (d : Decoded) : Type 0 where
  pub same_refusal : refusal_of d ≡ bytes_refusal (decode b)
  pub same_request : request_of d ≡ decode b

-- the request of a caller with n arguments, of a kind that has so many and makes this call
abbrev pub filled : ℕ → Option (ℕ × Call) → ℕ → Request
filled c None n = undecodable
filled c (Some k) n = elim (eqb n k.0) [ true ↦ request c (call_of k.1) | false ↦ undecodable ]

-- r is the model's kind k, with any arguments l that begin with x, y and z (0 where there are fewer)
pub record Formed (k x y z : ℕ) (r : Option (ℕ × Call)) : Type 0 where
  pub fills : (c : ℕ) (l : List ℕ) → x ≡ get_or l 0 0 → y ≡ get_or l 1 0 → z ≡ get_or l 2 0 → filled c r (length l) ≡ fill c (kind_at k) l
