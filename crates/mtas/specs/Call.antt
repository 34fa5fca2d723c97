-- The twenty-three calls and their arguments (document 01, 'The call record'; the last two are Card 1's), named as in AMTAS's Table I, the sessions' as in the NIST RBAC standard.
use Rattle.std.specs.Prelude.{List, [], ◌∷◌, ℕ}

pub data Call : Type 0 where
  AddIssuer RemoveIssuer : ℕ → Call  -- i: the operator enrols, strikes an issuer
  AssignTrust RevokeTrust : ℕ → Call  -- j: give, withdraw trust
  AddUser RemoveUser : ℕ → Call  -- u
  AddRole RemoveRole : ℕ → Call  -- r
  AddPerm RemovePerm : ℕ → Call  -- p
  AssignUser RevokeUser : ℕ → ℕ → Call  -- u, r: give, take a role
  AssignPerm RevokePerm : ℕ → ℕ → ℕ → Call  -- p, i, r: grant, ungrant own permission p to i#r
  AssignRH RevokeRH : ℕ → ℕ → ℕ → Call  -- q, i, r: attach, detach own role q below i#r
  CreateSession : ℕ → ℕ → Call  -- s, u: open session
  DeleteSession : ℕ → Call  -- s: close session
  AddActiveRole DropActiveRole : ℕ → ℕ → Call  -- s, r: activate, deactivate role
  CheckAccess : ℕ → ℕ → ℕ → Call  -- p, i, s: may session i/s use own permission p
  PublishRole UnpublishRole : ℕ → Call  -- r: publish, unpublish own role r

-- the arguments, as the record has them
abbrev pub arguments : Call → List ℕ
arguments (AddIssuer i) = i ∷ []
arguments (RemoveIssuer i) = i ∷ []
arguments (AssignTrust j) = j ∷ []
arguments (RevokeTrust j) = j ∷ []
arguments (AddUser u) = u ∷ []
arguments (RemoveUser u) = u ∷ []
arguments (AddRole r) = r ∷ []
arguments (RemoveRole r) = r ∷ []
arguments (AddPerm p) = p ∷ []
arguments (RemovePerm p) = p ∷ []
arguments (AssignUser u r) = u ∷ r ∷ []
arguments (RevokeUser u r) = u ∷ r ∷ []
arguments (AssignPerm p i r) = p ∷ i ∷ r ∷ []
arguments (RevokePerm p i r) = p ∷ i ∷ r ∷ []
arguments (AssignRH q i r) = q ∷ i ∷ r ∷ []
arguments (RevokeRH q i r) = q ∷ i ∷ r ∷ []
arguments (CreateSession s u) = s ∷ u ∷ []
arguments (DeleteSession s) = s ∷ []
arguments (AddActiveRole s r) = s ∷ r ∷ []
arguments (DropActiveRole s r) = s ∷ r ∷ []
arguments (CheckAccess p i s) = p ∷ i ∷ s ∷ []
arguments (PublishRole r) = r ∷ []
arguments (UnpublishRole r) = r ∷ []
