-- What the row of a call tries is what document 01's table of refusals has for its kind, cause by cause; so it is tried in the table's order.
use mathlib.Core.Path.{◌≡◌, refl, sym, subst}
use mathlib.Core.List.{List, [], ◌∷◌}
use mathlib.Core.Bool.{Bool, true, false}
use Prim.Native.Nat.{ℕ}
use lib.Dec.{eqb}
use lib.ListN.{drop}
use Rattle.bits.proofs.Booleans.{and_left, and_right, and_intro}
use Rattle.mtas.specs.Call.{Call, AddIssuer, RemoveIssuer, AssignTrust, RevokeTrust, AddUser, RemoveUser, AddRole, RemoveRole, AddPerm, RemovePerm, AssignUser, RevokeUser, AssignPerm, RevokePerm, AssignRH, RevokeRH, CreateSession, DeleteSession, AddActiveRole, DropActiveRole, CheckAccess, PublishRole, UnpublishRole}
use Rattle.mtas.specs.Record.{kind}
use Rattle.mtas.specs.Rule.{Guard, guards, cause, refusals, from_first, among_numbers, each_once, in_order}
use Rattle.mtas.specs.Refusals.{Cause, table, concerning}

pub as_the-table : (u-of : ℕ → ℕ) (c : ℕ) (k : Call) → guards u-of c k ≡ concerning (kind k) (table u-of c k)
as_the-table u-of c (AddIssuer i) = refl
as_the-table u-of c (RemoveIssuer i) = refl
as_the-table u-of c (AssignTrust j) = refl
as_the-table u-of c (RevokeTrust j) = refl
as_the-table u-of c (AddUser u) = refl
as_the-table u-of c (RemoveUser u) = refl
as_the-table u-of c (AddRole r) = refl
as_the-table u-of c (RemoveRole r) = refl
as_the-table u-of c (AddPerm p) = refl
as_the-table u-of c (RemovePerm p) = refl
as_the-table u-of c (AssignUser u r) = refl
as_the-table u-of c (RevokeUser u r) = refl
as_the-table u-of c (AssignPerm p i r) = refl
as_the-table u-of c (RevokePerm p i r) = refl
as_the-table u-of c (AssignRH q i r) = refl
as_the-table u-of c (RevokeRH q i r) = refl
as_the-table u-of c (CreateSession s u) = refl
as_the-table u-of c (DeleteSession s) = refl
as_the-table u-of c (AddActiveRole s r) = refl
as_the-table u-of c (DropActiveRole s r) = refl
as_the-table u-of c (CheckAccess p i s) = refl
as_the-table u-of c (PublishRole r) = refl
as_the-table u-of c (UnpublishRole r) = refl

-- ---- the order

-- l is the rest of a list, from some place on
pub data Rest (l : List ℕ) : List ℕ → Type 0 where
  whole : Rest l l
  later : (n : ℕ) (m : List ℕ) → Rest l m → Rest l (n ∷ m)

rest-of-rest : {a b c : List ℕ} → Rest a b → Rest b c → Rest a c
rest-of-rest p whole = p
rest-of-rest p (later n m q) = later n m (rest-of-rest p q)

pub first_rest : (n : ℕ) (l : List ℕ) → Rest (from_first n l) l
first_rest n [] = whole
first_rest n (m ∷ l) = go (eqb n m) refl (first_rest n l)
  where
    go : (b : Bool) → eqb n m ≡ b → Rest (from_first n l) l → Rest (from_first n (m ∷ l)) (m ∷ l)
    go true e r = rw (e, from_first) whole
    go false e r = rw (e, from_first) (later m l r)

pub still_among : {l m : List ℕ} (n : ℕ) → Rest l m → among_numbers n l ≡ true → among_numbers n m ≡ true
still_among n whole h = h
still_among n (later x m r) h = go (eqb n x) refl (still_among n r h)
  where
    go : (b : Bool) → eqb n x ≡ b → among_numbers n m ≡ true → among_numbers n (x ∷ m) ≡ true
    go true e rec = rw (e, among_numbers)
    go false e rec = rw (e, among_numbers) rec

-- what comes first in the rest comes there or before in the list
rest_from : {l m : List ℕ} (n : ℕ) → Rest l m → Rest (from_first n l) (from_first n m)
rest_from n whole = whole
rest_from {l} n (later x m r) = go (eqb n x) refl (rest_from n r)
  where
    go : (b : Bool) → eqb n x ≡ b → Rest (from_first n l) (from_first n m) → Rest (from_first n l) (from_first n (x ∷ m))
    go true e rec = rw (e, from_first) (later x m (rest-of-rest (first_rest n l) r))
    go false e rec = rw (e, from_first) rec

still_in_order : {l m : List ℕ} (gs : List Guard) → Rest l m → in_order l gs ≡ true → in_order m gs ≡ true
still_in_order [] r h = h
still_in_order {l} {m} (g ∷ gs) r h =
    and_intro (among_numbers (cause g) m) (in_order (from_first (cause g) m) gs)
    (still_among (cause g) r (and_left (among_numbers (cause g) l) (in_order (from_first (cause g) l) gs) h))
    (still_in_order {l = from_first (cause g) l} {m = from_first (cause g) m} gs (rest_from (cause g) r) (and_right (among_numbers (cause g) l) (in_order (from_first (cause g) l) gs) h))

abbrev all_causes : List Cause → List Guard
all_causes [] = []
all_causes (x ∷ t) = x.tries ∷ all_causes t

-- causes that are left out leave the others in order
some-in_order : (n : ℕ) (t : List Cause) (l : List ℕ) → in_order l (all_causes t) ≡ true → in_order l (concerning n t) ≡ true
some-in_order n [] l h = h
some-in_order n (x ∷ t) l h = go (among_numbers n x.kinds) refl (some-in_order n t rest (and_right (among_numbers first l) (in_order rest (all_causes t)) h))
  where
    first : ℕ
    first = cause x.tries

    rest : List ℕ
    rest = from_first first l

    go : (b : Bool) → among_numbers n x.kinds ≡ b → in_order rest (concerning n t) ≡ true → in_order l (concerning n (x ∷ t)) ≡ true
    go true e r = rw (e, concerning) (and_intro (among_numbers first l) (in_order rest (concerning n t)) (and_left (among_numbers first l) (in_order rest (all_causes t)) h) r)
    go false e r = rw (e, concerning) (still_in_order (concerning n t) (first_rest first l) r)

-- the list has each of its numbers once, so that it says which comes first
pub refusals_once : each_once refusals ≡ true
refusals_once = refl

-- 'Tried from 1 upwards', by the list and not by the numbers: every row keeps the order of those from 4 on
pub tried_in_order : (u-of : ℕ → ℕ) (c : ℕ) (k : Call) → in_order (drop 3 refusals) (guards u-of c k) ≡ true
tried_in_order u-of c k = subst (λ l. in_order (drop 3 refusals) l ≡ true) (sym (as_the-table u-of c k)) (some-in_order (kind k) (table u-of c k) (drop 3 refusals) refl)
