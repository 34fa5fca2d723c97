-- Decoding the record of a call gives the caller and the call back, and nothing but such a record gives a call; only the empty record is the sign of life.
use mathlib.Core.Path.{◌≡◌, refl, ap, sym, subst, ◌∙◌}
use mathlib.Core.Bool.{Bool, true, false, ◌&&◌}
use mathlib.Core.List.{List, [], ◌∷◌}
use Prim.Native.Nat.{ℕ, zero, suc, ◌+◌, ◌/◌, ◌%◌, ◌<◌, ◌≤◌}
use native.Mathlib.Omega.{arith}
use lib.Dec.{eqb, ltb, leb}
use lib.ListN.{length, get_or, drop}
use borrow.Author.Tests.{eqb-true, ltb-true, leb-true, lt-leb}
use Rattle.bits.specs.Below.{tabulate}
use Rattle.bits.proofs.Booleans.{and_both}
use Rattle.mtas.specs.Call.{Call, AddIssuer, RemoveIssuer, AssignTrust, RevokeTrust, AddUser, RemoveUser, AddRole, RemoveRole, AddPerm, RemovePerm, AssignUser, RevokeUser, AssignPerm, RevokePerm, AssignRH, RevokeRH, CreateSession, DeleteSession, AddActiveRole, DropActiveRole, CheckAccess, PublishRole, UnpublishRole, arguments}
use Rattle.mtas.specs.Record.{Form, forms, Kind, unknown, known, nth_kind, kind_at, sign_of_life, undecodable, request, fill, header, two_bytes, kind_of, caller_of, decode_bytes, decode, kind, encode_call}
use Rattle.mtas.proofs.Step.{differ}

pub decode_encoded : (c : ℕ) (k : Call) → decode (encode_call c k) ≡ request c k
unfolding decode encode_call
decode_encoded c (AddIssuer x) = refl
decode_encoded c (RemoveIssuer x) = refl
decode_encoded c (AssignTrust x) = refl
decode_encoded c (RevokeTrust x) = refl
decode_encoded c (AddUser x) = refl
decode_encoded c (RemoveUser x) = refl
decode_encoded c (AddRole x) = refl
decode_encoded c (RemoveRole x) = refl
decode_encoded c (AddPerm x) = refl
decode_encoded c (RemovePerm x) = refl
decode_encoded c (AssignUser x y) = refl
decode_encoded c (RevokeUser x y) = refl
decode_encoded c (AssignPerm x y z) = refl
decode_encoded c (RevokePerm x y z) = refl
decode_encoded c (AssignRH x y z) = refl
decode_encoded c (RevokeRH x y z) = refl
decode_encoded c (CreateSession x y) = refl
decode_encoded c (DeleteSession x) = refl
decode_encoded c (AddActiveRole x y) = refl
decode_encoded c (DropActiveRole x y) = refl
decode_encoded c (CheckAccess x y z) = refl
decode_encoded c (PublishRole x) = refl
decode_encoded c (UnpublishRole x) = refl

-- ---- the empty record, and those of '1 to 4 bytes'

-- one byte or more is read by `decode_bytes`
pub decode_is : (b : List ℕ) → 0 < length b → decode b ≡ decode_bytes b
unfolding decode
decode_is [] n = absurd (omega arith)
decode_is (x ∷ l) n = refl

pub short : (b : List ℕ) → 0 < length b → length b < header → decode b ≡ undecodable
short b n m = decode_is b n ∙ rw (lt-leb header (length b) m, decode_bytes)

-- one byte or more is no sign of life
no_sign : (b : List ℕ) → decode_bytes b ≡ sign_of_life → ⊥
no_sign b e = go (leb header (length b) && eqb (two_bytes b 0) (length b)) refl
  where
    counted : (f : Form) (x : Bool) → elim x [ true ↦ request (caller_of b) (f.call (λ n. get_or (drop header b) n 0)) | false ↦ undecodable ] ≡ sign_of_life → ⊥
    counted f true h = differ (cc)
    counted f false h = differ (cc)

    of_kind : (k : Kind) → fill (caller_of b) k (drop header b) ≡ sign_of_life → ⊥
    of_kind unknown h = differ (cc)
    of_kind (known f) h = counted f (eqb (length (drop header b)) f.count) h

    go : (x : Bool) → leb header (length b) && eqb (two_bytes b 0) (length b) ≡ x → ⊥
    go true t = of_kind (kind_at (kind_of b)) (rw (t, decode_bytes) at e)
    go false t = let h = rw (t, decode_bytes) at e in differ (cc)

pub only-empty : (b : List ℕ) → decode b ≡ sign_of_life → b ≡ []
unfolding decode
only-empty [] e = refl
only-empty (x ∷ l) e = absurd (no_sign (x ∷ l) e)

-- ---- the calls of a form have its kind and as many arguments as it counts, few enough for a length of one byte
abbrev Fits : ℕ → Form → Type 0
Fits k f = (ltb f.count 251 ≡ true) × ((x : ℕ → ℕ) → (kind (f.call x) ≡ k) × (arguments (f.call x) ≡ tabulate f.count x))

abbrev AllFit : ℕ → List Form → Type 0
AllFit k [] = Unit
AllFit k (f ∷ l) = Fits k f × AllFit (suc k) l

forms-fit : AllFit 1 forms
unfolding tabulate
forms-fit = ((refl, λ x. (refl, refl)), ((refl, λ x. (refl, refl)), ((refl, λ x. (refl, refl)), ((refl, λ x. (refl, refl)), ((refl, λ x. (refl, refl)), ((refl, λ x. (refl, refl)), ((refl, λ x. (refl, refl)), ((refl, λ x. (refl, refl)), ((refl, λ x. (refl, refl)), ((refl, λ x. (refl, refl)), ((refl, λ x. (refl, refl)), ((refl, λ x. (refl, refl)), ((refl, λ x. (refl, refl)), ((refl, λ x. (refl, refl)), ((refl, λ x. (refl, refl)), ((refl, λ x. (refl, refl)), ((refl, λ x. (refl, refl)), ((refl, λ x. (refl, refl)), ((refl, λ x. (refl, refl)), ((refl, λ x. (refl, refl)), ((refl, λ x. (refl, refl)), ((refl, λ x. (refl, refl)), ((refl, λ x. (refl, refl)), tt)))))))))))))))))))))))

fits-at : (l : List Form) (k n : ℕ) → AllFit k l → (f : Form) → nth_kind l n ≡ known f → Fits (n + k) f × (n < length l)
fits-at [] k n a f e = absurd (differ (cc))
fits-at (g ∷ l) k zero a f e =
    let same : g ≡ f = cc in
    let w : k ≡ 0 + k = omega arith in
    (subst (λ x. Fits x f) w (subst (Fits k) same a.0), omega arith)
fits-at (g ∷ l) k (suc n) a f e =
    let (t, m) = fits-at l (suc k) n a.1 f e in
    let w : n + suc k ≡ suc n + k = omega arith in
    (subst (λ x. Fits x f) w t, omega arith)

relisted : (l : List ℕ) → tabulate (length l) (λ n. get_or l n 0) ≡ l
unfolding tabulate
relisted [] = refl
relisted (x ∷ l) = ap (λ r. x ∷ r) (relisted l)

-- what a filled form says of its caller, its kind and its arguments
record Filled (c x : ℕ) (l : List ℕ) (d : ℕ) (k : Call) : Type 0 where
  pub caller : c ≡ d
  pub its_kind : kind k ≡ x
  pub its_arguments : arguments k ≡ l
  pub few : length l < 251
  pub small : x < 256

filled : (c x : ℕ) (l : List ℕ) (d : ℕ) (k : Call) → fill c (kind_at x) l ≡ request d k → Filled c x l d k
filled c zero l d k e = absurd (differ (cc))
filled c (suc n) l d k e = go (nth_kind forms n) refl
  where
    counted : (f : Form) → Fits (n + 1) f → n < length forms → (b : Bool) → eqb (length l) f.count ≡ b → elim b [ true ↦ request c (f.call (λ n. get_or l n 0)) | false ↦ undecodable ] ≡ request d k → Filled c (suc n) l d k
    counted f t m true w h =
        let len = eqb-true (length l) f.count w in
        let (a, b) = t.1 (λ n. get_or l n 0) in
        let same : f.call (λ n. get_or l n 0) ≡ k = cc in
        record {
          caller = cc;
          its_kind = ap kind (sym same) ∙ a ∙ omega arith;
          its_arguments = ap arguments (sym same) ∙ b ∙ ap (λ n. tabulate n (λ n. get_or l n 0)) (sym len) ∙ relisted l;
          few = let z = ltb-true f.count 251 t.0 in omega arith;
          small = omega arith;
        }
    counted f t m false w h = absurd (differ (cc))

    go : (f : Kind) → nth_kind forms n ≡ f → Filled c (suc n) l d k
    go unknown t = let h = rw t at e in absurd (differ (cc))
    go (known f) t = let (a, b) = fits-at forms 1 n forms-fit f t in counted f a b (eqb (length l) f.count) refl (rw t at e)

some_encoded : (b : List ℕ) (c : ℕ) (k : Call) → decode_bytes b ≡ request c k → b ≡ encode_call c k
unfolding encode_call
some_encoded b c k e = go (leb header (length b) && eqb (two_bytes b 0) (length b)) refl
  where
    laid : (b : List ℕ) → 5 ≤ length b → two_bytes b 0 ≡ length b → Filled (get_or b 4 0) (kind_of b) (drop header b) c k → b ≡ encode_call c k
    laid [] l f h = absurd (omega arith)
    laid (x ∷ []) l f h = absurd (omega arith)
    laid (x ∷ y ∷ []) l f h = absurd (omega arith)
    laid (x ∷ y ∷ z ∷ []) l f h = absurd (omega arith)
    laid (x ∷ y ∷ z ∷ w ∷ []) l f h = absurd (omega arith)
    laid (x ∷ y ∷ z ∷ w ∷ v ∷ args) l f h =
        let few = h.few in
        let small = h.small in
        let n : length (arguments k) ≡ length args = ap length h.its_arguments in
        let its = h.its_kind in
        let x₀ : x ≡ (header + length (arguments k)) % 256 = omega arith in
        let y₀ : y ≡ (header + length (arguments k)) / 256 = omega arith in
        let z₀ : z ≡ kind k % 256 = omega arith in
        let w₀ : w ≡ kind k / 256 = omega arith in
        λ t. x₀ t ∷ y₀ t ∷ z₀ t ∷ w₀ t ∷ h.caller t ∷ sym h.its_arguments t

    go : (x : Bool) → leb header (length b) && eqb (two_bytes b 0) (length b) ≡ x → b ≡ encode_call c k
    go true t =
        let (l, f) = and_both _ _ t in
        laid b (leb-true header (length b) l) (eqb-true (two_bytes b 0) (length b) f) (filled (get_or b 4 0) (kind_of b) (drop header b) c k (rw (t, decode_bytes) at e))
    go false t = let h = rw (t, decode_bytes) at e in absurd (differ (cc))

-- whatever decodes to a call is the call's record
pub only_encoded : (b : List ℕ) (c : ℕ) (k : Call) → decode b ≡ request c k → b ≡ encode_call c k
unfolding decode
only_encoded [] c k e = absurd (differ (cc))
only_encoded (x ∷ l) c k e = some_encoded (x ∷ l) c k e
