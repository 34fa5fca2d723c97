-- Demand 2 on words and bytes: the verdict is 1 exactly for an accepted kind 21 of a session that may use the permission; what every answer says.
use mathlib.Core.Path.{◌≡◌, refl, ap, sym, ◌∙◌}
use mathlib.Core.Logic.{◌↔◌, ◌⊎◌, inl, inr}
use mathlib.Core.Option.{Option, none, some}
use mathlib.Core.List.{List}
use Prim.Native.Nat.{ℕ, suc}
use Rattle.mtas.specs.State.{State, user_of}
use Rattle.mtas.specs.Hierarchy.{Role, ◌#◌}
use Rattle.mtas.specs.Call.{Call, AddIssuer, RemoveIssuer, AssignTrust, RevokeTrust, AddUser, RemoveUser, AddRole, RemoveRole, AddPerm, RemovePerm, AssignUser, RevokeUser, AssignPerm, RevokePerm, AssignRH, RevokeRH, CreateSession, DeleteSession, AddActiveRole, DropActiveRole, CheckAccess, PublishRole, UnpublishRole}
use Rattle.mtas.specs.Rule.{rule}
use Rattle.mtas.specs.Answer.{Answer, verdict_of, accepts, Outcome, accepted, refused, outcome, lookup, found, answer}
use Rattle.mtas.specs.Layout.{view}
use Rattle.mtas.specs.LawTest.{LawfulWords}
use Rattle.mtas.specs.Record.{Request, sign_of_life, undecodable, request, decode}
use Rattle.mtas.specs.Monitor.{turned_down, answered, monitor}
use Rattle.mtas.specs.Decision.{Entitled}
use Rattle.mtas.specs.Through.{LowestThrough}
use Rattle.mtas.proofs.Step.{differ, refused-answer}
use Rattle.mtas.proofs.Decision.{lookup_iff, none_iff}
use Rattle.mtas.proofs.Monitor.{zero-accepted, monitor-lawful, monitor_cases}

-- every verdict is 1 or 0
abbrev pub OneOr0 : ℕ → Type 0
OneOr0 v = (v ≡ 1) ⊎ (v ≡ 0)

-- what an accepted call looks up: nothing, or for kind 21 the lookup
data LookedUp (st : State) (c : ℕ) (k : Call) : Option Role → Type 0 where
  nothing : LookedUp st c k none
  asked : {p i s : ℕ} → k ≡ CheckAccess p i s → LookedUp st c k (lookup st c p i s)

-- 'The verdict is 1 only for kind 21'
looked_up : (st : State) (c : ℕ) (k : Call) → LookedUp st c k (found st c (rule (user_of st c) c k).effect)
looked_up st c (AddIssuer i) = nothing
looked_up st c (RemoveIssuer i) = nothing
looked_up st c (AssignTrust j) = nothing
looked_up st c (RevokeTrust j) = nothing
looked_up st c (AddUser u) = nothing
looked_up st c (RemoveUser u) = nothing
looked_up st c (AddRole r) = nothing
looked_up st c (RemoveRole r) = nothing
looked_up st c (AddPerm p) = nothing
looked_up st c (RemovePerm p) = nothing
looked_up st c (AssignUser u r) = nothing
looked_up st c (RevokeUser u r) = nothing
looked_up st c (AssignPerm p i r) = nothing
looked_up st c (RevokePerm p i r) = nothing
looked_up st c (AssignRH q i r) = nothing
looked_up st c (RevokeRH q i r) = nothing
looked_up st c (CreateSession s u) = nothing
looked_up st c (DeleteSession s) = nothing
looked_up st c (AddActiveRole s r) = nothing
looked_up st c (DropActiveRole s r) = nothing
looked_up st c (CheckAccess p i s) = asked refl
looked_up st c (PublishRole r) = nothing
looked_up st c (UnpublishRole r) = nothing

-- an answer without a yes, or with one: to kind 21, through the lowest role
pub data Says (ws b : List ℕ) (x : Answer) : Type 0 where
  no_yes : x.verdict ≡ 0 → x.through ≡ 255 # 255 → Says ws b x
  a_yes : LawfulWords ws → {c p i s : ℕ} {a : Role} → decode b ≡ request c (CheckAccess p i s) → LowestThrough (view ws) c p i s a → x ≡ accepts (some a) → Says ws b x

module _ (ws b : List ℕ) where
  pub says : Says ws b (monitor ws b).answer
  unfolding answer
  says = go (monitor_cases ws b)
    where
      looks : LawfulWords ws → {c : ℕ} {k : Call} {o : Option Role} → decode b ≡ request c k → LookedUp (view ws) c k o → Says ws b (accepts o)
      looks W d nothing = no_yes refl refl
      looks W {c} d (asked {p} {i} {s} e) = on (lookup (view ws) c p i s) refl
        where
          on : (o : Option Role) → lookup (view ws) c p i s ≡ o → Says ws b (accepts o)
          on none q = no_yes refl refl
          on (some a) q = a_yes W (d ∙ ap (request c) e) ((lookup_iff (view ws) W.lawful c p i s a).0 q) refl

      by : LawfulWords ws → (x : Request) → decode b ≡ x → Says ws b (answered (view ws) x)
      by W sign_of_life d = no_yes refl refl
      by W undecodable d = no_yes refl refl
      by W (request c k) d = on (outcome (view ws) c k) refl
        where
          on : (o : Outcome) → outcome (view ws) c k ≡ o → Says ws b (answer (view ws) c k)
          on (refused n) e = rw (refused-answer (view ws) c k n e) (no_yes refl refl)
          on accepted e = rw e (looks W d (looked_up (view ws) c k))

      go : (LawfulWords ws) ⊎ ((n : ℕ) × (monitor ws b ≡ turned_down (suc n) ws)) → Says ws b (monitor ws b).answer
      go (inl W) = rw (monitor-lawful ws b W) (by W (decode b) refl)
      go (inr (n, e)) = rw e (no_yes refl refl)

  said : (monitor ws b).answer.verdict ≡ 1 → Entitled ws b
  said h = go says
    where
      go : Says ws b (monitor ws b).answer → Entitled ws b
      go (no_yes z t) = absurd (differ (sym z ∙ h))
      go (a_yes W {c} {p} {i} {s} {a} d l x) = record {
        owner = c;
        asked = p;
        its_issuer = i;
        session = s;
        lawful = W;
        is_check = d;
        is_accepted = ap (λ y. y.refusal) x;
        may = record { reached = a; may = l.may };
      }

  entitled : Entitled ws b → (monitor ws b).answer.verdict ≡ 1
  unfolding answer
  entitled E = ap (λ r. r.answer.verdict) (monitor-lawful ws b E.lawful) ∙ ap (λ x. (answered (view ws) x).verdict) E.is_check ∙ yes (zero-accepted (view ws) E.owner call zero_told)
    where
      call : Call
      call = CheckAccess E.asked E.its_issuer E.session

      zero_told : (answer (view ws) E.owner call).refusal ≡ 0
      zero_told = ap (λ x. (answered (view ws) x).refusal) (sym E.is_check) ∙ ap (λ r. r.answer.refusal) (sym (monitor-lawful ws b E.lawful)) ∙ E.is_accepted

      one : (o : Option Role) → lookup (view ws) E.owner E.asked E.its_issuer E.session ≡ o → verdict_of o ≡ 1
      one (some a) e = refl
      one none e = absurd ((none_iff (view ws) E.lawful.lawful E.owner E.asked E.its_issuer E.session).0 e E.may)

      yes : outcome (view ws) E.owner call ≡ accepted → (answer (view ws) E.owner call).verdict ≡ 1
      yes e = rw e (one (lookup (view ws) E.owner E.asked E.its_issuer E.session) refl)

  pub verdict_iff : ((monitor ws b).answer.verdict ≡ 1) ↔ Entitled ws b
  verdict_iff = (said, entitled)

  -- 'else 0'
  pub two_verdicts : OneOr0 (monitor ws b).answer.verdict
  two_verdicts = go says
    where
      go : Says ws b (monitor ws b).answer → OneOr0 (monitor ws b).answer.verdict
      go (no_yes z t) = inr z
      go (a_yes W d l x) = inl (ap (λ y. y.verdict) x)

  pub else_0 : (Entitled ws b → ⊥) → (monitor ws b).answer.verdict ≡ 0
  else_0 n = go two_verdicts
    where
      go : OneOr0 (monitor ws b).answer.verdict → (monitor ws b).answer.verdict ≡ 0
      go (inl e) = absurd (n (said e))
      go (inr e) = e
