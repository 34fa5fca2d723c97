-- Kind 21 is refused for its caller, its arguments and its permission only; a closed session's verdict is 0; its verdict is 1 exactly where the session may use the permission; no word changes.
use mathlib.Core.Path.{◌≡◌, refl, ap, sym, ◌∙◌}
use mathlib.Core.Logic.{◌↔◌, ◌⊎◌, inl, inr}
use mathlib.Core.Bool.{false}
use mathlib.Core.List.{List, [], ◌∷◌}
use Prim.Native.Nat.{ℕ, suc}
use borrow.Author.Tests.{lt-ltb, ltb-true}
use Rattle.bits.proofs.Booleans.{clash}
use Rattle.mtas.specs.Fact.{enrolled, permission, granted, opened, active}
use Rattle.mtas.specs.State.{State}
use Rattle.mtas.specs.Law.{here, there, Lawful}
use Rattle.mtas.specs.Answer.{Outcome, accepted, refused, first_cause, outcome, next}
use Rattle.mtas.specs.Call.{CheckAccess}
use Rattle.mtas.specs.Layout.{view}
use Rattle.mtas.specs.LawTest.{LawfulWords}
use Rattle.mtas.specs.Record.{request, decode}
use Rattle.mtas.specs.Monitor.{turned_down, monitor}
use Rattle.mtas.specs.Decision.{MayUsePermission, Entitled}
use Rattle.mtas.specs.Access.{MayAsk, AccessChecks}
use Rattle.mtas.proofs.Facts.{none_above_15}
use Rattle.mtas.proofs.Guards.{passed}
use Rattle.mtas.proofs.Answered.{is_accepted, accepts}
use Rattle.mtas.proofs.Monitor.{monitor-idle, monitor_cases}
use Rattle.mtas.proofs.Verdict.{verdict_iff, else_0}

module _ (st : State) (c p i s : ℕ) where
  asked : outcome st c (CheckAccess p i s) ≡ accepted → MayAsk st c p i s
  asked e =
      let g = passed st c (CheckAccess p i s) e in
      record { is_issuer = ltb-true c 16 g.front.may; is_enrolled = g.front.known refl; small = g.front.small; is_there = g.own.0 }

  may_ask : MayAsk st c p i s → outcome st c (CheckAccess p i s) ≡ accepted
  unfolding outcome first_cause
  may_ask m = rw (lt-ltb c 16 m.is_issuer, m.is_enrolled, none_above_15 (p ∷ i ∷ s ∷ []) m.small, m.is_there, first_cause)

  -- who may be told yes may ask: a grant stands on the permission and on its issuer's enrolment
  user_may_ask : Lawful st → MayUsePermission st c p i s → MayAsk st c p i s
  user_may_ask L m =
      let g = granted c p m.reached.issuer m.reached.number in
      let t = L.numbered g m.may.is_holder in
      let a = L.numbered (active i s m.may.its_user m.may.its_role) m.may.is_active in
      record {
        is_issuer = t.0;
        is_enrolled = L.supported g (enrolled c) m.may.is_holder (search (here, there) depth 16);
        small = (t.1.0, (a.0, (a.1.0, tt)));
        is_there = L.supported g (permission c p) m.may.is_holder here;
      }

  asking_leaves : next st c (CheckAccess p i s) ≡ st
  unfolding next
  asking_leaves = go (outcome st c (CheckAccess p i s)) refl
    where
      go : (o : Outcome) → outcome st c (CheckAccess p i s) ≡ o → next st c (CheckAccess p i s) ≡ st
      go accepted e = rw e
      go (refused n) e = rw e

pub access_checks : AccessChecks
access_checks = record { accepted_iff = checked; closed_gives_0 = closed; yes_iff = yes_where; nothing_changes = kept }
  where
    checked : (ws b : List ℕ) (c p i s : ℕ) → LawfulWords ws → decode b ≡ request c (CheckAccess p i s) → ((monitor ws b).answer.refusal ≡ 0) ↔ MayAsk (view ws) c p i s
    checked ws b c p i s W d = (
      λ z. asked (view ws) c p i s (is_accepted ws b W d z),
      λ m. accepts ws b W d (may_ask (view ws) c p i s m),
    )

    yes_where : (ws b : List ℕ) (c p i s : ℕ) → decode b ≡ request c (CheckAccess p i s) → ((monitor ws b).answer.verdict ≡ 1) ↔ (LawfulWords ws × MayUsePermission (view ws) c p i s)
    yes_where ws b c p i s d = (λ h. said ((verdict_iff ws b).0 h), λ (W, m). (verdict_iff ws b).1 (entitled W m))
      where
        said : Entitled ws b → LawfulWords ws × MayUsePermission (view ws) c p i s
        said E =
            let e : request E.owner (CheckAccess E.asked E.its_issuer E.session) ≡ request c (CheckAccess p i s) = sym E.is_check ∙ d in
            let o : E.owner ≡ c = cc in
            let a : E.asked ≡ p = cc in
            let q : E.its_issuer ≡ i = cc in
            let t : E.session ≡ s = cc in
            (E.lawful, rw (o, a, q, t) at E.may)

        entitled : LawfulWords ws → MayUsePermission (view ws) c p i s → Entitled ws b
        entitled W m = record {
          owner = c;
          asked = p;
          its_issuer = i;
          session = s;
          lawful = W;
          is_check = d;
          is_accepted = (checked ws b c p i s W d).1 (user_may_ask (view ws) c p i s W.lawful m);
          may = m;
        }

    closed : (ws b : List ℕ) (c p i s : ℕ) → decode b ≡ request c (CheckAccess p i s) → ((u : ℕ) → (view ws).stands (opened i s u) ≡ false) → (monitor ws b).answer.verdict ≡ 0
    closed ws b c p i s d n = else_0 ws b (λ E. let (W, m) = (yes_where ws b c p i s d).0 ((verdict_iff ws b).1 E) in clash m.may.is_open (n m.may.its_user))

    kept : (ws b : List ℕ) (c p i s : ℕ) → decode b ≡ request c (CheckAccess p i s) → (monitor ws b).words ≡ ws
    kept ws b c p i s d = go (monitor_cases ws b)
      where
        go : (LawfulWords ws) ⊎ ((n : ℕ) × (monitor ws b ≡ turned_down (suc n) ws)) → (monitor ws b).words ≡ ws
        go (inl W) = ap (λ r. r.words) (monitor-idle ws b W (request c (CheckAccess p i s)) d (asking_leaves (view ws) c p i s))
        go (inr (n, e)) = ap (λ r. r.words) e
