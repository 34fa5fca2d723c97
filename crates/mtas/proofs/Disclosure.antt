-- No refusal discloses what is another issuer's own affair: no guard looks there.
use mathlib.Core.Path.{◌≡◌, refl, ap, ap₂, sym, ◌∙◌, fun_ext}
use mathlib.Core.Bool.{◌&&◌}
use Prim.Native.Nat.{ℕ}
use Rattle.mtas.specs.Fact.{Fact, enrolled, trusts, user, role, permission, public, holds, granted, attached, opened, active}
use Rattle.mtas.specs.State.{State}
use Rattle.mtas.specs.Hierarchy.{◌#◌, reaches}
use Rattle.mtas.specs.Law.{attachments}
use Rattle.mtas.specs.Settle.{authorized}
use Rattle.mtas.specs.Call.{Call}
use Rattle.mtas.specs.Answer.{Outcome, accepted, refused, outcome, answer}
use Rattle.mtas.specs.Layout.{view}
use Rattle.mtas.specs.Record.{Request, sign_of_life, undecodable, request, decode}
use Rattle.mtas.specs.Monitor.{answered}
use Rattle.mtas.specs.Disclosure.{OthersAffair, its_users, held_roles, its_sessions, active_roles, SameBut, NothingDisclosed}
use Rattle.bits.proofs.Below.{any_ext}
use Rattle.mtas.proofs.Monitor.{monitor-lawful}
use Rattle.mtas.proofs.Isolation.{controller}
use Rattle.mtas.proofs.Alike.{SeenAlike, outcome_alike}

-- what the caller controls is its own affair
own_affair : (c : ℕ) (f : Fact) → OthersAffair c f → controller f ≡ c → ⊥
own_affair c (user i u) (its_users n) e = n e
own_affair c (holds i u r) (held_roles n) e = n e
own_affair c (opened i s u) (its_sessions n) e = n e
own_affair c (active i s u r) (active_roles n) e = n e
own_affair c (enrolled _) x e = elim x [ ]
own_affair c (trusts _ _) x e = elim x [ ]
own_affair c (role _ _) x e = elim x [ ]
own_affair c (permission _ _) x e = elim x [ ]
own_affair c (public _ _) x e = elim x [ ]
own_affair c (granted _ _ _ _) x e = elim x [ ]
own_affair c (attached _ _ _ _) x e = elim x [ ]

no_enrolment : {c i : ℕ} → OthersAffair c (enrolled i) → ⊥
no_enrolment = elim [ ]

no_trust : {c i j : ℕ} → OthersAffair c (trusts i j) → ⊥
no_trust = elim [ ]

no_role : {c i r : ℕ} → OthersAffair c (role i r) → ⊥
no_role = elim [ ]

no_public : {c i r : ℕ} → OthersAffair c (public i r) → ⊥
no_public = elim [ ]

no_attachment : {c j q i r : ℕ} → OthersAffair c (attached j q i r) → ⊥
no_attachment = elim [ ]

module _ (st st' : State) (c : ℕ) (B : SameBut c st st') where
  seen : SeenAlike st st' c
  unfolding authorized
  seen = record {
    of_enrolment = λ i. B (enrolled i) no_enrolment;
    of_own = λ f e. B f (λ o. own_affair c f o e);
    of_its_trust = λ j. B (trusts c j) no_trust;
    of_trust_in_it = λ i. B (trusts i c) no_trust;
    of_roles = λ i r t. B (role i r) no_role;
    of_public = λ i r t. B (public i r) no_public;
    of_reach = λ q i r t. ap (λ g. reaches g (c # q) (i # r)) graph;
    of_authorized = λ u r. entitles u r;
  }
    where
      graph : attachments st ≡ attachments st'
      graph = fun_ext (λ a. fun_ext (λ b. B (attached b.issuer b.number a.issuer a.number) no_attachment))

      entitles : (u r : ℕ) → authorized st (attachments st) c u r ≡ authorized st' (attachments st') c u r
      entitles u r =
          any_ext 16 _ _ (λ h. ap₂ ◌&&◌ (B (holds c u h) (λ o. own_affair c (holds c u h) o refl)) (ap (λ g. reaches g (c # h) (c # r)) graph))

  refusal_of : (k : Call) (o : Outcome) → outcome st c k ≡ o → outcome st' c k ≡ o → (answer st c k).refusal ≡ (answer st' c k).refusal
  unfolding answer
  refusal_of k accepted e d = rw (e, d)
  refusal_of k (refused n) e d = rw (e, d)

  pub same_refusal : (k : Call) → (answer st c k).refusal ≡ (answer st' c k).refusal
  same_refusal k = refusal_of k (outcome st c k) refl (sym (outcome_alike st st' c seen k))

pub nothing_disclosed : NothingDisclosed
nothing_disclosed ws vs b W W' B =
    ap (λ r. r.answer.refusal) (monitor-lawful ws b W)
    ∙ go (decode b) refl
    ∙ sym (ap (λ r. r.answer.refusal) (monitor-lawful vs b W'))
  where
    go : (x : Request) → decode b ≡ x → (answered (view ws) x).refusal ≡ (answered (view vs) x).refusal
    go sign_of_life d = refl
    go undecodable d = refl
    go (request c k) d = same_refusal (view ws) (view vs) c (B c k d) k
