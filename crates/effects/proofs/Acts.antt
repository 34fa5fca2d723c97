-- An accepted call's effect may be done, and leaves what the model says.
use Rattle.std.proofs.Common.{◌≡◌, refl, ap, sym, subst, ◌∙◌, List, [], ◌∷◌, Bool, true, false, not, ◌||◌, ℕ, ◌<◌, eqb, get_or}
use mathlib.Core.Bool.{decide}
use native.Mathlib.Decide.{ℕ_discrete}
use borrow.Author.Tests.{eqb-false}
use Rattle.bits.proofs.Booleans.{clash, untrue}
use Rattle.mtas.specs.Fact.{Fact, enrolled, trusts, opened, same, numbers, Below16}
use Rattle.mtas.specs.Needs.{needs}
use Rattle.mtas.specs.State.{State, cut, user_of}
use Rattle.mtas.specs.Law.{Lawful, In, here, there}
use Rattle.mtas.specs.Call.{Call, AddIssuer, RemoveIssuer, AssignTrust, RevokeTrust, AddUser, RemoveUser, AddRole, RemoveRole, AddPerm, RemovePerm, AssignUser, RevokeUser, AssignPerm, RevokePerm, AssignRH, RevokeRH, CreateSession, DeleteSession, AddActiveRole, DropActiveRole, CheckAccess, PublishRole, UnpublishRole}
use Rattle.mtas.specs.Rule as model
use Rattle.mtas.specs.Answer as answers
use Rattle.mtas.specs.Layout.{Word, in_session, cell, bit_while, place, encode, view}
use Rattle.mtas.proofs.Cells.{Says, said-there, placed}
use Rattle.mtas.proofs.Facts.{All, same_true, put-new, put-more}
use Rattle.mtas.proofs.Guards.{Passed, passed}
use Rattle.mtas.proofs.Law.{rooted, cut_rooted}
use Rattle.mtas.proofs.Sessions.{closed}
use Rattle.mtas.proofs.Step.{leaves, next_lawful}
use Rattle.mtas.proofs.Words.{words_of, encode-view, contents_view, sound-words}
use Rattle.facts.specs.declared.Fact.{Fact as Code}
use Rattle.facts.specs.Table.{fact_of}
use Rattle.rule.specs.declared.Effect.{Effect}
use Rattle.rule.specs.declared.Effect.TheVariants.{Enrols, Puts, Cuts, Decides}
use Rattle.rule.specs.Table.{effect_of}
use Rattle.effects.specs.Effect.{Accepted, Left}
use Rattle.effects.specs.Put.{Put}
use Rattle.effects.specs.Cut.{Apart, MayCut, Cut, is_holding, Breaking}
use Rattle.sessions.specs.Lesser.{Plain}
use Rattle.sessions.specs.Settled.{Settled}
use Rattle.effects.proofs.Plain.{plain_settled}
use Rattle.effects.proofs.Settling.{settled_words}
use Rattle.effects.proofs.Putting.{Hold, Ready, put_holds}

-- each fact that is put may be written, and the one that is cut stands
abbrev Acts : State → model.Effect → Type 0
Acts st (model.puts l) = All (λ f. Ready st (place f)) l
Acts st (model.cuts f) = (st.stands f ≡ true) × Apart f
Acts st (model.decides p i s) = Unit

module _ (st : State) (L : Lawful st) where
  -- in a closed session nothing stands of any user
  idle : (i s : ℕ) → ((v : ℕ) → st.stands (opened i s v) ≡ false) → (w : Word) (g : ℕ → ℕ → Fact) → cell w ≡ in_session i s g → (v n : ℕ) → st.stands (g v n) ≡ false
  idle i s none w g e v n = untrue _ (λ h. clash (L.supported (g v n) (opened i s v) h needs_it) (none v))
    where
      there_is : Says (bit_while i s v w n) (g v n)
      there_is = subst (λ p. Says p (g v n)) ((rw e at (placed w)).0 v n) (said-there (g v n))

      needs_it : In (opened i s v) (needs (g v n))
      needs_it = there_is.3

  -- trust between two issuers
  two : (i j : ℕ) → eqb i j ≡ false → Apart (trusts i j)
  two i j d k = untrue _ (λ e. let q : trusts i j ≡ trusts k k = same_true e in let a : i ≡ k = cc in let b : j ≡ k = cc in eqb-false i j d (a ∙ sym b))

  acts : (c : ℕ) (k : Call) → Passed st c k → Acts st (model.rule (user_of st c) c k).effect
  unfolding same decide ℕ_discrete
  acts c (AddIssuer i) p = (tt, (tt, tt))
  acts c (RemoveIssuer i) p = (p.own.0, λ i. refl)
  acts c (AssignTrust j) p = (tt, tt)
  acts c (RevokeTrust j) p = (p.own.1.1.0, two c j p.own.1.0)
  acts c (AddUser u) p = (tt, tt)
  acts c (RemoveUser u) p = (p.own.0, λ i. refl)
  acts c (AddRole r) p = (tt, tt)
  acts c (RemoveRole r) p = (p.own.0, λ i. refl)
  acts c (AddPerm x) p = (tt, tt)
  acts c (RemovePerm x) p = (p.own.0, λ i. refl)
  acts c (AssignUser u r) p = (tt, tt)
  acts c (RevokeUser u r) p = (p.own.1.1.0, λ i. refl)
  acts c (AssignPerm x i r) p = (tt, tt)
  acts c (RevokePerm x i r) p = (p.own.1.1.1.1.1.0, λ i. refl)
  acts c (AssignRH q i r) p = (tt, tt)
  acts c (RevokeRH q i r) p = (p.own.1.1.1.1.1.0, λ i. refl)
  acts c (CreateSession s u) p = let n = closed st (rooted L) c s p.own.1.0 in ((n, idle c s n), tt)
  acts c (DeleteSession s) p = (p.own.0, λ i. refl)
  acts c (AddActiveRole s r) p = (refl, tt)
  acts c (DropActiveRole s r) p = (p.own.1.1.0, λ i. refl)
  acts c (CheckAccess x i s) p = tt
  acts c (PublishRole r) p = (tt, tt)
  acts c (UnpublishRole r) p = (p.own.1.0, λ i. refl)

module _ {ws : List ℕ} {c : ℕ} {k : Call} {x y : Effect} (a : Accepted ws c k) (e : effect_of x ≡ (model.rule (user_of (view ws) c) c k).effect) (d : x ≡ y) where
  effect_is : (model.rule (user_of (view ws) c) c k).effect ≡ effect_of y
  effect_is = sym e ∙ ap effect_of d

  acted : Acts (view ws) (effect_of y)
  acted = subst (Acts (view ws)) effect_is (acts (view ws) a.lawful.lawful c k (passed (view ws) c k a.passes))

  next_is : answers.next (view ws) c k ≡ answers.change (effect_of y) (view ws)
  next_is = leaves (view ws) c k a.passes ∙ ap (λ z. answers.change z (view ws)) effect_is

  left : {vs : List ℕ} → vs ≡ encode (answers.change (effect_of y) (view ws)) → Left ws c k vs
  left h = record { words = h ∙ ap encode (sym next_is) }

neither : (p q : Bool) → not p || q ≡ false → (p ≡ true) × (q ≡ false)
neither true q h = (refl, h)
neither false q h = absurd (clash refl h)

module _ {ws : List ℕ} {c : ℕ} {k : Call} (a : Accepted ws c k) where
  holds_now : Hold (view ws) ws
  holds_now = record { long = a.lawful.long; each = λ w b. sym (contents_view ws (sound-words a.lawful) w b) }

module _ {ws : List ℕ} {c : ℕ} {k : Call} {x : Effect} (a : Accepted ws c k) (e : effect_of x ≡ (model.rule (user_of (view ws) c) c k).effect) where
  -- a fact of the list that is put has numbers below 16
  put_numbered : {y : Effect} {l : List Fact} → x ≡ y → effect_of y ≡ model.puts l → {f : Fact} → In f l → Below16 (numbers f)
  put_numbered d q {f} m = (next_lawful (view ws) a.lawful.lawful c k).numbered f (rw (next_is a e d ∙ ap (λ z. answers.change z (view ws)) q) (put-new _ (view ws) m))

  pub has_put : {f : Code} {vs : List ℕ} → x ≡ Puts f → Put (fact_of f) ws vs → Left ws c k vs
  has_put d p =
      let H = put_holds (holds_now a) (put_numbered d refl here) (acted a e d).0 p in
      left a e d (words_of _ _ H.long H.each)

  -- the trust in itself is put first, and the enrolment then
  pub has_enrolled : {i : ℕ} {vs us : List ℕ} → x ≡ Enrols i → Put (trusts i i) ws vs → Put (enrolled i) vs us → Left ws c k us
  has_enrolled {i} d p q =
      let H = put_holds (put_holds (holds_now a) (put_numbered d refl (there here)) tt p) (put_numbered d refl here) tt q in
      left a e d (words_of _ _ H.long H.each ∙ ap encode (put-more (enrolled i) (trusts i i ∷ []) (view ws)))

  pub may_cut : {f : Code} → x ≡ Cuts f → MayCut (fact_of f) ws
  may_cut {f} d = record { lawful = a.lawful; numbered = a.lawful.lawful.numbered (fact_of f) (acted a e d).0; apart = (acted a e d).1 }

  -- what the cut left is settled
  pub has_cut : {f : Code} {vs us : List ℕ} → x ≡ Cuts f → Cut (fact_of f) ws vs → Settled vs us → ((k : ℕ) → get_or us k 0 < 65536) → Left ws c k us
  has_cut {f} {vs} {us} d p z wide =
      left a e d (settled_words (cut (fact_of f) (view ws)) (cut_rooted (view ws) a.lawful.lawful (fact_of f)) (subst (λ l. Settled l us) p.words z) wide)

  -- or was settled already
  pub has_kept : {plain b : Bool} {f : Code} {vs : List ℕ} → (plain ≡ true → Plain ws) → x ≡ Cuts f → Cut (fact_of f) ws vs → Breaking plain (fact_of f) b → b ≡ false → Left ws c k vs
  has_kept {plain} {f = f} held d p q t = let (r, n) = neither plain (is_holding (fact_of f)) (sym q.is ∙ t) in left a e d (p.words ∙ ap encode (sym (plain_settled ws a.lawful (held r) (fact_of f) n)))

  pub has_decided : {p i s : ℕ} → x ≡ Decides p i s → Left ws c k ws
  has_decided d = left a e d (sym (encode-view ws a.lawful))
