-- Demand 3, on whole lists of byte records played on words: each history agrees with its purge, so two with one purge agree.
use mathlib.Core.Path.{◌≡◌, refl, ap, ap₂, sym, ◌∙◌, subst}
use mathlib.Core.Logic.{◌↔◌}
use mathlib.Core.List.{List, [], ◌∷◌}
use mathlib.Core.Bool.{Bool, true, false}
use Prim.Native.Nat.{ℕ, ◌<◌}
use Rattle.bits.specs.Bit.{bit}
use Rattle.bits.proofs.Booleans.{clash}
use Rattle.bits.proofs.Bit.{bit-pack, pack_ext}
use Rattle.mtas.specs.Fact.{Fact, enrolled}
use Rattle.mtas.specs.State.{State, nothing, packed, user_of}
use Rattle.mtas.specs.Hierarchy.{Role, ◌#◌, Graph, Reaches, itself, down}
use Rattle.mtas.specs.Law.{attachments, Lawful}
use Rattle.mtas.specs.Call.{Call, AssignTrust}
use Rattle.mtas.specs.Answer.{accepted, outcome}
use Rattle.mtas.specs.Decision.{MayUsePermissionThrough, MayUsePermission}
use Rattle.mtas.specs.Through.{LowestThrough}
use Rattle.mtas.specs.Layout.{enrolled_issuers, Cell, sixteen, its_user, in_session, cell, word_at, contents, encode, view}
use Rattle.mtas.specs.Record.{Request, sign_of_life, undecodable, request, decode, inside, remains}
use Rattle.mtas.specs.Monitor.{initial_words, answered, state_after, monitor}
use Rattle.mtas.specs.Histories.{History, final, purge, answers, TrustRefused, NoTrustIn, SameInName, Noninterference, OnlyMembersReach}
use Rattle.mtas.proofs.Hierarchy.{Numbered}
use Rattle.mtas.proofs.Authorized.{attachments-numbered}
use Rattle.mtas.proofs.Guards.{Passed, passed}
use Rattle.mtas.proofs.Decision.{test_iff}
use Rattle.mtas.proofs.Words.{encode_at, read_encode, view-encode}
use Rattle.mtas.proofs.Monitor.{initial-is-nothing, monitor-encode, accepted-zero}
use Rattle.mtas.proofs.Remaining.{issuer's}
use Rattle.mtas.proofs.Walks.{from_inside}
use Rattle.mtas.proofs.Isolation.{controller, Controlled, owned_inside, Secure, nothing_secure, Agree, Calm, carries, upwards, outsider_unseen, next_secure}
use Rattle.mtas.proofs.Unwinding.{user_same, test_same, answer_same, next_agrees}

module _ (member : ℕ → Bool) where
  abbrev ins : ℕ → Bool
  ins = inside member

  -- the premise on answers is the one on outcomes
  calm : (st : State) → Lawful st → (b : List ℕ) → TrustRefused member (encode st) b → (c : ℕ) (k : Call) → decode b ≡ request c k → Calm ins st c k
  calm st L b q c k d j e ho hj a = let l = g.front.small.0 in q c j (d ∙ ap (request c) e) ho l (sym (issuer's member j l) ∙ hj) accepted-answer
    where
      a' : outcome st c (AssignTrust j) ≡ accepted
      a' = subst (λ x. outcome st c x ≡ accepted) e a

      g : Passed st c (AssignTrust j)
      g = passed st c (AssignTrust j) a'

      accepted-answer : (monitor (encode st) b).answer.refusal ≡ 0
      accepted-answer = ap (λ r. r.answer.refusal) (monitor-encode st L b) ∙ ap (λ x. (answered st x).refusal) d ∙ accepted-zero st c k a

  -- what a history and another have in common when played on two words
  record Twins (ws vs : List ℕ) (h g : History) : Type 0 where
    same_answers : answers member ws h ≡ answers member vs g
    left : State
    right : State
    left_is : final ws h ≡ encode left
    right_is : final vs g ≡ encode right
    left_secure : Secure ins left
    right_secure : Secure ins right
    agree : Agree ins left right

  -- one record: outsiders' change nothing seen, those inside are answered alike
  module _ (st st' : State) (S : Secure ins st) (S' : Secure ins st') (A : Agree ins st st') where
    abbrev Goes : Request → Request → Type 0
    Goes x y = Secure ins (state_after st x) × Secure ins (state_after st' y) × Agree ins (state_after st x) (state_after st' y)

    inside_step : (x : Request) → remains member x ≡ true → ((c : ℕ) (k : Call) → x ≡ request c k → Calm ins st c k) → (answered st x ≡ answered st' x) × Goes x x
    inside_step sign_of_life r q = absurd (clash r refl)
    inside_step undecodable r q = absurd (clash r refl)
    inside_step (request c k) r q = (
      answer_same ins refl st st' S S' A c k r,
      (next_secure ins refl st S c k (q c k refl), next_secure ins refl st' S' c k (λ j e ho. absurd (clash r ho)), next_agrees ins refl st st' S S' A c k r),
    )

    outside_step : (x : Request) → remains member x ≡ false → ((c : ℕ) (k : Call) → x ≡ request c k → Calm ins st c k) → Goes x undecodable
    outside_step sign_of_life r q = (S, S', A)
    outside_step undecodable r q = (S, S', A)
    outside_step (request c k) r q = (next_secure ins refl st S c k (q c k refl), S', λ f o. outsider_unseen ins refl st S c k r f o ∙ A f o)

  twins : (h : History) (st st' : State) → Secure ins st → Secure ins st' → Agree ins st st' → NoTrustIn member (encode st) h → Twins (encode st) (encode st') h (purge member h)
  unfolding final purge answers
  twins [] st st' S S' A q = record {
    same_answers = refl;
    left = st;
    right = st';
    left_is = refl;
    right_is = refl;
    left_secure = S;
    right_secure = S';
    agree = A;
  }
  twins (b ∷ h) st st' S S' A q = go (twins h) (remains member (decode b)) refl
    where
      m : monitor (encode st) b ≡ record { answer = answered st (decode b); words = encode (state_after st (decode b)) }
      m = monitor-encode st S.lawful b

      m' : monitor (encode st') b ≡ record { answer = answered st' (decode b); words = encode (state_after st' (decode b)) }
      m' = monitor-encode st' S'.lawful b

      q' : NoTrustIn member (encode (state_after st (decode b))) h
      q' = rw m at q.1

      go : ((x x' : State) → Secure ins x → Secure ins x' → Agree ins x x' → NoTrustIn member (encode x) h → Twins (encode x) (encode x') h (purge member h))
          → (r : Bool) → remains member (decode b) ≡ r → Twins (encode st) (encode st') (b ∷ h) (purge member (b ∷ h))
      go rec true e =
          let s = inside_step st st' S S' A (decode b) e (calm st S.lawful b q.0) in
          let t : Twins (encode (state_after st (decode b))) (encode (state_after st' (decode b))) h (purge member h) = rec (state_after st (decode b)) (state_after st' (decode b)) s.1.0 s.1.1 s.1.2 q' in
          rw (e, purge) (record {
            same_answers = rw (e, answers) (rw (m, m') (ap₂ ◌∷◌ s.0 t.same_answers));
            left = t.left;
            right = t.right;
            left_is = rw m t.left_is;
            right_is = rw m' t.right_is;
            left_secure = t.left_secure;
            right_secure = t.right_secure;
            agree = t.agree;
          })
      go rec false e =
          let s = outside_step st st' S S' A (decode b) e (calm st S.lawful b q.0) in
          let t : Twins (encode (state_after st (decode b))) (encode st') h (purge member h) = rec (state_after st (decode b)) st' s.0 S' s.2 q' in
          rw (e, purge) (record {
            same_answers = rw (e, answers) (rw m t.same_answers);
            left = t.left;
            right = t.right;
            left_is = rw m t.left_is;
            right_is = t.right_is;
            left_secure = t.left_secure;
            right_secure = t.right_secure;
            agree = t.agree;
          })

  -- agreement, word by word
  module _ (st st' : State) (S : Secure ins st) (S' : Secure ins st') (A : Agree ins st st') (j : ℕ) (l : j < 16) (i : ins j ≡ true) where
    packs : (f : ℕ → Fact) → ((n : ℕ) → ins (controller (f n)) ≡ true) → packed st f ≡ packed st' f
    packs f o = pack_ext 16 (λ n. st.stands (f n)) (λ n. st'.stands (f n)) (λ n _. A (f n) (o n))

    same_cell : (c : Cell) → Controlled ins c → contents st c ≡ contents st' c
    same_cell (sixteen f) o = packs f o
    same_cell (its_user k s) o = user_same ins refl st st' S S' A k s o
    same_cell (in_session k s f) (o, q) = let u = user_same ins refl st st' S S' A k s o in packs (f (user_of st k s)) (q (user_of st k s)) ∙ ap (λ u. packed st' (f u)) u

    same_in_name : SameInName j (encode st) (encode st')
    same_in_name = record {
      enrolled_bit =
          ap (λ x. bit x j) (read_encode st enrolled_issuers tt) ∙ bit-pack 16 (λ n. st.stands (enrolled n)) j l ∙ A (enrolled j) refl
          ∙ sym (ap (λ x. bit x j) (read_encode st' enrolled_issuers tt) ∙ bit-pack 16 (λ n. st'.stands (enrolled n)) j l);
      own_words = λ k m e.
          encode_at st k m ∙ same_cell (cell (word_at k)) (owned_inside ins refl (word_at k) (rw e i)) ∙ sym (encode_at st' k m);
    }

  -- a member is inside
  member_inside : (j : ℕ) → j < 16 → member j ≡ true → ins j ≡ true
  member_inside j l h = issuer's member j l ∙ h

pub noninterference : Noninterference
noninterference member h₁ h₂ e q₁ q₂ = record {
  same_answers = rw n (t₁.same_answers ∙ ap (answers member (encode nothing)) e ∙ sym t₂.same_answers);
  same_words = λ j l m. rw (n, t₁.left_is, t₂.left_is) (same_in_name member t₁.left t₂.left t₁.left_secure t₂.left_secure agree j l (member_inside member j l m));
  same_decisions = λ j p i s l m. rw (n, t₁.left_is, t₂.left_is, view-encode t₁.left t₁.left_secure.lawful, view-encode t₂.left t₂.left_secure.lawful) (decided j p i s (member_inside member j l m));
  same_roles = λ j p i s l m a. rw (n, t₁.left_is, t₂.left_is, view-encode t₁.left t₁.left_secure.lawful, view-encode t₂.left t₂.left_secure.lawful) (lowest j p i s (member_inside member j l m) a);
}
  where
    n : initial_words ≡ encode nothing
    n = initial-is-nothing

    t₁ : Twins member (encode nothing) (encode nothing) h₁ (purge member h₁)
    t₁ = twins member h₁ nothing nothing (nothing_secure (inside member)) (nothing_secure (inside member)) (λ f o. refl) (rw n at q₁)

    t₂ : Twins member (encode nothing) (encode nothing) h₂ (purge member h₂)
    t₂ = twins member h₂ nothing nothing (nothing_secure (inside member)) (nothing_secure (inside member)) (λ f o. refl) (rw n at q₂)

    -- one purge, one state at its end
    purged : t₁.right ≡ t₂.right
    purged =
        sym (view-encode t₁.right t₁.right_secure.lawful)
        ∙ ap view (sym t₁.right_is ∙ ap (final (encode nothing)) e ∙ t₂.right_is)
        ∙ view-encode t₂.right t₂.right_secure.lawful

    agree : Agree (inside member) t₁.left t₂.left
    agree f o = t₁.agree f o ∙ ap (λ x. x.stands f) purged ∙ sym (t₂.agree f o)

    -- a session may use a member's permission through the same roles
    through : (j p i s : ℕ) → inside member j ≡ true → (a : Role) → MayUsePermissionThrough t₁.left j p i s a ↔ MayUsePermissionThrough t₂.left j p i s a
    through j p i s m a =
        let x = test_iff t₁.left t₁.left_secure.lawful j p i s a in
        let y = test_iff t₂.left t₂.left_secure.lawful j p i s a in
        let d = test_same (inside member) refl t₁.left t₂.left t₁.left_secure t₂.left_secure agree j p i s m a in
        (λ h. y.0 (sym d ∙ x.1 h), λ h. x.0 (d ∙ y.1 h))

    decided : (j p i s : ℕ) → inside member j ≡ true → MayUsePermission t₁.left j p i s ↔ MayUsePermission t₂.left j p i s
    decided j p i s m = (
      λ x. record { reached = x.reached; may = (through j p i s m x.reached).0 x.may },
      λ x. record { reached = x.reached; may = (through j p i s m x.reached).1 x.may },
    )

    lowest : (j p i s : ℕ) → inside member j ≡ true → (a : Role) → LowestThrough t₁.left j p i s a ↔ LowestThrough t₂.left j p i s a
    lowest j p i s m a = (
      λ x. record { may = (through j p i s m a).0 x.may; none_lower = λ b l y. x.none_lower b l ((through j p i s m b).1 y) },
      λ x. record { may = (through j p i s m a).1 x.may; none_lower = λ b l y. x.none_lower b l ((through j p i s m b).0 y) },
    )

-- what reaches an issuer's role is an issuer's
issuer-below : {e : Graph} {a b : Role} → Numbered e → Reaches e a b → b.issuer < 16 → a.issuer < 16
issuer-below w itself l = l
issuer-below w (down {b} {c} p h) l = issuer-below w p (w b c h).0

pub only_members_reach : OnlyMembersReach
only_members_reach member h q a j r l m w = (below, sym (issuer's member a.issuer below) ∙ from)
  where
    n : initial_words ≡ encode nothing
    n = initial-is-nothing

    t : Twins member (encode nothing) (encode nothing) h (purge member h)
    t = twins member h nothing nothing (nothing_secure (inside member)) (nothing_secure (inside member)) (λ f o. refl) (rw n at q)

    st : State
    st = t.left

    S : Secure (inside member) st
    S = t.left_secure

    there : Reaches (attachments st) a (j # r)
    there = rw (n, t.left_is, view-encode t.left t.left_secure.lawful) at w

    below : a.issuer < 16
    below = issuer-below (attachments-numbered st S.lawful.numbered) there l

    from : inside member a.issuer ≡ true
    from = (from_inside (inside member) (carries (inside member) st st (upwards (inside member) refl st S) (λ f o. refl)) there (member_inside member j l m)).0
