-- The unwinding's second half: in two secure states that agree, a call from inside gets one answer and leaves them agreeing.
use mathlib.Core.Path.{◌≡◌, refl, ap, sym, ◌∙◌, fun_ext}
use mathlib.Core.Bool.{Bool, true, false, ◌&&◌}
use Prim.Native.Nat.{ℕ}
use Rattle.bits.proofs.Below.{any_ext, find_ext}
use Rattle.mtas.specs.Fact.{enrolled, trusts, role, public, granted, opened, active}
use Rattle.mtas.specs.State.{State, cut, user_of}
use Rattle.mtas.specs.Hierarchy.{Role, ◌#◌, Graph, reaches}
use Rattle.mtas.specs.Law.{attachments, holders_of}
use Rattle.mtas.specs.Call.{Call}
use Rattle.mtas.specs.Rule.{Effect, puts, cuts, decides, rule}
use Rattle.mtas.specs.Answer.{accepts, Outcome, accepted, refused, outcome, may_use_through, lowest_role, lookup, found, change, reply, after, answer, next}
use Rattle.mtas.proofs.Hierarchy.{reaches-sound}
use Rattle.mtas.proofs.Facts.{put_agree, cut_agree}
use Rattle.mtas.proofs.Authorized.{attachments-numbered}
use Rattle.mtas.proofs.Law.{grant_trust, cut_rooted}
use Rattle.mtas.proofs.Walks.{Twin, from_inside, reaches_same}
use Rattle.mtas.proofs.Alike.{SeenAlike, row_alike, outcome_alike}
use Rattle.mtas.proofs.Isolation.{Secure, Agree, carries, authorized_same, settle_agree, trust_inside, trustor_inside, upwards, cut_upwards}

module _ (inside : ℕ → Bool) (op : inside 16 ≡ true) where
  module _ (st st' : State) (S : Secure inside st) (S' : Secure inside st') (A : Agree inside st st') where
    pub user_same : (i s : ℕ) → inside i ≡ true → user_of st i s ≡ user_of st' i s
    user_same i s h = find_ext 16 (λ u. st.stands (opened i s u)) (λ u. st'.stands (opened i s u)) 65535 (λ u. A (opened i s u) h)

  module _ (st st' : State) (S : Secure inside st) (S' : Secure inside st') (A : Agree inside st st') where
    abbrev A' : Agree inside st' st
    A' f o = sym (A f o)

    -- what leads to a member's role or permission comes from inside, by links that stand in members' names
    twin : (j p : ℕ) → inside j ≡ true → Twin inside (attachments st) (attachments st') (holders_of st j p) (holders_of st' j p)
    twin j p h = record {
      there = carries inside st st' (upwards inside op st S) A;
      back = carries inside st' st (upwards inside op st' S') A';
      numbered = attachments-numbered st S.lawful.numbered;
      numbered' = attachments-numbered st' S'.lawful.numbered;
      same = λ b. A (granted j p b.issuer b.number) h;
      only_inside = λ b g. trustor_inside inside op st S b.issuer j (grant_trust st S.lawful g) h;
    }

    -- the roles through which a session may use it are the same: what reaches an inside role is inside
    through_same : {e e' : Graph} {t t' : Role → Bool} → Twin inside e e' t t' → (i s : ℕ) (b : Role) → may_use_through st e t i s b ≡ may_use_through st' e' t' i s b
    unfolding may_use_through
    through_same {e} {e'} {t} {t'} T i s b = go (t b) refl
      where
        on : State → ℕ → Bool
        on x r = x.stands (active i s (user_of x i s) r)

        each : inside b.issuer ≡ true → (r : ℕ) → (on st r && reaches e (i # r) b) ≡ (on st' r && reaches e' (i # r) b)
        each h r = by (reaches e (i # r) b) refl
          where
            q : reaches e (i # r) b ≡ reaches e' (i # r) b
            q = reaches_same inside T.there T.back T.numbered T.numbered' (i # r) b h

            never : (x y : Bool) {z w : Bool} → z ≡ false → w ≡ false → (x && z) ≡ (y && w)
            never true true m n = m ∙ sym n
            never true false m n = m
            never false true m n = sym n
            never false false m n = refl

            by : (x : Bool) → reaches e (i # r) b ≡ x → (on st r && reaches e (i # r) b) ≡ (on st' r && reaches e' (i # r) b)
            by true k =
                let o = (from_inside inside T.there (reaches-sound e (i # r) b k) h).0 in
                let u = user_same st st' S S' A i s o in
                let m = A (active i s (user_of st i s) r) o in
                cc q
            by false k = never (on st r) (on st' r) k (sym q ∙ k)

        go : (x : Bool) → t b ≡ x → may_use_through st e t i s b ≡ may_use_through st' e' t' i s b
        go true h =
            let k = T.same b in
            let q = any_ext 16 (λ r. on st r && reaches e (i # r) b) (λ r. on st' r && reaches e' (i # r) b) (each (T.only_inside b h)) in
            cc
        go false h = let k = T.same b in cc

    pub test_same : (j p i s : ℕ) → inside j ≡ true → (b : Role)
        → may_use_through st (attachments st) (holders_of st j p) i s b ≡ may_use_through st' (attachments st') (holders_of st' j p) i s b
    test_same j p i s h = through_same (twin j p h) i s

    lookup_same : (j p i s : ℕ) → inside j ≡ true → lookup st j p i s ≡ lookup st' j p i s
    unfolding lookup
    lookup_same j p i s h = ap lowest_role (fun_ext (test_same j p i s h))

    -- trust in a member, also an outsider's: there is none
    trust_same : (i c : ℕ) → inside c ≡ true → st.stands (trusts i c) ≡ st'.stands (trusts i c)
    trust_same i c h = go (inside i) refl
      where
        go : (b : Bool) → inside i ≡ b → st.stands (trusts i c) ≡ st'.stands (trusts i c)
        go true e = A (trusts i c) (trust_inside inside op i c e)
        go false e = S.apart i c e h ∙ sym (S'.apart i c e h)

    module _ (c : ℕ) (k : Call) (h : inside c ≡ true) where
      -- a caller inside sees enrolments, what is controlled inside, and the roles of those who trust it, who are inside
      alike : SeenAlike st st' c
      alike = record {
        of_enrolment = λ i. A (enrolled i) op;
        of_own = λ f e. A f (rw e h);
        of_its_trust = λ j. A (trusts c j) (trust_inside inside op c j h);
        of_trust_in_it = λ i. trust_same i c h;
        of_roles = λ i r t. A (role i r) (trustor_inside inside op st S i c t h);
        of_public = λ i r t. A (public i r) (trustor_inside inside op st S i c t h);
        of_reach = λ q i r t.
            reaches_same inside (carries inside st st' (upwards inside op st S) A) (carries inside st' st (upwards inside op st' S') A') (attachments-numbered st S.lawful.numbered) (attachments-numbered st' S'.lawful.numbered) (c # q) (i # r)
            (trustor_inside inside op st S i c t h);
        of_authorized = λ u r. authorized_same inside st st' S.lawful.numbered S'.lawful.numbered (upwards inside op st S) (upwards inside op st' S') A c u r h;
      }

      found_same : (e : Effect) → found st c e ≡ found st' c e
      found_same (puts l) = refl
      found_same (cuts f) = refl
      found_same (decides p i s) = lookup_same c p i s h

      reply_same : (e : Effect) (o : Outcome) → reply st c e o ≡ reply st' c e o
      reply_same e accepted = ap accepts (found_same e)
      reply_same e (refused n) = refl

      pub answer_same : answer st c k ≡ answer st' c k
      unfolding answer
      answer_same = let r = row_alike st st' c alike k in let o = outcome_alike st st' c alike k in let q = reply_same (rule (user_of st c) c k).effect (outcome st c k) in cc

      change_same : (e : Effect) → Agree inside (change e st) (change e st')
      change_same (puts l) = λ f o. put_agree l st st' f (A f o)
      change_same (cuts x) =
          settle_agree inside (cut x st) (cut x st') (cut_rooted st S.lawful x).numbered (cut_rooted st' S'.lawful x).numbered
          (cut_upwards inside op st S x) (cut_upwards inside op st' S' x) (λ f o. cut_agree x st st' f (A f o))
      change_same (decides p i s) = A

      after_same : (e : Effect) (o : Outcome) → Agree inside (after st e o) (after st' e o)
      after_same e accepted = change_same e
      after_same e (refused n) = A

      pub next_agrees : Agree inside (next st c k) (next st' c k)
      unfolding next
      next_agrees f o = let r = row_alike st st' c alike k in let x = outcome_alike st st' c alike k in let q = after_same (rule (user_of st c) c k).effect (outcome st c k) f o in cc
