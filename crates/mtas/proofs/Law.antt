-- The law is kept: by a cut that is settled always, and by a put of facts that are numbered and supported, open no session twice, close no circle and activate only what is reached.
use mathlib.Core.Path.{◌≡◌, refl, sym, ◌∙◌, subst}
use mathlib.Core.List.{List, [], ◌∷◌}
use mathlib.Core.Logic.{◌⊎◌, inl, inr}
use mathlib.Core.Bool.{true, false}
use Prim.Native.Nat.{ℕ}
use Rattle.bits.proofs.Booleans.{clash}
use Rattle.mtas.specs.Fact.{Fact, trusts, holds, granted, attached, opened, active, numbers, Below16}
use Rattle.mtas.specs.Needs.{needs}
use Rattle.mtas.specs.State.{State, nothing, put, cut}
use Rattle.mtas.specs.Hierarchy.{Role, ◌#◌, Reaches, Acyclic}
use Rattle.mtas.specs.Law.{In, here, there, attachments, Authorized, Lawful}
use Rattle.mtas.specs.Settle.{settle}
use Rattle.mtas.proofs.Facts.{All, all_in, roots_trans, in_one, put-old, put_cases, cut-old, cut-gone, cut-other}
use Rattle.mtas.proofs.Hierarchy.{fewer_acyclic, more_acyclic}
use Rattle.mtas.proofs.Authorized.{AllNumbered, more-authorized}
use Rattle.mtas.proofs.Settle.{settle_old, settle_need, settle_authorized, settle_reached}

-- starting is lawful
pub nothing_lawful : Lawful nothing
unfolding Acyclic
nothing_lawful = record {
  supported = λ f g h m. absurd (clash h refl);
  numbered = λ f h. absurd (clash h refl);
  one_user = λ i s u v h k. absurd (clash h refl);
  acyclic = λ a b h p. clash h refl;
  reached = λ i s u r h. absurd (clash h refl);
}

-- the law but for circles and reach, which a cut keeps by itself
pub record Rooted (st : State) : Type 0 where
  pub supported : (f g : Fact) → st.stands f ≡ true → In g (needs f) → st.stands g ≡ true
  pub numbered : AllNumbered st
  pub one_user : (i s u v : ℕ) → st.stands (opened i s u) ≡ true → st.stands (opened i s v) ≡ true → u ≡ v

pub rooted : {st : State} → Lawful st → Rooted st
rooted L = record { supported = L.supported; numbered = L.numbered; one_user = L.one_user }

module _ (st : State) (L : Lawful st) where
  -- a link needs trust of the role's, or senior's, owner in the other
  pub grant_trust : {j p i r : ℕ} → st.stands (granted j p i r) ≡ true → st.stands (trusts i j) ≡ true
  grant_trust {j} {p} {i} {r} h = L.supported (granted j p i r) (trusts i j) h (there (there (there here)))

  pub link_trust : {j q i r : ℕ} → st.stands (attached j q i r) ≡ true → st.stands (trusts i j) ≡ true
  link_trust {j} {q} {i} {r} h = L.supported (attached j q i r) (trusts i j) h (there (there (there here)))

  pub cut_rooted : (f : Fact) → Rooted (cut f st)
  cut_rooted f = record {
    supported = λ g n h m. cut-other f st n (λ k. clash h (cut-gone f st g (roots_trans g (there m) k))) ∙ L.supported g n (cut-old f st g h) m;
    numbered = λ g h. L.numbered g (cut-old f st g h);
    one_user = λ i s u v h k. L.one_user i s u v (cut-old f st (opened i s u) h) (cut-old f st (opened i s v) k);
  }

  -- what is left stood before
  pub left_old : (f g : Fact) → (settle (cut f st)).stands g ≡ true → st.stands g ≡ true
  left_old f g h = cut-old f st g (settle_old (cut f st) g h)

  pub cut_lawful : (f : Fact) → Lawful (settle (cut f st))
  cut_lawful f = record {
    supported = λ g n h m. settle_need (cut f st) g n m ∙ R.supported g n (settle_old (cut f st) g h) m;
    numbered = λ g h. L.numbered g (left_old f g h);
    one_user = λ i s u v h k. L.one_user i s u v (left_old f (opened i s u) h) (left_old f (opened i s v) k);
    acyclic = fewer_acyclic (λ a b h. left_old f (attached b.issuer b.number a.issuer a.number) h) L.acyclic;
    reached = λ i s u r h. settle_authorized (cut f st) (settle_reached (cut f st) i s u r h);
  }
    where
      R : Rooted (cut f st)
      R = cut_rooted f

  -- a put takes nobody's authority
  pub put_authorized : (l : List Fact) {i u r : ℕ} → Authorized st (attachments st) i u r → Authorized (put l st) (attachments (put l st)) i u r
  put_authorized l {i} {u} A =
      more-authorized (λ h e. put-old l st (holds i u h) e) (λ a b e. put-old l st (attached b.issuer b.number a.issuer a.number) e) A

  pub put_lawful : (l : List Fact)
      → ((f g : Fact) → In f l → In g (needs f) → (put l st).stands g ≡ true)
      → ((f : Fact) → In f l → Below16 (numbers f))
      → ((i s u v : ℕ) → In (opened i s u) l → (put l st).stands (opened i s v) ≡ true → u ≡ v)
      → Acyclic (attachments (put l st))
      → ((i s u r : ℕ) → In (active i s u r) l → Authorized (put l st) (attachments (put l st)) i u r)
      → Lawful (put l st)
  put_lawful l sup num one ac new = record {
    supported = λ f g h m. support f g m (put_cases l st f h);
    numbered = λ f h. small f (put_cases l st f h);
    one_user = λ i s u v h k. only i s u v h k (put_cases l st (opened i s u) h) (put_cases l st (opened i s v) k);
    acyclic = ac;
    reached = λ i s u r h. still i s u r (put_cases l st (active i s u r) h);
  }
    where
      support : (f g : Fact) → In g (needs f) → (In f l) ⊎ (st.stands f ≡ true) → (put l st).stands g ≡ true
      support f g m (inl k) = sup f g k m
      support f g m (inr k) = put-old l st g (L.supported f g k m)

      small : (f : Fact) → (In f l) ⊎ (st.stands f ≡ true) → Below16 (numbers f)
      small f (inl k) = num f k
      small f (inr k) = L.numbered f k

      only : (i s u v : ℕ) → (put l st).stands (opened i s u) ≡ true → (put l st).stands (opened i s v) ≡ true
          → (In (opened i s u) l) ⊎ (st.stands (opened i s u) ≡ true) → (In (opened i s v) l) ⊎ (st.stands (opened i s v) ≡ true) → u ≡ v
      only i s u v h k (inl x) y = one i s u v x k
      only i s u v h k (inr x) (inl y) = sym (one i s v u y h)
      only i s u v h k (inr x) (inr y) = L.one_user i s u v x y

      still : (i s u r : ℕ) → (In (active i s u r) l) ⊎ (st.stands (active i s u r) ≡ true) → Authorized (put l st) (attachments (put l st)) i u r
      still i s u r (inl k) = new i s u r k
      still i s u r (inr k) = put_authorized l (L.reached i s u r k)

  -- one fact more
  pub put_one_lawful : (f : Fact) → All (λ g. st.stands g ≡ true) (needs f) → Below16 (numbers f)
      → ((i s u v : ℕ) → f ≡ opened i s u → st.stands (opened i s v) ≡ false)
      → Acyclic (attachments (put (f ∷ []) st))
      → ((i s u r : ℕ) → f ≡ active i s u r → Authorized st (attachments st) i u r)
      → Lawful (put (f ∷ []) st)
  put_one_lawful f sup num one ac new =
      put_lawful (f ∷ [])
      (λ g n k m. put-old (f ∷ []) st n (all_in (λ x. st.stands x ≡ true) sup (subst (λ x. In n (needs x)) (sym (in_one k)) m)))
      (λ g k. subst (λ x. Below16 (numbers x)) (in_one k) num)
      (λ i s u v k h. again i s u v (in_one k) (put_cases (f ∷ []) st (opened i s v) h))
      ac
      (λ i s u r k. put_authorized (f ∷ []) (new i s u r (in_one k)))
    where
      again : (i s u v : ℕ) → f ≡ opened i s u → (In (opened i s v) (f ∷ [])) ⊎ (st.stands (opened i s v) ≡ true) → u ≡ v
      again i s u v e (inl k) = let q : f ≡ opened i s v = in_one k in cc
      again i s u v e (inr k) = absurd (clash k (one i s u v e))

  -- where no attachment is put, no circle closes
  pub put_acyclic : (l : List Fact) → ((j q i r : ℕ) → In (attached j q i r) l → ⊥) → Acyclic (attachments (put l st))
  put_acyclic l none =
      fewer_acyclic (λ a b h. old a b (put_cases l st (attached b.issuer b.number a.issuer a.number) h)) L.acyclic
    where
      old : (a b : Role) → (In (attached b.issuer b.number a.issuer a.number) l) ⊎ (attachments st a b ≡ true) → attachments st a b ≡ true
      old a b (inl k) = absurd (none b.issuer b.number a.issuer a.number k)
      old a b (inr k) = k

  -- where the junior doesn't reach the senior, an attachment closes none
  pub attach_acyclic : (j q i r : ℕ) → (Reaches (attachments st) (j # q) (i # r) → ⊥) → Acyclic (attachments (put (attached j q i r ∷ []) st))
  attach_acyclic j q i r clear =
      more_acyclic (attachments st) (attachments (put (attached j q i r ∷ []) st)) (i # r) (j # q)
      (λ a b h. new a b (put_cases (attached j q i r ∷ []) st (attached b.issuer b.number a.issuer a.number) h)) clear L.acyclic
    where
      new : (a b : Role) → (In (attached b.issuer b.number a.issuer a.number) (attached j q i r ∷ [])) ⊎ (attachments st a b ≡ true)
          → (attachments st a b ≡ true) ⊎ ((a ≡ i # r) × (b ≡ j # q))
      new a b (inr k) = inl k
      new a b (inl k) =
          let e : attached j q i r ≡ attached b.issuer b.number a.issuer a.number = in_one k in
          let e0 : b.issuer ≡ j = cc in
          let e1 : b.number ≡ q = cc in
          let e2 : a.issuer ≡ i = cc in
          let e3 : a.number ≡ r = cc in
          inr ((λ t. e2 t # e3 t), (λ t. e0 t # e1 t))
