-- The test for lawful words passes them, and no others.
use mathlib.Core.Path.{◌≡◌, refl, ap, sym, ◌∙◌}
use mathlib.Core.List.{List, [], ◌∷◌}
use mathlib.Core.Logic.{◌⊎◌, inl, inr}
use mathlib.Core.Bool.{Bool, true, false, not, ◌&&◌, ◌||◌}
use Prim.Native.Nat.{ℕ, ◌+◌, ◌*◌, ◌<◌}
use native.Mathlib.Omega.{arith}
use lib.Dec.{eqb, ltb}
use lib.ListN.{length, get_or}
use borrow.Author.Tests.{eqb-true, ltb-true, lt-ltb, eq-eqb, not-true}
use Rattle.bits.specs.Below.{all_below}
use Rattle.bits.specs.Bit.{bit}
use Rattle.bits.proofs.Booleans.{clash, untrue, and_left, and_right, and_intro, or_cases, or_left, or_right}
use Rattle.bits.proofs.Below.{all_intro, all_elim}
use Rattle.mtas.specs.Fact.{Fact, active, numbers, Below16}
use Rattle.mtas.specs.Needs.{needs}
use Rattle.mtas.specs.State.{State}
use Rattle.mtas.specs.Hierarchy.{Role, Graph, nth_role, reaches, Acyclic}
use Rattle.mtas.specs.Law.{In, here, there, attachments, Authorized, Lawful}
use Rattle.mtas.specs.Settle.{settle}
use Rattle.mtas.specs.Layout.{Word, session_user, Cell, sixteen, its_user, in_session, cell, Place, bit_of, user_in, bit_while, place, state_length, address, word_at, read, tells, view}
use Rattle.mtas.specs.LawTest.{LawfulWords, Fits, every_word, fits, said, all_of, has_needs, stays, no_circle, lawful_words}
use Rattle.mtas.proofs.Hierarchy.{Numbered as Linked-numbered, nth_role-of, reaches-sound, reaches-complete}
use Rattle.mtas.proofs.Authorized.{attachments-numbered}
use Rattle.mtas.proofs.Settle.{settle_reached, lawful_settled}
use Rattle.mtas.proofs.Address.{word_numbers, address_below, word_at-address}
use Rattle.mtas.proofs.Cells.{Says, said-there, PlaceNumbered, place-numbered}
use Rattle.mtas.proofs.Words.{view_says, view_numbered, view_opened, wide_everywhere}

ruleset conjuncts = (and_left, and_right)

-- ---- lists of facts
all_of_intro : (t : Fact → Bool) (l : List Fact) → ((f : Fact) → In f l → t f ≡ true) → all_of t l ≡ true
unfolding all_of
all_of_intro t [] h = refl
all_of_intro t (f ∷ l) h = rw (h f here, all_of) (all_of_intro t l (λ g m. h g (there m)))

first-and-rest : (a b : Bool) → elim a as (λ _. Bool) [ true ↦ b | false ↦ false ] ≡ true → (a ≡ true) × (b ≡ true)
first-and-rest true b h = (refl, h)
first-and-rest false b h = absurd (clash h refl)

all_of_elim : (t : Fact → Bool) {f : Fact} {l : List Fact} → In f l → all_of t l ≡ true → t f ≡ true
unfolding all_of
all_of_elim t {f} (here {l}) h = (first-and-rest (t f) (all_of t l) h).0
all_of_elim t (there {g} {l} m) h = all_of_elim t m (first-and-rest (t g) (all_of t l) h).1

has_needs_intro : (st : State) → Lawful st → (f : Fact) → has_needs st f ≡ true
unfolding has_needs
has_needs_intro st L f = go (st.stands f) refl
  where
    go : (b : Bool) → st.stands f ≡ b → has_needs st f ≡ true
    go true e = rw (e, has_needs) (all_of_intro (λ g. st.stands g) (needs f) (λ g m. L.supported f g e m))
    go false e = rw (e, has_needs)

has_needs_elim : (st : State) (f g : Fact) → has_needs st f ≡ true → st.stands f ≡ true → In g (needs f) → st.stands g ≡ true
unfolding has_needs
has_needs_elim st f g h e m = all_of_elim (λ x. st.stands x) m (rw (e, has_needs) at h)

-- ---- settling
stays_intro : (st : State) → Lawful st → (f : Fact) → stays st f ≡ true
unfolding stays
stays_intro st L f = go (st.stands f) refl
  where
    go : (b : Bool) → st.stands f ≡ b → stays st f ≡ true
    go true e = rw (e, stays) (ap (λ x. x.stands f) (lawful_settled st L) ∙ e)
    go false e = rw (e, stays)

stays_elim : (st : State) (f : Fact) → stays st f ≡ true → st.stands f ≡ true → (settle st).stands f ≡ true
unfolding stays
stays_elim st f h e = rw (e, stays) at h

-- ---- every fact that stands is said by a bit of a word
record SaidBy (ws : List ℕ) (f : Fact) : Type 0 where
  at : ℕ
  nth : ℕ
  inside : at < state_length
  low : nth < 16
  is : said ws (cell (word_at at)) nth ≡ f

said-by : (ws : List ℕ) (f : Fact) → (view ws).stands f ≡ true → SaidBy ws f
said-by ws f h = go (place f) (said-there f) ((place-numbered f).0 below) (sym (view_says ws f below) ∙ h)
  where
    below : Below16 (numbers f)
    below = view_numbered ws f h

    at_word : (w : Word) (n : ℕ) → Below16 (word_numbers w) → n < 16 → said ws (cell w) n ≡ f → SaidBy ws f
    at_word w n b l e = record { at = address w; nth = n; inside = address_below w b; low = l; is = ap (λ x. said ws (cell x) n) (word_at-address w b) ∙ e }

    go : (p : Place) → Says p f → PlaceNumbered p → tells ws p ≡ true → SaidBy ws f
    go (bit_of w n) (g, e, q) (b, l) t = at_word w n b l (ap (λ c. said ws c n) e ∙ sym q)
    go (user_in i s u) q (li, ls, lu) t = at_word (session_user i s) u (li, (ls, tt)) lu (sym q)
    go (bit_while i s u w n) (g, e, q, m) (li, ls, lu, b, l) t =
        let r = eqb-true (read ws (session_user i s)) u (and_left (eqb (read ws (session_user i s)) u) (bit (read ws w) n) t) in
        at_word w n b l (ap (λ c. said ws c n) e ∙ ap (λ x. g x n) r ∙ sym q)

-- ---- circles
no_circle-sound : (below : Graph) → Linked-numbered below → no_circle below ≡ true → Acyclic below
unfolding no_circle Acyclic
no_circle-sound below n h a b e p =
    let (ai, an, bi, bn) = n a b e in
    let t = all_elim 256 _ (all_elim 256 _ h (place_of a) (omega arith)) (place_of b) (omega arith) in
    let c = not-true _ (rw (nth_role-of a ai an, nth_role-of b bi bn) at t) in
    clash (and_intro (below a b) (reaches below b a) e (reaches-complete below n p)) c
  where
    place_of : Role → ℕ
    place_of x = x.issuer * 16 + x.number

no_circle-complete : (below : Graph) → Acyclic below → no_circle below ≡ true
unfolding no_circle Acyclic
no_circle-complete below ac =
    all_intro 256 _ (λ a _. all_intro 256 _ (λ b _. ap not (untrue _ (none (nth_role a) (nth_role b)))))
  where
    none : (a b : Role) → below a b && reaches below b a ≡ true → ⊥
    none a b e = ac a b (search conjuncts) (reaches-sound below b a (search conjuncts))

-- ---- the sorts of cell
fits-sound : (ws : List ℕ) (c : Cell) (x : ℕ) → fits ws c x ≡ true → Fits ws c x
fits-sound ws (sixteen f) x h = tt
fits-sound ws (its_user i s) x h = go (or_cases (ltb x 16) (eqb x 65535) h)
  where
    go : (ltb x 16 ≡ true) ⊎ (eqb x 65535 ≡ true) → (x < 16) ⊎ (x ≡ 65535)
    go (inl e) = inl (ltb-true x 16 e)
    go (inr e) = inr (eqb-true x 65535 e)
fits-sound ws (in_session i s f) x h = λ q. go q (or_cases (not (eqb (read ws (session_user i s)) 65535)) (eqb x 0) h)
  where
    go : read ws (session_user i s) ≡ 65535 → (not (eqb (read ws (session_user i s)) 65535) ≡ true) ⊎ (eqb x 0 ≡ true) → x ≡ 0
    go q (inl e) = absurd (clash (eq-eqb _ _ q) (not-true _ e))
    go q (inr e) = eqb-true x 0 e

fits-complete : (ws : List ℕ) (c : Cell) (x : ℕ) → Fits ws c x → fits ws c x ≡ true
fits-complete ws (sixteen f) x h = refl
fits-complete ws (its_user i s) x (inl l) = or_left (ltb x 16) (eqb x 65535) (lt-ltb x 16 l)
fits-complete ws (its_user i s) x (inr e) = or_right (ltb x 16) (eqb x 65535) (eq-eqb x 65535 e)
fits-complete ws (in_session i s f) x h = go (eqb (read ws (session_user i s)) 65535) refl
  where
    go : (b : Bool) → eqb (read ws (session_user i s)) 65535 ≡ b → not b || eqb x 0 ≡ true
    go true e = eq-eqb x 0 (h (eqb-true _ _ e))
    go false e = refl

-- ---- the whole test

-- of what words say, two conditions of the law hold by themselves
pub view-lawful : (ws : List ℕ) → ((f g : Fact) → (view ws).stands f ≡ true → In g (needs f) → (view ws).stands g ≡ true) → Acyclic (attachments (view ws))
    → ((i s u r : ℕ) → (view ws).stands (active i s u r) ≡ true → Authorized (view ws) (attachments (view ws)) i u r) → Lawful (view ws)
view-lawful ws s a r = record {
  supported = s;
  numbered = view_numbered ws;
  one_user = λ i s u v e f. sym (view_opened ws i s u e) ∙ view_opened ws i s v f;
  acyclic = a;
  reached = r;
}

pub lawful_words-sound : (ws : List ℕ) → lawful_words ws ≡ true → LawfulWords ws
unfolding lawful_words
lawful_words-sound ws h =
    let len = eqb-true (length ws) state_length (search conjuncts) in
    let bits : every_word ws (λ k x. ltb x 65536) ≡ true = search conjuncts in
    let sorts : every_word ws (λ k x. fits ws (cell (word_at k)) x) ≡ true = search conjuncts in
    let law : every_word ws (λ k x. all_below 16 (λ n. has_needs (view ws) (said ws (cell (word_at k)) n))) ≡ true = search conjuncts in
    let kept : every_word ws (λ k x. all_below 16 (λ n. stays (view ws) (said ws (cell (word_at k)) n))) ≡ true = search conjuncts in
    let round : no_circle (attachments (view ws)) ≡ true = search conjuncts in
    record {
      long = len;
      wide = wide_everywhere ws len (λ k l. ltb-true (get_or ws k 0) 65536 (all_elim state_length _ bits k l));
      fit = λ k l. fits-sound ws (cell (word_at k)) (get_or ws k 0) (all_elim state_length _ sorts k l);
      lawful = view-lawful ws
          (λ f g e m.
          let b = said-by ws f e in
          has_needs_elim (view ws) f g (rw b.is at (all_elim 16 _ (all_elim state_length _ law b.at b.inside) b.nth b.low)) e m)
          (no_circle-sound (attachments (view ws)) (attachments-numbered (view ws) (view_numbered ws)) round)
          (λ i s u r e.
          let b = said-by ws (active i s u r) e in
          settle_reached (view ws) i s u r (stays_elim (view ws) (active i s u r) (rw b.is at (all_elim 16 _ (all_elim state_length _ kept b.at b.inside) b.nth b.low)) e));
    }

pub lawful_words-complete : (ws : List ℕ) → LawfulWords ws → lawful_words ws ≡ true
unfolding lawful_words
lawful_words-complete ws h =
    let long = eq-eqb (length ws) state_length h.long in
    let bits : every_word ws (λ k x. ltb x 65536) ≡ true = all_intro state_length _ (λ k _. lt-ltb (get_or ws k 0) 65536 (h.wide k)) in
    let sorts : every_word ws (λ k x. fits ws (cell (word_at k)) x) ≡ true = all_intro state_length _ (λ k l. fits-complete ws (cell (word_at k)) (get_or ws k 0) (h.fit k l)) in
    let law : every_word ws (λ k x. all_below 16 (λ n. has_needs (view ws) (said ws (cell (word_at k)) n))) ≡ true =
    all_intro state_length _ (λ k _. all_intro 16 _ (λ n _. has_needs_intro (view ws) h.lawful _)) in
    let kept : every_word ws (λ k x. all_below 16 (λ n. stays (view ws) (said ws (cell (word_at k)) n))) ≡ true =
    all_intro state_length _ (λ k _. all_intro 16 _ (λ n _. stays_intro (view ws) h.lawful _)) in
    rw (long, bits, sorts, law, kept, no_circle-complete (attachments (view ws)) h.lawful.acyclic)
