-- A fact written at its place is put: words that hold a state hold then the state with it.
use Rattle.std.proofs.Common.{◌≡◌, refl, ap, sym, subst, ◌∙◌, ◌⊎◌, inl, inr, true, false, ◌||◌, List, [], ◌∷◌, ℕ, ◌^◌, ◌<◌, arith, eqb, length, get_or, set, length-set, get_or-set_same, get_or-set_other, eq-eqb, ne_eqb, Option}
use mathlib.Core.Bool.{or-false}
use native.Mathlib.Decide.{ℕ_discrete}
use lib.Bits.{or_lt}
use lib.Pow.{pow-lt}
use Rattle.bits.specs.Bit.{bit, with_bit}
use Rattle.bits.proofs.Bit.{bit_with, bit-pack, pack-of, pack_ext, pack-lt}
use Rattle.bits.proofs.Booleans.{or_right, clash}
use Rattle.bits.proofs.Below.{find_ext}
use Rattle.mtas.specs.Fact.{Fact, opened, numbers, Below16}
use Rattle.mtas.specs.State.{State, packed, put, user_of}
use Rattle.mtas.specs.Law.{In, here}
use Rattle.mtas.specs.Layout.{Word, session_user, Cell, sixteen, its_user, in_session, cell, Place, bit_of, user_in, bit_while, place, state_length, address, word_at, contents, read}
use Rattle.mtas.proofs.Address.{word_numbers, address_below, word_at-address}
use Rattle.mtas.proofs.Cells.{Says, said-there, Placed, placed, PlaceNumbered, place-numbered}
use Rattle.mtas.proofs.Facts.{in_one, put-new, put_cases, put_other, none_above_15}
use Rattle.mtas.proofs.Sessions.{user_finds}
use Rattle.facts.specs.declared.Place.{Place as CodePlace}
use Rattle.facts.specs.Table.{spot, unless, place_of}
use Rattle.effects.specs.Put.{written, written_if, Put}

-- the words ws hold the state st
pub record Hold (st : State) (ws : List ℕ) : Type 0 where
  pub long : length ws ≡ state_length
  pub each : (w : Word) → Below16 (word_numbers w) → read ws w ≡ contents st (cell w)

-- what a place asks: a session is opened where it is closed, and nothing is said of a user of it; the session's user is the place's
abbrev pub Ready : State → Place → Type 0
Ready st (bit_of w n) = Unit
Ready st (user_in i s u) =
    ((v : ℕ) → st.stands (opened i s v) ≡ false)
    × ((w : Word) (g : ℕ → ℕ → Fact) → cell w ≡ in_session i s g → (v n : ℕ) → st.stands (g v n) ≡ false)
Ready st (bit_while i s u w n) = user_of st i s ≡ u

module _ (st : State) (f : Fact) where
  abbrev more : State
  more = put (f ∷ []) st

  other : (g : Fact) → (g ≡ f → ⊥) → more.stands g ≡ st.stands g
  other g n = put_other (f ∷ []) st g (λ m. n (sym (in_one m)))

  -- a cell that doesn't say f is unchanged
  abbrev Without : Cell → Type 0
  Without (sixteen g) = (n : ℕ) → g n ≡ f → ⊥
  Without (its_user i s) = (u : ℕ) → opened i s u ≡ f → ⊥
  Without (in_session i s g) = ((u : ℕ) → opened i s u ≡ f → ⊥) × ((u n : ℕ) → g u n ≡ f → ⊥)

  same_user : (i s : ℕ) → ((u : ℕ) → opened i s u ≡ f → ⊥) → user_of more i s ≡ user_of st i s
  same_user i s h = find_ext 16 (λ u. more.stands (opened i s u)) (λ u. st.stands (opened i s u)) 65535 (λ u. other (opened i s u) (h u))

  same_pack : (g : ℕ → Fact) → ((n : ℕ) → g n ≡ f → ⊥) → packed more g ≡ packed st g
  same_pack g h = pack_ext 16 (λ n. more.stands (g n)) (λ n. st.stands (g n)) (λ n _. other (g n) (h n))

  unchanged : (c : Cell) → Without c → contents more c ≡ contents st c
  unchanged (sixteen g) h = same_pack g h
  unchanged (its_user i s) h = same_user i s h
  unchanged (in_session i s g) (h, k) = same_pack (g (user_of more i s)) (k (user_of more i s)) ∙ ap (λ u. packed st (g u)) (same_user i s h)

  -- one bit more
  with_one : (g : ℕ → Fact) (m : ℕ) → m < 16 → g m ≡ f → ((n : ℕ) → g n ≡ f → n ≡ m) → packed more g ≡ with_bit (packed st g) m
  unfolding with_bit
  with_one g m l e only =
      pack-of 16 (with_bit (packed st g) m) (λ n. more.stands (g n)) (or_lt 16 (packed st g) (2 ^ m) (pack-lt 16 _) (pow-lt l))
      (λ n k. go n k (ℕ_discrete n m) ∙ sym (bit_with (packed st g) m n))
    where
      go : (n : ℕ) → n < 16 → Dec (n ≡ m) → more.stands (g n) ≡ bit (packed st g) n || eqb m n
      go n k (yes q) = put-new (f ∷ []) st (subst (λ x. In x (f ∷ [])) (sym (ap g q ∙ e)) here) ∙ sym (or_right (bit (packed st g) n) (eqb m n) (eq-eqb m n (sym q)))
      go n k (no d) =
          other (g n) (λ h. d (only n h)) ∙ sym (bit-pack 16 (λ j. st.stands (g j)) n k)
          ∙ sym (ap (λ b. bit (packed st g) n || b) (ne_eqb m n (λ q. d (sym q))) ∙ or-false (bit (packed st g) n))

  -- the user of a session that was closed
  opened_user : (i s u : ℕ) → u < 16 → f ≡ opened i s u → ((v : ℕ) → st.stands (opened i s v) ≡ false) → user_of more i s ≡ u
  opened_user i s u l e none = only (user_of more i s) (user_finds more i s u l (put-new (f ∷ []) st (subst (λ x. In x (f ∷ [])) e here)))
    where
      only : (v : ℕ) → more.stands (opened i s v) ≡ true → v ≡ u
      only v h = go (put_cases (f ∷ []) st (opened i s v) h)
        where
          go : (In (opened i s v) (f ∷ [])) ⊎ (st.stands (opened i s v) ≡ true) → v ≡ u
          go (inl m) = let q : opened i s u ≡ opened i s v = sym e ∙ in_one m in cc
          go (inr k) = absurd (clash k (none v))

-- two words at one address are one
same_word : (v w : Word) → Below16 (word_numbers v) → Below16 (word_numbers w) → address w ≡ address v → w ≡ v
same_word v w b c e = sym (word_at-address w c) ∙ ap word_at e ∙ word_at-address v b

-- places of two sorts are two
abbrev sort : Place → ℕ
sort (bit_of w n) = 0
sort (user_in i s u) = 1
sort (bit_while i s u w n) = 2

sorts : {p q : Place} → eqb (sort p) (sort q) ≡ false → p ≡ q → ⊥
sorts {p} {q} h e = clash (eq-eqb (sort p) (sort q) (ap sort e)) h

module _ {st : State} {ws : List ℕ} (H : Hold st ws) (f : Fact) where
  abbrev after : State
  after = put (f ∷ []) st

  -- one word written anew
  stored : (v : Word) → Below16 (word_numbers v) → {x : ℕ} → x ≡ contents after (cell v)
      → ((w : Word) → Below16 (word_numbers w) → (w ≡ v → ⊥) → contents after (cell w) ≡ contents st (cell w)) → Hold after (set ws (address v) x)
  stored v b {x} now apart = record { long = simp length-set H.long; each = λ w c. go w c (ℕ_discrete (address w) (address v)) }
    where
      go : (w : Word) → Below16 (word_numbers w) → Dec (address w ≡ address v) → read (set ws (address v) x) w ≡ contents after (cell w)
      go w c (yes e) =
          ap (λ k. get_or (set ws (address v) x) k 0) e ∙ get_or-set_same ws (address v) x 0 (rw H.long (address_below v b)) ∙ now
          ∙ ap (λ y. contents after (cell y)) (sym (same_word v w b c e))
      go w c (no n) = get_or-set_other ws (address v) (address w) x 0 n ∙ H.each w c ∙ sym (apart w c (λ e. n (ap address e)))

  -- a word says no fact whose place is of another sort, or elsewhere
  record Elsewhere (w : Word) : Type 0 where
    no_bit : (n : ℕ) → place f ≡ bit_of w n → ⊥
    no_user : (i s u : ℕ) → cell w ≡ its_user i s → place f ≡ user_in i s u → ⊥
    no_bit_while : (i s u n : ℕ) → place f ≡ bit_while i s u w n → ⊥
    no_session : (i s u : ℕ) (g : ℕ → ℕ → Fact) → cell w ≡ in_session i s g → place f ≡ user_in i s u → ⊥

  elsewhere : (w : Word) → Elsewhere w → contents after (cell w) ≡ contents st (cell w)
  elsewhere w E = go (cell w) refl (placed w)
    where
      go : (c : Cell) → cell w ≡ c → Placed w c → contents after c ≡ contents st c
      go (sixteen g) e p = unchanged st f (sixteen g) (λ n h. E.no_bit n (sym (ap place h) ∙ p n))
      go (its_user i s) e p = unchanged st f (its_user i s) (λ u h. E.no_user i s u e (sym (ap place h)))
      go (in_session i s g) e p = unchanged st f (in_session i s g) ((λ u h. E.no_session i s u g e (sym (ap place h))), λ u n h. E.no_bit_while i s u n (sym (ap place h) ∙ p.0 u n))

  holds_more : Below16 (numbers f) → Ready st (place f) → Hold after (written ws (spot (place f)))
  holds_more below r = go (place f) refl (said-there f) ((place-numbered f).0 below) r
    where
      go : (p : Place) → place f ≡ p → Says p f → PlaceNumbered p → Ready st p → Hold after (written ws (spot p))
      go (bit_of v m) q (g, e, d) (b, l) r =
          stored v b (ap (λ x. with_bit x m) (H.each v b ∙ ap (contents st) e) ∙ sym (with_one st f g m l (sym d) only) ∙ ap (contents after) (sym e))
          (λ w c n. elsewhere w (record {
            no_bit = λ k h. n (let z : bit_of w k ≡ bit_of v m = sym h ∙ q in cc);
            no_user = λ i s u _ h. sorts refl (sym h ∙ q);
            no_bit_while = λ i s u k h. sorts refl (sym h ∙ q);
            no_session = λ i s u _ _ h. sorts refl (sym h ∙ q);
          }))
        where
          only : (n : ℕ) → g n ≡ f → n ≡ m
          only n h = let z : bit_of v n ≡ bit_of v m = sym (rw e at (placed v) n) ∙ ap place h ∙ q in cc
      go (user_in i s u) q d (li, ls, lu) (none, idle) =
          stored (session_user i s) (li, (ls, tt)) (sym (opened_user st f i s u lu d none)) (λ w c n. by w c n (cell w) refl (placed w))
        where
          elsewhere_than : (w : Word) → (w ≡ session_user i s → ⊥) → ((g : ℕ → ℕ → Fact) → cell w ≡ in_session i s g → ⊥) → Elsewhere w
          elsewhere_than w n k = record {
            no_bit = λ m h. sorts refl (sym h ∙ q);
            no_user = λ j t v e h. n (let z : user_in j t v ≡ user_in i s u = sym h ∙ q in let a : j ≡ i = cc in let b : t ≡ s = cc in rw (e, a, b) at (placed w));
            no_bit_while = λ j t v m h. sorts refl (sym h ∙ q);
            no_session = λ j t v g e h. k g (let z : user_in j t v ≡ user_in i s u = sym h ∙ q in let a : j ≡ i = cc in let b : t ≡ s = cc in rw (a, b) at e);
          }

          same_session : (w : Word) (g : ℕ → ℕ → Fact) → cell w ≡ in_session i s g → contents after (in_session i s g) ≡ contents st (in_session i s g)
          same_session w g e =
              pack_ext 16 (λ n. after.stands (g (user_of after i s) n)) (λ n. st.stands (g (user_of st i s) n))
              (λ n _. other st f (g (user_of after i s) n) (λ h. sorts refl (sym ((rw e at (placed w)).0 (user_of after i s) n) ∙ ap place h ∙ q)) ∙ idle w g e (user_of after i s) n ∙ sym (idle w g e (user_of st i s) n))

          by : (w : Word) → Below16 (word_numbers w) → (w ≡ session_user i s → ⊥) → (c : Cell) → cell w ≡ c → Placed w c → contents after (cell w) ≡ contents st (cell w)
          by w b n (sixteen g) e p = elsewhere w (elsewhere_than w n (λ h d. let z : ◌≡◌ {A = ℕ} 0 1 = cc in absurd (omega arith)))
          by w b n (its_user j t) e p = elsewhere w (elsewhere_than w n (λ h d. let z : ◌≡◌ {A = ℕ} 0 1 = cc in absurd (omega arith)))
          by w b n (in_session j t g) e p = here_or_not (ℕ_discrete j i) (ℕ_discrete t s)
            where
              here_or_not : Dec (j ≡ i) → Dec (t ≡ s) → contents after (cell w) ≡ contents st (cell w)
              here_or_not (yes a) (yes k) = let d : cell w ≡ in_session i s g = rw (a, k) at e in rw d (same_session w g d)
              here_or_not (no a) k = elsewhere w (elsewhere_than w n (λ h d. a (cc)))
              here_or_not (yes a) (no k) = elsewhere w (elsewhere_than w n (λ h d. k (cc)))
      go (bit_while i s u v m) q (g, e, d, _) (li, ls, lu, b, l) r =
          stored v b (ap (λ x. with_bit x m) (H.each v b ∙ ap (contents st) e ∙ ap (λ x. packed st (g x)) r) ∙ sym (with_one st f (g u) m l (sym d) only) ∙ ap (λ x. packed after (g x)) (sym its) ∙ ap (contents after) (sym e))
          (λ w c n. elsewhere w (record {
            no_bit = λ k h. sorts refl (sym h ∙ q);
            no_user = λ j t x _ h. sorts refl (sym h ∙ q);
            no_bit_while = λ j t x k h. n (let z : bit_while j t x w k ≡ bit_while i s u v m = sym h ∙ q in cc);
            no_session = λ j t x _ _ h. sorts refl (sym h ∙ q);
          }))
        where
          its : user_of after i s ≡ u
          its = same_user st f i s (λ x h. sorts refl (ap place h ∙ q)) ∙ r

          only : (n : ℕ) → g u n ≡ f → n ≡ m
          only n h = let z : bit_while i s u v n ≡ bit_while i s u v m = sym ((rw e at (placed v)).0 u n) ∙ ap place h ∙ q in cc

-- the same of what the function that puts a fact spares
pub put_holds : {st : State} {ws vs : List ℕ} {f : Fact} → Hold st ws → Below16 (numbers f) → Ready st (place f) → Put f ws vs → Hold (put (f ∷ []) st) vs
unfolding place_of
put_holds {ws = ws} {f = f} H b r p = rw (p.words ∙ ap (λ x. written_if ws (unless x (spot (place f)))) (none_above_15 (numbers f) b)) (holds_more H f b r)

pub has_put : {ws vs : List ℕ} {f : Fact} {o p : Option CodePlace} → o ≡ place_of f → o ≡ p → vs ≡ written_if ws p → Put f ws vs
has_put {ws} is d h = record { words = h ∙ ap (written_if ws) (sym d ∙ is) }
