-- States and words, by the sorts of cell: a lawful state is what its words say, and lawful words are those of the state that they say.
use mathlib.Core.Path.{◌≡◌, refl, ap, sym, ◌∙◌}
use mathlib.Core.List.{List}
use mathlib.Core.Logic.{◌⊎◌, inl, inr}
use mathlib.Core.Bool.{Bool, true, false, ◌&&◌}
use Prim.Native.Nat.{ℕ, ◌<◌, ◌≤◌}
use native.Mathlib.Omega.{arith}
use lib.Dec.{eqb}
use lib.ListN.{length, get_or, get_or-eq_default}
use lib.Seq.{ext_get_or}
use borrow.Author.Tests.{eqb-true, eq-eqb}
use Rattle.bits.specs.Bit.{bit}
use Rattle.bits.proofs.Booleans.{clash, untrue, same_test, below_or_not}
use Rattle.bits.proofs.Below.{length-tabulate, get_d_tabulate}
use Rattle.bits.proofs.Bit.{bit_0, bit-pack, pack-of, pack-lt}
use Rattle.mtas.specs.Fact.{Fact, opened, numbers, above_15, Below16}
use Rattle.mtas.specs.State.{State, user_of}
use Rattle.mtas.specs.Law.{Lawful}
use Rattle.mtas.specs.Layout.{Word, session_user, Cell, sixteen, its_user, in_session, cell, Place, bit_of, user_in, bit_while, place, state_length, address, word_at, contents, encode, read, tells, says, view}
use Rattle.mtas.specs.LawTest.{Fits, LawfulWords}
use Rattle.mtas.proofs.Facts.{below_16, none_above_15}
use Rattle.mtas.proofs.Law.{Rooted, rooted}
use Rattle.mtas.proofs.Sessions.{user_cases, user_passes, user_finds, user_is}
use Rattle.mtas.proofs.Address.{word_numbers, address_below, word_at-address, address-word_at, word_at-numbered}
use Rattle.mtas.proofs.Cells.{Says, said-there, Placed, placed, PlaceNumbered, place-numbered}

-- ---- the words of a state
module _ (st : State) where
  pub encode_length : length (encode st) ≡ state_length
  unfolding encode
  encode_length = length-tabulate state_length (λ k. contents st (cell (word_at k)))

  pub encode_at : (k : ℕ) → k < state_length → get_or (encode st) k 0 ≡ contents st (cell (word_at k))
  unfolding encode
  encode_at k l = get_d_tabulate state_length (λ j. contents st (cell (word_at j))) k l

  pub read_encode : (w : Word) → Below16 (word_numbers w) → read (encode st) w ≡ contents st (cell w)
  read_encode w h = encode_at (address w) (address_below w h) ∙ ap (λ x. contents st (cell x)) (word_at-address w h)

  -- a list of the state's length that holds each word's contents is the state's
  pub words_of : (ws : List ℕ) → length ws ≡ state_length → ((w : Word) → Below16 (word_numbers w) → read ws w ≡ contents st (cell w)) → ws ≡ encode st
  words_of ws long h = ext_get_or 0 ws (encode st) (long ∙ sym encode_length) (λ k l. at k (rw long at l))
    where
      at : (k : ℕ) → k < state_length → get_or ws k 0 ≡ get_or (encode st) k 0
      at k l = ap (λ a. get_or ws a 0) (sym (address-word_at k l)) ∙ h (word_at k) (word_at-numbered k l) ∙ sym (encode_at k l)

  contents_below : (c : Cell) → contents st c < 65536
  contents_below (sixteen f) = pack-lt 16 _
  contents_below (its_user i s) = go (user_cases st i s)
    where
      go : (user_of st i s < 16) ⊎ (user_of st i s ≡ 65535) → user_of st i s < 65536
      go (inl a) = omega arith
      go (inr a) = omega arith
  contents_below (in_session i s f) = pack-lt 16 _

-- ---- what words say
module _ (ws : List ℕ) where
  pub view_says : (f : Fact) → Below16 (numbers f) → (view ws).stands f ≡ says ws f
  unfolding view
  view_says f h = rw (none_above_15 (numbers f) h, view)

  pub view_numbered : (f : Fact) → (view ws).stands f ≡ true → Below16 (numbers f)
  unfolding view
  view_numbered f h = go (above_15 (numbers f)) refl
    where
      go : (b : Bool) → above_15 (numbers f) ≡ b → Below16 (numbers f)
      go true e = absurd (clash (rw (e, view) at h) refl)
      go false e = below_16 (numbers f) e

  -- the word of an open session is its user
  pub view_opened : (i s u : ℕ) → (view ws).stands (opened i s u) ≡ true → read ws (session_user i s) ≡ u
  view_opened i s u h = eqb-true (read ws (session_user i s)) u (sym (view_says (opened i s u) (view_numbered (opened i s u) h)) ∙ h)

-- ---- a lawful state is what its words say, and so is one that was cut and isn't settled yet
module _ (st : State) (R : Rooted st) where
  says_encode : (f : Fact) → Below16 (numbers f) → says (encode st) f ≡ st.stands f
  says_encode f h = go (place f) (said-there f) ((place-numbered f).0 h)
    where
      go : (p : Place) → Says p f → PlaceNumbered p → tells (encode st) p ≡ st.stands f
      go (bit_of w n) (g, e, q) (b, l) = ap (λ x. bit x n) (read_encode st w b ∙ ap (contents st) e) ∙ bit-pack 16 (λ k. st.stands (g k)) n l ∙ ap (λ x. st.stands x) (sym q)
      go (user_in i s u) q (li, ls, lu) =
          rw (q, read_encode st (session_user i s) (omega arith))
          (same_test _ _ (λ e. let q = eqb-true (user_of st i s) u e in rw q at (user_passes st i s (omega arith))) (λ e. eq-eqb (user_of st i s) u (user_is st R i s u e)))
      go (bit_while i s u w n) (g, e, q, m) (li, ls, lu, b, l) =
          rw (q, read_encode st (session_user i s) (omega arith), read_encode st w b ∙ ap (contents st) e, bit-pack 16 (λ k. st.stands (g (user_of st i s) k)) n l)
          (by (eqb (user_of st i s) u) refl)
        where
          by : (t : Bool) → eqb (user_of st i s) u ≡ t → t && st.stands (g (user_of st i s) n) ≡ st.stands (g u n)
          by true t = ap (λ x. st.stands (g x n)) (eqb-true (user_of st i s) u t)
          by false t = sym (untrue _ (λ a. clash (eq-eqb (user_of st i s) u (user_is st R i s u (R.supported (g u n) (opened i s u) a (rw q at m)))) t))

  pub view_rooted : view (encode st) ≡ st
  view_rooted = λ t. record { stands = λ f. agree f t }
    where
      stands_same : (f : Fact) → Below16 (numbers f) → (view (encode st)).stands f ≡ st.stands f
      stands_same f h = view_says (encode st) f h ∙ says_encode f h

      agree : (f : Fact) → (view (encode st)).stands f ≡ st.stands f
      agree f = same_test _ _ (λ e. sym (stands_same f (view_numbered (encode st) f e)) ∙ e) (λ e. stands_same f (R.numbered f e) ∙ e)

pub view-encode : (st : State) → Lawful st → view (encode st) ≡ st
view-encode st L = view_rooted st (rooted L)

-- ---- lawful words are those of the state that they say

-- words of sixteen bits, each one that its sort may be
pub record Sound (ws : List ℕ) : Type 0 where
  pub wide : (k : ℕ) → get_or ws k 0 < 65536
  pub fit : (k : ℕ) → k < state_length → Fits ws (cell (word_at k)) (get_or ws k 0)

pub sound-words : {ws : List ℕ} → LawfulWords ws → Sound ws
sound-words W = record { wide = W.wide; fit = W.fit }

module _ (ws : List ℕ) (S : Sound ws) where
  pub word_fits : (w : Word) → Below16 (word_numbers w) → Fits ws (cell w) (read ws w)
  word_fits w h = rw (word_at-address w h) at (S.fit (address w) (address_below w h))

  user_view : (i s : ℕ) → i < 16 → s < 16 → read ws (session_user i s) ≡ user_of (view ws) i s
  user_view i s li ls = go (word_fits (session_user i s) (omega arith)) (user_cases (view ws) i s)
    where
      w : ℕ
      w = read ws (session_user i s)

      u : ℕ
      u = user_of (view ws) i s

      go : (w < 16) ⊎ (w ≡ 65535) → (u < 16) ⊎ (u ≡ 65535) → w ≡ u
      go (inl a) b = view_opened ws i s u (user_finds (view ws) i s w a (view_says ws (opened i s w) (omega arith) ∙ eq-eqb w w refl))
      go (inr a) (inl b) = view_opened ws i s u (user_passes (view ws) i s b)
      go (inr a) (inr b) = a ∙ sym b

  pub contents_view : (w : Word) → Below16 (word_numbers w) → contents (view ws) (cell w) ≡ read ws w
  contents_view w h = go (cell w) (placed w) (word_fits w h)
    where
      go : (c : Cell) → Placed w c → Fits ws c (read ws w) → contents (view ws) c ≡ read ws w
      go (sixteen f) p t =
          pack-of 16 (read ws w) (λ n. (view ws).stands (f n)) (S.wide (address w))
          (λ n l. view_says ws (f n) ((place-numbered (f n)).1 (rw (p n) (h, l))) ∙ ap (tells ws) (p n))
      go (its_user i s) p t = let b = rw p at h in sym (user_view i s b.0 b.1.0) ∙ ap (read ws) (sym p)
      go (in_session i s f) (p, b) t =
          rw (← user_view i s (b h).0 (b h).1)
          (pack-of 16 (read ws w) (λ n. (view ws).stands (f u n)) (S.wide (address w)) (λ n l. by n l (word_fits (session_user i s) ((b h).0, ((b h).1, tt)))))
        where
          u : ℕ
          u = read ws (session_user i s)

          by : (n : ℕ) → n < 16 → (u < 16) ⊎ (u ≡ 65535) → (view ws).stands (f u n) ≡ bit (read ws w) n
          by n l (inl a) = view_says ws (f u n) ((place-numbered (f u n)).1 (rw (p u n) ((b h).0, (b h).1, a, h, l))) ∙ ap (tells ws) (p u n) ∙ ap (λ x. x && bit (read ws w) n) (eq-eqb u u refl)
          by n l (inr a) =
              untrue _ (λ e. let x = rw (p u n) at ((place-numbered (f u n)).0 (view_numbered ws (f u n) e)) in omega arith)
              ∙ sym (ap (λ x. bit x n) (t a) ∙ bit_0 n)

pub encode-view : (ws : List ℕ) → LawfulWords ws → encode (view ws) ≡ ws
encode-view ws h = sym (words_of (view ws) ws h.long (λ w b. sym (contents_view ws (sound-words h) w b)))

-- so words that say the same state are the same
pub lawful_determined : (ws vs : List ℕ) → LawfulWords ws → LawfulWords vs → view ws ≡ view vs → ws ≡ vs
lawful_determined ws vs h k e = sym (encode-view ws h) ∙ ap encode e ∙ encode-view vs k

-- ---- the words of a lawful state are lawful

-- past the state's length nothing is read but 0
pub wide_everywhere : (ws : List ℕ) → length ws ≡ state_length → ((k : ℕ) → k < state_length → get_or ws k 0 < 65536) → (k : ℕ) → get_or ws k 0 < 65536
wide_everywhere ws e h k = go (below_or_not k state_length)
  where
    go : (k < state_length) ⊎ (state_length ≤ k) → get_or ws k 0 < 65536
    go (inl l) = h k l
    go (inr l) = rw (get_or-eq_default ws 0 {n = k} (omega arith)) (omega arith)

pub encode-lawful : (st : State) → Lawful st → LawfulWords (encode st)
encode-lawful st L = record {
  long = encode_length st;
  wide = wide_everywhere (encode st) (encode_length st) (λ k l. rw (encode_at st k l) (contents_below st (cell (word_at k))));
  fit = λ k l. rw (encode_at st k l) (go (word_at k) (word_at-numbered k l) (cell (word_at k)) (placed (word_at k)));
  lawful = rw (view-encode st L) L;
}
  where
    go : (w : Word) → Below16 (word_numbers w) → (c : Cell) → Placed w c → Fits (encode st) c (contents st c)
    go w h (sixteen f) p = tt
    go w h (its_user i s) p = user_cases st i s
    go w h (in_session i s f) (p, b) = λ e.
        let u : user_of st i s ≡ 65535 = sym (read_encode st (session_user i s) ((b h).0, ((b h).1, tt))) ∙ e in
        pack-of 16 0 _ (omega arith) (λ n _. untrue _ (λ a. let x = rw (p (user_of st i s) n) at ((place-numbered (f (user_of st i s) n)).0 (L.numbered _ a)) in omega arith) ∙ sym (bit_0 n))
