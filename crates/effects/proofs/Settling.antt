-- Words of a state, settled, are the words of the settled state.
use Rattle.std.proofs.Common.{◌≡◌, refl, ap, ap₂, sym, ◌∙◌, ◌⊎◌, inl, inr, ◌&&◌, List, ℕ, ◌<◌, arith, get_or}
use Rattle.bits.specs.Bit.{bit}
use Rattle.bits.proofs.Below.{find_ext}
use Rattle.bits.proofs.Bit.{bit-pack, pack_ext, pack-of}
use Rattle.mtas.specs.Fact.{Fact, active, Below16}
use Rattle.mtas.specs.State.{State, packed, user_of}
use Rattle.mtas.specs.Law.{attachments}
use Rattle.mtas.specs.Settle.{authorized, settle}
use Rattle.mtas.specs.Layout.{Word, session_user, active_roles, Cell, sixteen, its_user, in_session, cell, address, word_at, contents, encode, read}
use Rattle.mtas.proofs.Address.{word_numbers, word_at-address}
use Rattle.mtas.proofs.Cells.{Placed, placed}
use Rattle.mtas.proofs.Law.{Rooted}
use Rattle.mtas.proofs.Settle.{Fixed, IsActive, settle_is, settle_active, settle_opened}
use Rattle.mtas.proofs.Words.{encode_length, read_encode, words_of, view_rooted}
use Rattle.sessions.specs.Lesser.{reached_in}
use Rattle.sessions.specs.Settled.{Settled}

module _ (st : State) (R : Rooted st) {us : List ℕ} (z : Settled (encode st) us) (wide : (k : ℕ) → get_or us k 0 < 65536) where
  same_user : (i s : ℕ) → user_of (settle st) i s ≡ user_of st i s
  same_user i s = find_ext 16 _ _ 65535 (λ u. settle_opened st i s u)

  -- a word that isn't a session's active roles
  as_it_was : (w : Word) → Below16 (word_numbers w) → ((i s : ℕ) → cell w ≡ in_session i s (active i s) → ⊥) → read us w ≡ contents st (cell w)
  as_it_was w b other =
      z.apart (address w) (λ i s li ls e.
      other i s (ap cell (sym (word_at-address w b) ∙ ap word_at e ∙ word_at-address (active_roles i s) (li, (ls, tt)))))
      ∙ read_encode st w b

  -- the active roles of i/s
  module _ (i s : ℕ) (li : i < 16) (ls : s < 16) where
    abbrev u : ℕ
    u = user_of st i s

    was : (n : ℕ) → n < 16 → bit (read (encode st) (active_roles i s)) n ≡ st.stands (active i s u n)
    was n l = ap (λ w. bit w n) (read_encode st (active_roles i s) (li, (ls, tt))) ∙ bit-pack 16 (λ m. st.stands (active i s u m)) n l

    reached : (n : ℕ) → reached_in (encode st) i s n ≡ authorized st (attachments st) i u n
    reached n = rw (view_rooted st R, read_encode st (session_user i s) (li, (ls, tt)))

    roles_now : read us (active_roles i s) ≡ packed (settle st) (active i s (user_of (settle st) i s))
    roles_now =
        rw (same_user i s)
        (sym (pack-of 16 (read us (active_roles i s)) (λ n. (settle st).stands (active i s u n)) (wide (address (active_roles i s)))
        (λ n l. settle_active st i s u n ∙ sym (z.roles i s n li ls l ∙ ap₂ ◌&&◌ (was n l) (reached n)))))

  each : (w : Word) → Below16 (word_numbers w) → read us w ≡ contents (settle st) (cell w)
  each w b = go (cell w) refl (placed w)
    where
      -- none of sixteen facts is an active role, which is said while its session's user is
      fixed : (g : ℕ → Fact) → Placed w (sixteen g) → (n : ℕ) → (Fixed (g n)) ⊎ (IsActive (g n)) → st.stands (g n) ≡ (settle st).stands (g n)
      fixed g p n (inl e) = sym (e st)
      fixed g p n (inr (i, s, u, r, e)) = absurd (let q = p n in let x : ◌≡◌ {A = ℕ} 0 1 = cc in omega arith)

      go : (c : Cell) → cell w ≡ c → Placed w c → read us w ≡ contents (settle st) c
      go (sixteen g) e p =
          as_it_was w b (λ i s d. let x : ◌≡◌ {A = ℕ} 0 1 = cc in omega arith) ∙ ap (contents st) e
          ∙ pack_ext 16 (λ n. st.stands (g n)) (λ n. (settle st).stands (g n)) (λ n _. fixed g p n (settle_is (g n)))
      go (its_user i s) e p = as_it_was w b (λ j t d. let x : ◌≡◌ {A = ℕ} 0 1 = cc in omega arith) ∙ ap (contents st) e ∙ sym (same_user i s)
      go (in_session i s g) e (p, k) =
          let (li, ls, q) = k b in
          ap (read us) q ∙ roles_now i s li ls ∙ ap (contents (settle st)) (sym (ap cell q) ∙ e)

  pub settled_words : us ≡ encode (settle st)
  settled_words = words_of (settle st) us (z.len ∙ encode_length st) each
