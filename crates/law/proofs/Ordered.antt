-- Sessions in order, on words that are supported, are what the law asks of sessions.
use Rattle.std.proofs.Common.{◌≡◌, refl, ap, sym, ◌∙◌, List, Bool, true, false, ◌⊎◌, inl, inr, ℕ, ◌<◌, ◌≤◌, arith, eqb, get_or, eqb-true, eq-eqb}
use native.Mathlib.Decide.{ℕ_discrete}
use Rattle.bits.specs.Bit.{bit}
use Rattle.bits.proofs.Bit.{bit_0, word_ext}
use Rattle.bits.proofs.Booleans.{clash, untrue, and_both, and_intro, below_or_not}
use Rattle.mtas.specs.Fact.{Fact, enrolled, trusts, user, role, permission, public, holds, granted, attached, opened, active, Below16}
use Rattle.mtas.specs.Needs.{needs, enrolment}
use Rattle.mtas.specs.Hierarchy.{Role, ◌#◌, Reaches, itself, down}
use Rattle.mtas.specs.Law.{In, here, there, attachments, Authorized}
use Rattle.mtas.specs.Layout.{Word, users, session_user, active_roles, Cell, sixteen, its_user, in_session, cell, address, word_at, state_length, read, view}
use Rattle.mtas.specs.LawTest.{Fits, LawfulWords}
use Rattle.mtas.proofs.Address.{word_numbers, address-word_at, word_at-numbered}
use Rattle.mtas.proofs.Authorized.{attachments-numbered, authorized_sound, authorized_complete}
use Rattle.mtas.proofs.Cells.{Placed, placed}
use Rattle.mtas.proofs.Facts.{All, all_in}
use Rattle.mtas.proofs.Words.{view_says, view_numbered, view_opened, sound-words, word_fits}
use Rattle.sessions.specs.Lesser.{stranger, reached_in, InOrder}
use Rattle.sessions.proofs.Looked.{user_present, user_absent, closed, no_user}
use Rattle.law.specs.Supported.{Supported}

-- ---- sessions in order
module _ (ws : List ℕ) (wide : (k : ℕ) → get_or ws k 0 < 65536) (O : InOrder ws) where
  abbrev Stands : Fact → Type 0
  Stands f = (view ws).stands f ≡ true

  -- the user of a session is nobody, or present
  module _ (i s : ℕ) (li : i < 16) (ls : s < 16) where
    abbrev u : ℕ
    u = read ws (session_user i s)

    its_user_is : ((u < 16) × (bit (read ws (users i)) u ≡ true)) ⊎ (u ≡ 65535)
    its_user_is = go (below_or_not u 16)
      where
        known : u < 16 → (b : Bool) → bit (read ws (users i)) u ≡ b → ((u < 16) × (bit (read ws (users i)) u ≡ true)) ⊎ (u ≡ 65535)
        known l true e = inl (l, e)
        known l false e = absurd (let z = user_absent ws i s l refl e ∙ O.users i s li ls in omega arith)

        go : (u < 16) ⊎ (16 ≤ u) → ((u < 16) × (bit (read ws (users i)) u ≡ true)) ⊎ (u ≡ 65535)
        go (inl l) = known l (bit (read ws (users i)) u) refl
        go (inr l) = nobody (ℕ_discrete u 65535)
          where
            nobody : Dec (u ≡ 65535) → ((u < 16) × (bit (read ws (users i)) u ≡ true)) ⊎ (u ≡ 65535)
            nobody (yes e) = inr e
            nobody (no d) = absurd (let z = no_user ws i s l d ∙ O.users i s li ls in omega arith)

    -- a closed session has no active role
    none_active : u ≡ 65535 → read ws (active_roles i s) ≡ 0
    none_active e =
        word_ext 16 _ 0 (wide (address (active_roles i s))) (omega arith) (λ n l. untrue _ (λ b. unheld n (O.roles i s n li ls l b)) ∙ sym (bit_0 n))
      where
        unheld : (n : ℕ) → reached_in ws i s n ≡ true → ⊥
        unheld n b =
            let A = authorized_sound (view ws) (attachments (view ws)) i u n b in
            let l = (view_numbered ws (holds i u A.through) A.is_held).1.0 in
            omega arith

  pub reached : (i s u r : ℕ) → Stands (active i s u r) → Authorized (view ws) (attachments (view ws)) i u r
  reached i s u r h =
      let n = view_numbered ws (active i s u r) h in
      let (o, b) = and_both (eqb (read ws (session_user i s)) u) (bit (read ws (active_roles i s)) r) (sym (view_says ws (active i s u r) n) ∙ h) in
      let e = eqb-true (read ws (session_user i s)) u o in
      authorized_sound (view ws) (attachments (view ws)) i u r (rw e at (O.roles i s r n.0 n.1.0 n.1.1.1.0 b))

  fits_there : (w : Word) → Below16 (word_numbers w) → (c : Cell) → Placed w c → Fits ws c (read ws w)
  fits_there w h (sixteen f) p = tt
  fits_there w h (its_user i s) p = let (li, (ls, _)) = rw p at h in rw p (go (its_user_is i s li ls))
    where
      go : {k : ℕ} {A : Type 0} → ((k < 16) × A) ⊎ (k ≡ 65535) → (k < 16) ⊎ (k ≡ 65535)
      go (inl (l, _)) = inl l
      go (inr e) = inr e
  fits_there w h (in_session i s f) (p, b) = let (li, ls, e) = b h in rw e (none_active i s li ls)

  pub all_fit : (k : ℕ) → k < state_length → Fits ws (cell (word_at k)) (get_or ws k 0)
  all_fit k l = rw (address-word_at k l) at (fits_there (word_at k) (word_at-numbered k l) (cell (word_at k)) (placed (word_at k)))

  -- ---- on supported words
  module _ (S : Supported ws) where
    user_there : (i s u : ℕ) → Stands (opened i s u) → Stands (user i u)
    user_there i s u h =
        let (li, (ls, (lu, _))) = view_numbered ws (opened i s u) h in
        let e = view_opened ws i s u h in
        view_says ws (user i u) (li, (lu, tt)) ∙ go (rw e at (its_user_is i s li ls))
      where
        go : ((u < 16) × (bit (read ws (users i)) u ≡ true)) ⊎ (u ≡ 65535) → bit (read ws (users i)) u ≡ true
        go (inl (_, b)) = b
        go (inr e) = absurd (let l = (view_numbered ws (opened i s u) h).1.1.0 in omega arith)

    -- a role that a held one reaches is held itself, or attached
    role_there : (i u r : ℕ) → Authorized (view ws) (attachments (view ws)) i u r → Stands (role i r)
    role_there i u r A = go A.is_reached
      where
        go : {b : Role} → Reaches (attachments (view ws)) (i # A.through) b → Stands (role b.issuer b.number)
        go itself = S.supported (holds i u A.through) (role i A.through) _ _ refl A.is_held (there here)
        go (down {b} {c} p e) = S.supported (attached c.issuer c.number b.issuer b.number) (role c.issuer c.number) _ _ refl e here

    session_open : (i s u r : ℕ) → Stands (active i s u r) → Stands (opened i s u)
    session_open i s u r h =
        let n = view_numbered ws (active i s u r) h in
        view_says ws (opened i s u) (n.0, (n.1.0, (n.1.1.0, tt)))
        ∙ (and_both (eqb (read ws (session_user i s)) u) (bit (read ws (active_roles i s)) r) (sym (view_says ws (active i s u r) n) ∙ h)).0

    enrolment_there : (i u : ℕ) → Stands (user i u) → All Stands (enrolment i)
    enrolment_there i u h = (S.supported (user i u) (enrolled i) _ _ refl h here, (S.supported (user i u) (trusts i i) _ _ refl h (there here), tt))

    pub all_supported : (f g : Fact) → Stands f → In g (needs f) → Stands g
    all_supported (enrolled i) g h m = S.supported (enrolled i) g _ _ refl h m
    all_supported (trusts i j) g h m = S.supported (trusts i j) g _ _ refl h m
    all_supported (user i u) g h m = S.supported (user i u) g _ _ refl h m
    all_supported (role i r) g h m = S.supported (role i r) g _ _ refl h m
    all_supported (permission i p) g h m = S.supported (permission i p) g _ _ refl h m
    all_supported (public i r) g h m = S.supported (public i r) g _ _ refl h m
    all_supported (holds i u r) g h m = S.supported (holds i u r) g _ _ refl h m
    all_supported (granted j p i r) g h m = S.supported (granted j p i r) g _ _ refl h m
    all_supported (attached j q i r) g h m = S.supported (attached j q i r) g _ _ refl h m
    all_supported (opened i s u) g h m = all_in Stands (user_there i s u h, enrolment_there i u (user_there i s u h)) m
    all_supported (active i s u r) g h m =
        let o = session_open i s u r h in
        let x = user_there i s u o in
        all_in Stands (o, (x, (role_there i u r (reached i s u r h), enrolment_there i u x))) m

-- ---- and those of lawful words are in order
pub in_order : (ws : List ℕ) → LawfulWords ws → InOrder ws
in_order ws W = record {
  users = λ i s li ls. present i s li ls (word_fits ws (sound-words W) (session_user i s) (li, (ls, tt)));
  roles = λ i s n li ls ln b. go i s n li ls ln b (word_fits ws (sound-words W) (session_user i s) (li, (ls, tt)));
}
  where
    stands_open : (i s : ℕ) → i < 16 → s < 16 → (l : read ws (session_user i s) < 16) → (view ws).stands (opened i s (read ws (session_user i s))) ≡ true
    stands_open i s li ls l = view_says ws (opened i s (read ws (session_user i s))) (li, (ls, (l, tt))) ∙ eq-eqb (read ws (session_user i s)) (read ws (session_user i s)) refl

    present : (i s : ℕ) → i < 16 → s < 16 → (read ws (session_user i s) < 16) ⊎ (read ws (session_user i s) ≡ 65535) → stranger ws i s ≡ 0
    present i s li ls (inl l) =
        let u = read ws (session_user i s) in
        let h = W.lawful.supported (opened i s u) (user i u) (stands_open i s li ls l) here in
        sym (user_present ws i s l refl (sym (view_says ws (user i u) (li, (l, tt))) ∙ h))
    present i s li ls (inr e) = sym (closed ws i s (omega arith) e)

    go : (i s n : ℕ) → i < 16 → s < 16 → n < 16 → bit (read ws (active_roles i s)) n ≡ true → (read ws (session_user i s) < 16) ⊎ (read ws (session_user i s) ≡ 65535) → reached_in ws i s n ≡ true
    go i s n li ls ln b (inl lu) =
        let u = read ws (session_user i s) in
        let stands = view_says ws (active i s u n) (li, (ls, (lu, (ln, tt)))) ∙ and_intro _ _ (eq-eqb u u refl) b in
        authorized_complete (view ws) (attachments (view ws)) i u n (view_numbered ws) (attachments-numbered (view ws) (view_numbered ws)) (W.lawful.reached i s u n stands)
    go i s n li ls ln b (inr e) = absurd (clash b (ap (λ w. bit w n) (word_fits ws (sound-words W) (active_roles i s) (li, (ls, tt)) e) ∙ bit_0 n))
