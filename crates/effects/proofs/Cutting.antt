-- Strips masked and sessions swept are a cut: the words are those of the state without f and all that needs it.
use Rattle.std.proofs.Common.{◌≡◌, refl, ap, sym, subst, ◌∙◌, ◌⊎◌, inl, inr, Bool, true, false, cond, not, ◌&&◌, List, [], ◌∷◌, ℕ, zero, suc, ◌+◌, ◌*◌, ◌/◌, ◌%◌, ◌<◌, ◌≤◌, arith, bit_and, length, get_or, eq-eqb, Option, Some, unwrap_or}
use mathlib.Core.Bool.{and-true, and-false}
use lib.Bits.{and_le_l}
use borrow.Author.Tests.{not-true}
use Rattle.bits.specs.Bit.{bit}
use Rattle.std.specs.List.{list_all}
use Rattle.bits.proofs.Bit.{bit_0, bit-and, pack-of, word_ext}
use Rattle.bits.proofs.Booleans.{clash, untrue, same_test, and_both, and_left, and_intro}
use Rattle.mtas.specs.Fact.{Fact, opened, active, Below16}
use Rattle.mtas.specs.State.{State, packed, cut, user_of}
use Rattle.mtas.specs.Law.{In}
use Rattle.mtas.specs.Layout.{Word, session_user, active_roles, Cell, sixteen, its_user, in_session, cell, address, word_at, contents, encode, read, tells, view}
use Rattle.mtas.proofs.Address.{word_numbers, word_at-address}
use Rattle.mtas.proofs.Cells.{Placed, placed, place-numbered}
use Rattle.mtas.proofs.Facts.{all_in, roots, cut-gone, cut-other, cut-old}
use Rattle.mtas.proofs.Sessions.{user_cases, user_passes, user_finds}
use Rattle.mtas.proofs.Words.{words_of, view_says, view_numbered, view_opened, sound-words, word_fits}
use Rattle.effects.specs.declared.sweep.Sweep.{Sweep}
use Rattle.effects.specs.Strips.{Strip, strips, covers, AllLie, spares, Kept}
use Rattle.effects.specs.Sweeps.{no_sweep, sweep_of, IsSweep, meant, close, roles_kept, roles_after, reached, session_at, Swept}
use Rattle.effects.specs.Cut.{Apart, MayCut, Cut}
use Rattle.effects.proofs.Relied.{Hits, Relies, AllRight, right, lie}
use Rattle.effects.proofs.Taken.{nth, Hit, taken}
use Rattle.effects.proofs.Swept.{Meets, Closes, Drops, with_session, alone, goes, session_goes, role_goes, sweep_ends}

-- ---- strips
module _ (s : Strip) (k n : ℕ) where
  left_alone : (Hits s k n → ⊥) → spares s k n ≡ true
  left_alone h = ap not (untrue _ (λ e. let (c, u) = and_both (covers s k) (not (bit s.keep n)) e in h (record { covered = c; unkept = not-true (bit s.keep n) u })))

  taken_out : Hits s k n → spares s k n ≡ false
  taken_out h = rw (h.covered, h.unkept)

-- whether all of them spare it
module _ (k n : ℕ) where
  all_spare : (f : Fact) (l : List Strip) → AllRight f l → n < 16 → (Relies f (cell (word_at k)) n → ⊥) → list_all (λ s. spares s k n) l ≡ true
  all_spare f [] a i h = refl
  all_spare f (s ∷ l) a i h = and_intro (spares s k n) _ (left_alone s k n (λ e. h (a.0.each k n i e))) (all_spare f l a.1 i h)

  one_takes : (l : List Strip) (t : ℕ) → t < length l → Hits (nth l t) k n → list_all (λ s. spares s k n) l ≡ false
  one_takes [] t i h = absurd (omega arith)
  one_takes (s ∷ l) zero i h = rw (taken_out s k n h)
  one_takes (s ∷ l) (suc t) i h = rw (one_takes l t (omega arith) h) (and-false (spares s k n))

-- ---- sessions
user-word : (m : ℕ) → m < 256 → word_at (session_at m) ≡ session_user (m / 16) (m % 16)
user-word m l =
    let e : session_at m ≡ address (session_user (m / 16) (m % 16)) = omega arith in
    rw e (word_at-address (session_user (m / 16) (m % 16)) (omega arith))

roles-word : (m : ℕ) → m < 256 → word_at (session_at m + 1) ≡ active_roles (m / 16) (m % 16)
roles-word m l =
    let e : session_at m + 1 ≡ address (active_roles (m / 16) (m % 16)) = omega arith in
    rw e (word_at-address (active_roles (m / 16) (m % 16)) (omega arith))

-- a session's words are none of sixteen facts
no_user : {c : Cell} {g : ℕ → Fact} {i s : ℕ} → c ≡ sixteen g → c ≡ its_user i s → ⊥
no_user e d = let z : ◌≡◌ {A = ℕ} 0 1 = cc in omega arith

no_roles : {c : Cell} {g : ℕ → Fact} {h : ℕ → ℕ → Fact} {i s : ℕ} → c ≡ sixteen g → c ≡ in_session i s h → ⊥
no_roles e d = let z : ◌≡◌ {A = ℕ} 0 1 = cc in omega arith

module _ {ws ws₂ vs : List ℕ} {f : Fact} (M : MayCut f ws) (x : Kept (strips f) ws ws₂) (z : Swept (sweep_of f) (sweep_of f).count ws₂ vs) where
  abbrev st : State
  st = view ws

  abbrev gone : State
  gone = cut f st

  narrow : (k : ℕ) → get_or ws₂ k 0 < 65536
  narrow k = omega (arith, x.below k, M.lawful.wide k)

  unhit : (k n : ℕ) → n < 16 → (Relies f (cell (word_at k)) n → ⊥) → bit (get_or ws₂ k 0) n ≡ bit (get_or ws k 0) n
  unhit k n l h = x.each k n ∙ rw (all_spare k n f (strips f) (right f M.numbered) l h) (and-true (bit (get_or ws k 0) n))

  -- a word of sixteen facts
  bits : (w : Word) → Below16 (word_numbers w) → (g : ℕ → Fact) → cell w ≡ sixteen g → read vs w ≡ packed gone g
  bits w b g e = unswept ∙ sym (pack-of 16 (read ws₂ w) (λ n. gone.stands (g n)) (narrow (address w)) (λ n l. same_test _ _ (there n l) (back n l)))
    where
      here_is : cell (word_at (address w)) ≡ sixteen g
      here_is = ap cell (word_at-address w b) ∙ e

      unswept : read vs w ≡ read ws₂ w
      unswept =
          z.apart (address w) (λ m l q. no_user here_is (ap (λ k. cell (word_at k)) q ∙ ap cell (user-word m l)))
          (λ m l q. no_roles here_is (ap (λ k. cell (word_at k)) q ∙ ap cell (roles-word m l)))

      said : (n : ℕ) → n < 16 → st.stands (g n) ≡ bit (read ws w) n
      said n l = let p = rw e at (placed w) in view_says ws (g n) ((place-numbered (g n)).1 (rw (p n) (b, l))) ∙ ap (tells ws) (p n)

      there : (n : ℕ) → n < 16 → gone.stands (g n) ≡ true → bit (read ws₂ w) n ≡ true
      there n l h =
          unhit (address w) n l (λ r. clash h (cut-gone f st (g n) (rw here_is at r)))
          ∙ sym (said n l) ∙ cut-old f st (g n) h

      back : (n : ℕ) → n < 16 → bit (read ws₂ w) n ≡ true → gone.stands (g n) ≡ true
      back n l h =
          cut-other f st (g n) (λ m. let o = all_in (λ f. Apart f → Hit f (address w) n) (rw e at (taken w n b l)) m M.apart in clash both.1 (one_takes (address w) n (strips f) o.by o.known o.hits))
          ∙ said n l ∙ both.0
        where
          both : (bit (read ws w) n ≡ true) × (list_all (λ s. spares s (address w) n) (strips f) ≡ true)
          both = and_both (bit (read ws w) n) _ (sym (x.each (address w) n) ∙ h)

  -- the words of the session i/s
  module _ (i s : ℕ) (li : i < 16) (ls : s < 16) where
    abbrev m : ℕ
    m = 16 * i + s

    abbrev u : ℕ
    u = get_or ws (session_at m) 0

    abbrev a : ℕ
    a = get_or ws (session_at m + 1) 0

    abbrev sw : Sweep
    sw = sweep_of f

    -- the session closes
    abbrev shut : Bool
    shut = reached sw sw.count m && (meant sw u && close sw)

    untouched : (k : ℕ) → ((n : ℕ) → Relies f (cell (word_at k)) n → ⊥) → get_or ws₂ k 0 ≡ get_or ws k 0
    untouched k h = word_ext 16 _ _ (narrow k) (M.lawful.wide k) (λ n l. unhit k n l (h n))

    user_untouched : get_or ws₂ (session_at m) 0 ≡ u
    user_untouched = untouched (session_at m) (λ n r. rw (word_at-address (session_user i s) (omega arith)) at r)

    roles_untouched : get_or ws₂ (session_at m + 1) 0 ≡ a
    roles_untouched = untouched (session_at m + 1) (λ n r. rw (word_at-address (active_roles i s) (omega arith)) at r)

    fits : (u < 16) ⊎ (u ≡ 65535)
    fits = word_fits ws (sound-words M.lawful) (session_user i s) (li, (ls, tt))

    its_own : (v : ℕ) → gone.stands (opened i s v) ≡ true → (v ≡ u) × (v < 16)
    its_own v h = let e = cut-old f st (opened i s v) h in (sym (view_opened ws i s v e), (view_numbered ws (opened i s v) e).1.1.0)

    none_open : ((v : ℕ) → gone.stands (opened i s v) ≡ true → ⊥) → user_of gone i s ≡ 65535
    none_open h = go (user_cases gone i s)
      where
        go : (user_of gone i s < 16) ⊎ (user_of gone i s ≡ 65535) → user_of gone i s ≡ 65535
        go (inl l) = absurd (h (user_of gone i s) (user_passes gone i s l))
        go (inr e) = e

    opened_now : u < 16 → st.stands (opened i s u) ≡ true
    opened_now l = view_says ws (opened i s u) (li, (ls, (l, tt))) ∙ eq-eqb u u refl

    meets : reached sw sw.count m ≡ true → meant sw u ≡ true → Meets sw i s u
    meets p q = record { is_reached = p; is_meant = q }

    shut_relies : shut ≡ true → In f (roots (opened i s u))
    shut_relies h =
        let (p, q) = and_both (reached sw sw.count m) (meant sw u && close sw) h in
        let (r, c) = and_both (meant sw u) (close sw) q in
        (goes li ls f M.numbered (meets p r)).session c

    closes_shut : Closes i s u f → shut ≡ true
    closes_shut c = and_intro _ _ c.meets.is_reached (and_intro _ _ c.meets.is_meant c.closes)

    user_now : user_of gone i s ≡ cond shut 65535 u
    user_now = go shut refl fits
      where
        go : (b : Bool) → shut ≡ b → (u < 16) ⊎ (u ≡ 65535) → user_of gone i s ≡ cond b 65535 u
        go true e d = none_open (λ v h. clash h (cut-gone f st (opened i s v) (rw (its_own v h).0 (shut_relies e))))
        go false e (inl l) =
            (its_own (user_of gone i s) (user_finds gone i s u l
            (cut-other f st (opened i s u) (λ r. clash (closes_shut (all_in (λ g. Apart g → Closes i s u g) (session_goes li ls) r M.apart)) e) ∙ opened_now l))).0
        go false e (inr q) = none_open (λ v h. let o = its_own v h in omega arith) ∙ sym q

    its_user_word : read vs (session_user i s) ≡ user_of gone i s
    its_user_word = z.users m ∙ rw user_untouched (go (reached sw sw.count m) (meant sw u) (close sw)) ∙ sym user_now
      where
        go : (p q r : Bool) → cond p (cond (q && r) 65535 u) u ≡ cond (p && (q && r)) 65535 u
        go true q r = refl
        go false q r = refl

    closed_never : (v n : ℕ) → v ≡ 65535 → gone.stands (active i s v n) ≡ false
    closed_never v n e = untrue _ (λ h. let b = view_numbered ws _ (cut-old f st _ h) in omega arith)

    role_said : u < 16 → (n : ℕ) → n < 16 → st.stands (active i s u n) ≡ bit a n
    role_said l n k = view_says ws (active i s u n) (li, (ls, (l, (k, tt)))) ∙ ap (λ b. b && bit a n) (eq-eqb u u refl)

    -- what the sweep spares of the active roles
    abbrev left : ℕ
    left = cond (reached sw sw.count m) (roles_after sw u a) a

    left_below : left ≤ a
    left_below = go (reached sw sw.count m) (meant sw u) (close sw)
      where
        go : (p q r : Bool) → cond p (cond q (cond r 0 (bit_and a (roles_kept sw))) a) a ≤ a
        go true true true = omega arith
        go true true false = and_le_l a (roles_kept sw)
        go true false r = omega arith
        go false q r = omega arith

    left_shut : shut ≡ true → left ≡ 0
    left_shut h =
        let (p, q) = and_both (reached sw sw.count m) (meant sw u && close sw) h in
        let (r, c) = and_both (meant sw u) (close sw) q in
        rw (p, r, c)

    -- in an open session that stays open
    module _ (stays : shut ≡ false) (l : u < 16) (n : ℕ) (k : n < 16) where
      left_there : gone.stands (active i s u n) ≡ true → bit left n ≡ true
      left_there h = go (reached sw sw.count m) refl (meant sw u) refl (close sw) refl
        where
          had : bit a n ≡ true
          had = sym (role_said l n k) ∙ cut-old f st (active i s u n) h

          kept : reached sw sw.count m ≡ true → meant sw u ≡ true → close sw ≡ false → bit (roles_kept sw) n ≡ true
          kept p q r = by (bit (roles_kept sw) n) refl
            where
              by : (b : Bool) → bit (roles_kept sw) n ≡ b → bit (roles_kept sw) n ≡ true
              by true e = e
              by false e = absurd (clash h (cut-gone f st (active i s u n) ((goes li ls f M.numbered (meets p q)).role r n k e)))

          go : (p : Bool) → reached sw sw.count m ≡ p → (q : Bool) → meant sw u ≡ q → (r : Bool) → close sw ≡ r → bit (cond p (cond q (cond r 0 (bit_and a (roles_kept sw))) a) a) n ≡ true
          go true p true q true r = absurd (clash (and_intro _ _ p (and_intro _ _ q r)) stays)
          go true p true q false r = bit-and a (roles_kept sw) n ∙ and_intro _ _ had (kept p q r)
          go true p false q r d = had
          go false p q d r c = had

      left_back : bit left n ≡ true → gone.stands (active i s u n) ≡ true
      left_back h = cut-other f st (active i s u n) (λ r. out (all_in (λ g. Apart g → Drops i s u n g) (role_goes li ls n k) r M.apart)) ∙ role_said l n k ∙ had
        where
          had : bit a n ≡ true
          had = go (reached sw sw.count m) (meant sw u) (close sw) h
            where
              go : (p q r : Bool) → bit (cond p (cond q (cond r 0 (bit_and a (roles_kept sw))) a) a) n ≡ true → bit a n ≡ true
              go true true true e = absurd (clash e (bit_0 n))
              go true true false e = and_left (bit a n) (bit (roles_kept sw) n) (sym (bit-and a (roles_kept sw) n) ∙ e)
              go true false r e = e
              go false q r e = e

          out : Drops i s u n f → ⊥
          out (with_session c) = clash (closes_shut c) stays
          out (alone c r e) = clash h (rw (c.is_reached, c.is_meant, r) (bit-and a (roles_kept sw) n ∙ rw e (and-false (bit a n))))

    roles_word_now : read vs (active_roles i s) ≡ packed gone (active i s (user_of gone i s))
    roles_word_now = z.roles m ∙ rw (user_untouched, roles_untouched, user_now) (sym (go shut refl fits))
      where
        go : (b : Bool) → shut ≡ b → (u < 16) ⊎ (u ≡ 65535) → packed gone (active i s (cond b 65535 u)) ≡ left
        go true e d = pack-of 16 left _ (omega (arith, left_shut e)) (λ n k. closed_never 65535 n refl ∙ sym (ap (λ x. bit x n) (left_shut e) ∙ bit_0 n))
        go false e (inl l) = pack-of 16 left _ (omega (arith, left_below, M.lawful.wide (session_at m + 1))) (λ n k. same_test _ _ (left_there e l n k) (left_back e l n k))
        go false e (inr q) =
            let c : a ≡ 0 = word_fits ws (sound-words M.lawful) (active_roles i s) (li, (ls, tt)) q in
            let d : left ≡ 0 = omega (arith, left_below) in
            pack-of 16 left _ (omega arith) (λ n k. closed_never u n q ∙ sym (ap (λ x. bit x n) d ∙ bit_0 n))

  -- every word, by its cell
  each : (w : Word) → Below16 (word_numbers w) → read vs w ≡ contents gone (cell w)
  each w h = go (cell w) refl (placed w)
    where
      go : (c : Cell) → cell w ≡ c → Placed w c → read vs w ≡ contents gone c
      go (sixteen g) e p = bits w h g e
      go (its_user i s) e p = let b = rw p at h in ap (read vs) p ∙ its_user_word i s b.0 b.1.0
      go (in_session i s g) e (p, k) =
          let q : w ≡ active_roles i s = (k h).2 in
          ap (read vs) q ∙ roles_word_now i s (k h).0 (k h).1 ∙ ap (contents gone) (sym (ap cell q) ∙ e)

  cut_words : vs ≡ encode gone
  cut_words = words_of gone vs (z.len ∙ x.len ∙ M.lawful.long) each

-- ---- the function that cuts
module _ {ws : List ℕ} {f : Fact} (M : MayCut f ws) where
  pub all_lie : AllLie (strips f)
  all_lie = lie f (strips f) (right f M.numbered)

  pub sweep_fits : {o : Option Sweep} {sw : Sweep} → IsSweep f o → o ≡ Some sw → sw.first + sw.count ≤ 256
  sweep_fits {sw = sw} i e = let its : sw ≡ sweep_of f = sym (ap (λ p. unwrap_or p no_sweep) e) ∙ i.is in rw its (sweep_ends f M.numbered)

  pub has_cut : {o p : Option Sweep} {ws₂ vs : List ℕ} → IsSweep f o → Kept (strips f) ws ws₂ → o ≡ p → Swept (unwrap_or p no_sweep) (unwrap_or p no_sweep).count ws₂ vs → Cut f ws vs
  has_cut {ws₂ = ws₂} {vs} i x e z = record { words = cut_words M x (subst (λ s. Swept s s.count ws₂ vs) (sym (ap (λ p. unwrap_or p no_sweep) e) ∙ i.is) z) }
