-- Sessions settled issuer by issuer: what is dropped changes no holding and no attachment, so that each is settled as the first words say.
use Rattle.std.proofs.Common.{◌≡◌, refl, ap, ap₂, sym, ◌∙◌, ◌⊎◌, inl, inr, Bool, true, false, not, ◌&&◌, ◌||◌, List, ℕ, ◌+◌, ◌-◌, ◌<◌, ◌≤◌, arith, ltb, length, get_or, lt-ltb, le-ltb, ltb-true}
use mathlib.Core.Path.{fun_ext}
use mathlib.Core.Bool.{and-true}
use native.Mathlib.Decide.{ℕ_discrete}
use Rattle.bits.specs.Bit.{bit}
use Rattle.bits.specs.Gather.{gather}
use Rattle.bits.proofs.Bit.{bit_0, bit-and, bit_not}
use Rattle.bits.proofs.Below.{any_ext}
use Rattle.bits.proofs.Booleans.{same_test, below_or_not}
use Rattle.bits.proofs.Gather.{gather-zero, or-zero}
use Rattle.mtas.specs.Fact.{Fact, holds, attached, numbers, Below16}
use Rattle.mtas.specs.Hierarchy.{◌#◌, reaches}
use Rattle.mtas.specs.Law.{attachments}
use Rattle.mtas.specs.Settle.{authorized}
use Rattle.mtas.specs.Layout.{held, seniors, session_user, active_roles, address, read, says, view}
use Rattle.mtas.proofs.Words.{view_says, view_numbered}
use Rattle.sessions.specs.Lesser.{awake, reached_in, Beyond}
use Rattle.sessions.specs.Settled.{Dropped}

-- ---- the same but for active roles
module _ (ws vs : List ℕ) (apart : (k : ℕ) → ((i s : ℕ) → i < 16 → s < 16 → k ≡ address (active_roles i s) → ⊥) → get_or vs k 0 ≡ get_or ws k 0) where
  same_fact : (f : Fact) → (Below16 (numbers f) → says vs f ≡ says ws f) → (view vs).stands f ≡ (view ws).stands f
  same_fact f h =
      same_test _ _ (λ e. let b = view_numbered vs f e in view_says ws f b ∙ sym (h b) ∙ sym (view_says vs f b) ∙ e)
      (λ e. let b = view_numbered ws f e in view_says vs f b ∙ h b ∙ sym (view_says ws f b) ∙ e)

  same_holding : (i u r : ℕ) → (view vs).stands (holds i u r) ≡ (view ws).stands (holds i u r)
  same_holding i u r = same_fact (holds i u r) (λ b. ap (λ w. bit w r) (apart (address (held i u)) (λ j s lj ls e. omega arith)))

  same_links : attachments (view vs) ≡ attachments (view ws)
  same_links = fun_ext (λ a. fun_ext (λ b. same_fact (attached b.issuer b.number a.issuer a.number)
      (λ n. ap (λ w. bit w a.number) (apart (address (seniors b.issuer b.number a.issuer)) (λ j s lj ls e. omega arith)))))

  same_reach : (i s n : ℕ) → i < 16 → s < 16 → reached_in vs i s n ≡ reached_in ws i s n
  unfolding authorized
  same_reach i s n li ls =
      rw (apart (address (session_user i s)) (λ j t lj lt e. omega arith), same_links)
      (any_ext 16 _ _ (λ h. ap (λ b. b && reaches (attachments (view ws)) (i # h) (i # n)) (same_holding i _ h)))

-- ---- one issuer after another
-- vs: ws, where the sessions of the first t issuers are settled
pub record SettledTo (ws : List ℕ) (t : ℕ) (vs : List ℕ) : Type 0 where
  pub len : length vs ≡ length ws
  pub roles : (i s n : ℕ) → i < 16 → s < 16 → n < 16 → bit (read vs (active_roles i s)) n ≡ bit (read ws (active_roles i s)) n && (not (ltb i t) || reached_in ws i s n)
  pub apart : (k : ℕ) → ((i s : ℕ) → i < 16 → s < 16 → k ≡ address (active_roles i s) → ⊥) → get_or vs k 0 ≡ get_or ws k 0

-- the issuers before t + 1 are those before t, and t
earlier : (i t : ℕ) → (i ≡ t → ⊥) → ltb i t ≡ ltb i (t + 1)
earlier i t d = same_test _ _ (λ e. lt-ltb i (t + 1) (omega (arith, ltb-true i t e))) (λ e. lt-ltb i t (lower (below_or_not i t) (ltb-true i (t + 1) e)))
  where
    lower : (i < t) ⊎ (t ≤ i) → i < t + 1 → i < t
    lower (inl h) k = h
    lower (inr h) k = absurd (d (omega arith))

module _ {ws vs : List ℕ} {t : ℕ} (lt : t < 16) (x : SettledTo ws t vs) where
  -- t's sessions are as they were
  as_before : (s n : ℕ) → s < 16 → n < 16 → bit (read vs (active_roles t s)) n ≡ bit (read ws (active_roles t s)) n
  as_before s n ls ln = x.roles t s n lt ls ln ∙ rw (le-ltb t t (omega arith)) (and-true _)

  -- they keep what is reached
  abbrev Keeps : List ℕ → Type 0
  Keeps us = (s n : ℕ) → s < 16 → n < 16 → bit (read us (active_roles t s)) n ≡ bit (read ws (active_roles t s)) n && reached_in ws t s n

  one_more : {us : List ℕ} → length us ≡ length vs → Keeps us → ((k : ℕ) → ((s : ℕ) → s < 16 → k ≡ address (active_roles t s) → ⊥) → get_or us k 0 ≡ get_or vs k 0) → SettledTo ws (t + 1) us
  one_more {us} long keeps apart = record {
    len = long ∙ x.len;
    roles = λ i s n li ls ln. go i s n li ls ln (ℕ_discrete i t);
    apart = λ k h. apart k (λ s ls e. h t s lt ls e) ∙ x.apart k h;
  }
    where
      go : (i s n : ℕ) → i < 16 → s < 16 → n < 16 → Dec (i ≡ t) → bit (read us (active_roles i s)) n ≡ bit (read ws (active_roles i s)) n && (not (ltb i (t + 1)) || reached_in ws i s n)
      go i s n li ls ln (yes e) = rw (e, lt-ltb t (t + 1) (omega arith)) (keeps s n ls ln)
      go i s n li ls ln (no d) =
          ap (λ w. bit w n) (apart (address (active_roles i s)) (λ r lr e. d (omega arith))) ∙ x.roles i s n li ls ln ∙ rw (earlier i t d)

  pub settled_more : {words us : List ℕ} → ((s : ℕ) → get_or words s 0 < 65536) → Beyond vs t words → Dropped t words 16 vs us → SettledTo ws (t + 1) us
  settled_more {words} {us} wide b d = one_more d.len keeps d.apart
    where
      kept : (a r : Bool) → a && not (a && not r) ≡ a && r
      kept true true = refl
      kept true false = refl
      kept false r = refl

      keeps : Keeps us
      keeps s n ls ln =
          ap (λ w. bit w n) (d.roles s ls ∙ rw (lt-ltb s 16 ls)) ∙ bit-and (read vs (active_roles t s)) (65535 - get_or words s 0) n ∙ rw (bit_not 16 (get_or words s 0) n (wide s) ln, b.each s n ls ln)
          (kept (bit (read vs (active_roles t s)) n) (reached_in vs t s n) ∙ ap₂ ◌&&◌ (as_before s n ls ln) (same_reach ws vs x.apart t s n lt ls))

  -- where all of them are closed, there is nothing to keep
  pub settled_asleep : {w : ℕ} → w ≡ gather 16 (awake vs t) → w ≡ 0 → SettledTo ws (t + 1) vs
  settled_asleep e z = one_more refl (λ s n ls ln. none s n ls ∙ sym (ap (λ b. b && reached_in ws t s n) (sym (as_before s n ls ln) ∙ none s n ls))) (λ k h. refl)
    where
      none : (s n : ℕ) → s < 16 → bit (read vs (active_roles t s)) n ≡ false
      none s n ls = let (_, q) = (or-zero (65535 - read vs (session_user t s)) (read vs (active_roles t s))).0 ((gather-zero 16 (awake vs t)).0 (sym e ∙ z) s ls) in rw q (bit_0 n)
