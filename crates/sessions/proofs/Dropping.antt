-- Roles dropped from an issuer's sessions one after another.
use Rattle.std.proofs.Common.{◌≡◌, ◌∙◌, ◌⊎◌, inl, inr, cond, List, ℕ, ◌+◌, ◌-◌, ◌<◌, ◌≤◌, arith, ltb, length, get_or, set, length-set, get_or-set_same, get_or-set_other, lt-ltb, le-ltb, ltb-true}
use native.Mathlib.Decide.{ℕ_discrete}
use lib.Bits.{bit_and}
use Rattle.bits.proofs.Booleans.{same_test, below_or_not}
use Rattle.mtas.specs.Layout.{address, active_roles, state_length, read}
use Rattle.sessions.specs.Settled.{Dropped}

pub dropped-more : {i : ℕ} {words ws vs : List ℕ} (t : ℕ) → i < 16 → t < 16 → length ws ≡ state_length → Dropped i words t ws vs
    → Dropped i words (t + 1) ws (set vs (address (active_roles i t)) (bit_and (read vs (active_roles i t)) (65535 - get_or words t 0)))
dropped-more {i} {words} {ws} {vs} t li lt long x = record {
  len = simp length-set x.len;
  roles = λ s l. at s l (ℕ_discrete s t);
  apart = λ k h. get_or-set_other vs (address (active_roles i t)) k _ 0 (h t lt) ∙ x.apart k h;
}
  where
    now : ℕ
    now = bit_and (read vs (active_roles i t)) (65535 - get_or words t 0)

    was : read vs (active_roles i t) ≡ read ws (active_roles i t)
    was = x.roles t lt ∙ rw (le-ltb t t (omega arith))

    inside : address (active_roles i t) < length vs
    inside = let e = x.len in omega arith

    at : (s : ℕ) → s < 16 → Dec (s ≡ t) → read (set vs (address (active_roles i t)) (bit_and (read vs (active_roles i t)) (65535 - get_or words t 0))) (active_roles i s)
        ≡ cond (ltb s (t + 1)) (bit_and (read ws (active_roles i s)) (65535 - get_or words s 0)) (read ws (active_roles i s))
    at s l (yes e) = rw (e, lt-ltb t (t + 1) (omega arith), get_or-set_same vs (address (active_roles i t)) (bit_and (read vs (active_roles i t)) (65535 - get_or words t 0)) 0 inside, was)
    at s l (no d) =
        get_or-set_other vs (address (active_roles i t)) (address (active_roles i s)) _ 0 (λ e. d (omega arith)) ∙ x.roles s l ∙ rw (same_test (ltb s t) (ltb s (t + 1)) (λ e. lt-ltb s (t + 1) (omega (arith, ltb-true s t e))) (λ e. lt-ltb s t (lower (ltb-true s (t + 1) e))))
      where
        lower : s < t + 1 → s < t
        lower k = go (below_or_not s t)
          where
            go : (s < t) ⊎ (t ≤ s) → s < t
            go (inl h) = h
            go (inr h) = absurd (d (omega arith))
