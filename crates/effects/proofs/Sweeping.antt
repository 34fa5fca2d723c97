-- Sessions swept one after another.
use Rattle.std.proofs.Common.{◌≡◌, refl, ap, ap₂, ◌∙◌, true, false, cond, List, ℕ, ◌+◌, ◌<◌, ◌≤◌, arith, leb, ltb, length, get_or, set, length-set, get_or-set_same, get_or-set_other, le-leb, lt-ltb, leb-true, ltb-true}
use native.Mathlib.Decide.{ℕ_discrete}
use Rattle.bits.proofs.Booleans.{untrue, same_test, and_both, and_intro}
use Rattle.effects.specs.declared.sweep.Sweep.{Sweep}
use Rattle.effects.specs.Sweeps.{user_after, roles_after, swept_words, reached, session_at, Swept}
use Rattle.mtas.specs.Layout.{state_length}

module _ (sw : Sweep) (t m : ℕ) where
  pub reached_in : sw.first ≤ m → m < sw.first + t → reached sw t m ≡ true
  reached_in a b = and_intro (leb sw.first m) (ltb m (sw.first + t)) (le-leb sw.first m a) (lt-ltb m (sw.first + t) b)

  pub reached_out : reached sw t m ≡ true → (sw.first ≤ m) × (m < sw.first + t)
  reached_out e = let p = and_both (leb sw.first m) (ltb m (sw.first + t)) e in (leb-true sw.first m p.0, ltb-true m (sw.first + t) p.1)

pub none_swept : {sw : Sweep} {ws : List ℕ} → Swept sw 0 ws ws
none_swept {sw} {ws} = record {
  len = refl;
  users = λ m. rw (never m);
  roles = λ m. rw (never m);
  apart = λ k p q. refl;
}
  where
    never : (m : ℕ) → reached sw 0 m ≡ false
    never m = untrue _ (λ e. let a = reached_out sw 0 m e in omega arith)

pub one_swept : {sw : Sweep} {t u m₀ : ℕ} {ws vs us : List ℕ} → Swept sw t ws vs → us ≡ swept_words sw m₀ vs → m₀ ≡ sw.first + t → u ≡ t + 1 → m₀ < 256 → length vs ≡ state_length → Swept sw u ws us
one_swept {sw} {t} {u} {m₀} {ws} {vs} x is next more low long = rw is (record {
  len = simp length-set x.len;
  users = λ m. user m (ℕ_discrete m m₀);
  roles = λ m. role m (ℕ_discrete m m₀);
  apart = λ k p q. elsewhere k (p m₀ low) (q m₀ low) ∙ x.apart k p q;
})
  where
    at : ℕ
    at = session_at m₀

    this : reached sw u m₀ ≡ true
    this = reached_in sw u m₀ (omega arith) (omega arith)

    not_yet : reached sw t m₀ ≡ false
    not_yet = untrue _ (λ q. let a = reached_out sw t m₀ q in omega arith)

    other : (m : ℕ) → (m ≡ m₀ → ⊥) → reached sw t m ≡ reached sw u m
    other m n =
        same_test _ _ (λ q. let a = reached_out sw t m q in reached_in sw u m a.0 (omega arith))
        (λ q. let a = reached_out sw u m q in reached_in sw t m a.0 (omega arith))

    elsewhere : (k : ℕ) → (k ≡ at → ⊥) → (k ≡ at + 1 → ⊥) → get_or (swept_words sw m₀ vs) k 0 ≡ get_or vs k 0
    elsewhere k m n = get_or-set_other (set vs at _) (at + 1) k _ 0 n ∙ get_or-set_other vs at k _ 0 m

    was_user : get_or vs at 0 ≡ get_or ws at 0
    was_user = x.users m₀ ∙ rw not_yet

    was_roles : get_or vs (at + 1) 0 ≡ get_or ws (at + 1) 0
    was_roles = x.roles m₀ ∙ rw not_yet

    at_user : get_or (swept_words sw m₀ vs) at 0 ≡ user_after sw (get_or ws at 0)
    at_user = get_or-set_other (set vs at _) (at + 1) at _ 0 (λ e. omega arith) ∙ get_or-set_same vs at _ 0 (omega arith) ∙ ap (user_after sw) was_user

    at_roles : get_or (swept_words sw m₀ vs) (at + 1) 0 ≡ roles_after sw (get_or ws at 0) (get_or ws (at + 1) 0)
    at_roles = get_or-set_same (set vs at _) (at + 1) _ 0 (simp length-set (omega arith)) ∙ ap₂ (roles_after sw) was_user was_roles

    user : (m : ℕ) → Dec (m ≡ m₀) → get_or (swept_words sw m₀ vs) (session_at m) 0 ≡ cond (reached sw u m) (user_after sw (get_or ws (session_at m) 0)) (get_or ws (session_at m) 0)
    user m (yes q) = rw (q, this) at_user
    user m (no n) = elsewhere (session_at m) (λ h. n (omega arith)) (λ h. omega arith) ∙ x.users m ∙ rw (other m n)

    role : (m : ℕ) → Dec (m ≡ m₀) → get_or (swept_words sw m₀ vs) (session_at m + 1) 0 ≡ cond (reached sw u m) (roles_after sw (get_or ws (session_at m) 0) (get_or ws (session_at m + 1) 0)) (get_or ws (session_at m + 1) 0)
    role m (yes q) = rw (q, this) at_roles
    role m (no n) = elsewhere (session_at m + 1) (λ h. omega arith) (λ h. n (omega arith)) ∙ x.roles m ∙ rw (other m n)
