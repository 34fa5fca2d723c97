-- The table of sweeps is right: a session that the sweep of f closes, or a role that it drops there, relies on f, and each that relies on f goes.
use Rattle.std.proofs.Common.{◌≡◌, refl, true, false, ℕ, ◌+◌, ◌*◌, ◌<◌, ◌≤◌, arith, eqb-true, eq-eqb}
use Rattle.bits.specs.Bit.{bit}
use Rattle.bits.proofs.Booleans.{clash}
use Rattle.mtas.specs.Fact.{Fact, enrolled, trusts, user, role, permission, public, holds, granted, attached, opened, active, numbers, Below16}
use Rattle.mtas.specs.Law.{In, here, there}
use Rattle.mtas.proofs.Facts.{All, same_refl, roots}
use Rattle.effects.specs.declared.sweep.Sweep.{Sweep}
use Rattle.effects.specs.Sweeps.{sweep_of, meant, close, roles_kept, reached}
use Rattle.effects.specs.Cut.{Apart}
use Rattle.effects.proofs.Sweeping.{reached_in, reached_out}
use Rattle.effects.proofs.Relied.{bit_dropped, only_bit}

-- the session i/s of the user u is one of the sweep's
pub record Meets (sw : Sweep) (i s u : ℕ) : Type 0 where
  pub is_reached : reached sw sw.count (16 * i + s) ≡ true
  pub is_meant : meant sw u ≡ true

-- ---- what goes relies on f: a session that closes, or a role that is dropped
pub record Goes (i s u : ℕ) (f : Fact) : Type 0 where
  pub session : close (sweep_of f) ≡ true → In f (roots (opened i s u))
  pub role : close (sweep_of f) ≡ false → (n : ℕ) → n < 16 → bit (roles_kept (sweep_of f)) n ≡ false → In f (roots (active i s u n))

pub record Closes (i s u : ℕ) (f : Fact) : Type 0 where
  pub meets : Meets (sweep_of f) i s u
  pub closes : close (sweep_of f) ≡ true

-- a role goes with its session, or is dropped there
pub data Drops (i s u n : ℕ) (f : Fact) : Type 0 where
  with_session : Closes i s u f → Drops i s u n f
  alone : Meets (sweep_of f) i s u → close (sweep_of f) ≡ false → bit (roles_kept (sweep_of f)) n ≡ false → Drops i s u n f

module _ {i s u : ℕ} (li : i < 16) (ls : s < 16) where
  closing_goes : {f : Fact} → close (sweep_of f) ≡ true → In f (roots (opened i s u)) → Goes i s u f
  closing_goes c h = record { session = λ _. h; role = λ d. absurd (clash c d) }

  dropping_goes : {f : Fact} → close (sweep_of f) ≡ false → ((n : ℕ) → n < 16 → bit (roles_kept (sweep_of f)) n ≡ false → In f (roots (active i s u n))) → Goes i s u f
  dropping_goes d h = record { session = λ c. absurd (clash c d); role = λ _. h }

  -- the first session, and how many: none, one, or an issuer's sixteen
  its_range : (sw : Sweep) → Meets sw i s u → (sw.first ≤ 16 * i + s) × (16 * i + s < sw.first + sw.count)
  its_range sw m = reached_out sw sw.count (16 * i + s) m.is_reached

  pub goes : (f : Fact) → Below16 (numbers f) → Meets (sweep_of f) i s u → Goes i s u f
  goes (enrolled j) h m = let a = its_range _ m in let e : j ≡ i = omega arith in rw e (closing_goes refl (there (there here)))
  goes (trusts j k) h m = let a = its_range _ m in absurd (omega arith)
  goes (user j v) h m = let a = its_range _ m in let e : j ≡ i = omega arith in rw (e, ← eqb-true u v m.is_meant) (closing_goes refl (there here))
  goes (role j r) h m =
      let a = its_range _ m in
      let e : j ≡ i = omega arith in
      dropping_goes refl (λ n l q. rw (e, only_bit (omega arith) n l q) (search (here, there)))
  goes (permission j p) h m = let a = its_range _ m in absurd (omega arith)
  goes (public j r) h m = let a = its_range _ m in absurd (omega arith)
  goes (holds j v r) h m = let a = its_range _ m in absurd (omega arith)
  goes (granted j p k r) h m = let a = its_range _ m in absurd (omega arith)
  goes (attached j q k r) h m = let a = its_range _ m in absurd (omega arith)
  goes (opened j t v) h m =
      let a = its_range _ m in
      let e : j ≡ i = omega arith in
      let d : t ≡ s = omega arith in
      rw (e, d, ← eqb-true u v m.is_meant) (closing_goes refl here)
  goes (active j t v r) h m =
      let a = its_range _ m in
      let e : j ≡ i = omega arith in
      let d : t ≡ s = omega arith in
      dropping_goes refl (λ n l q. rw (e, d, ← eqb-true u v m.is_meant, only_bit (omega arith) n l q) here)

  -- ---- each that relies on f goes
  meets_issuer : {sw : Sweep} → sw.first ≡ 16 * i → sw.count ≡ 16 → meant sw u ≡ true → Meets sw i s u
  meets_issuer {sw} a b m = record { is_reached = reached_in sw sw.count (16 * i + s) (omega arith) (omega arith); is_meant = m }

  meets_session : {sw : Sweep} → sw.first ≡ 16 * i + s → sw.count ≡ 1 → meant sw u ≡ true → Meets sw i s u
  meets_session {sw} a b m = record { is_reached = reached_in sw sw.count (16 * i + s) (omega arith) (omega arith); is_meant = m }

  pub session_goes : All (λ f. Apart f → Closes i s u f) (roots (opened i s u))
  session_goes = (
    λ _. record { meets = meets_session refl refl (eq-eqb u u refl); closes = refl },
    (
      λ _. record { meets = meets_issuer refl refl (eq-eqb u u refl); closes = refl },
      (λ _. record { meets = meets_issuer refl refl refl; closes = refl }, (λ a. absurd (clash (same_refl (trusts i i)) (a i)), tt)),
    ),
  )

  pub role_goes : (n : ℕ) → n < 16 → All (λ f. Apart f → Drops i s u n f) (roots (active i s u n))
  role_goes n l = (
    λ _. alone (meets_session refl refl (eq-eqb u u refl)) refl (bit_dropped l),
    (
      λ a. with_session (session_goes.0 a),
      (
        λ a. with_session (session_goes.1.0 a),
        (
          λ _. alone (meets_issuer refl refl refl) refl (bit_dropped l),
          (λ a. with_session (session_goes.1.1.0 a), (λ a. absurd (clash (same_refl (trusts i i)) (a i)), tt)),
        ),
      ),
    ),
  )

-- a sweep ends with the sessions
pub sweep_ends : (f : Fact) → Below16 (numbers f) → (sweep_of f).first + (sweep_of f).count ≤ 256
sweep_ends (enrolled i) h = omega arith
sweep_ends (trusts i j) h = omega arith
sweep_ends (user i u) h = omega arith
sweep_ends (role i r) h = omega arith
sweep_ends (permission i p) h = omega arith
sweep_ends (public i r) h = omega arith
sweep_ends (holds i u r) h = omega arith
sweep_ends (granted j p i r) h = omega arith
sweep_ends (attached j q i r) h = omega arith
sweep_ends (opened i s u) h = omega arith
sweep_ends (active i s u r) h = omega arith
