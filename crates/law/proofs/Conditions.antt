-- No stray bits, said of the facts: what each kind of fact needs at first hand.
use Rattle.std.proofs.Common.{◌≡◌, refl, sym, ◌∙◌, List, ◌↔◌, Bool, true, false, cond, ℕ, ◌+◌, ◌*◌, ◌<◌, eqb, get_or}
use lib.Bits.{bit_or}
use Rattle.bits.specs.Bit.{bit}
use Rattle.bits.specs.Gather.{gather}
use Rattle.bits.proofs.Gather.{or-zero, gather-zero, stray_zero}
use Rattle.mtas.specs.Fact.{Fact, enrolled, trusts, user, role, permission, public, holds, granted, attached}
use Rattle.mtas.specs.Needs.{exposed}
use Rattle.mtas.specs.Layout.{Word, address, enrolled_issuers, trusted, users, roles, permissions, held, public_roles, holders_at, seniors_at, read, says}
use Rattle.mtas.proofs.Exposed.{own_exposed, other_exposed}
use Rattle.law.specs.Stray.{allowed, exposed_roles, trust_stray, present_stray, public_stray, own_stray, held_stray, rows_stray, issuer_stray}
use Rattle.law.proofs.Inside.{inside_if, inside_if_both, none-unless, has_if}

or_iff : {a b : ℕ} {A B : Type 0} → (a ≡ 0) ↔ A → (b ≡ 0) ↔ B → (bit_or a b ≡ 0) ↔ (A × B)
or_iff {a} {b} p q = (λ e. let (x, y) = (or-zero a b).0 e in (p.0 x, q.0 y), λ (x, y). (or-zero a b).1 (p.1 x, q.1 y))

gather_iff : (f : ℕ → ℕ) {P : ℕ → Type 0} → ((k : ℕ) → k < 16 → (f k ≡ 0) ↔ P k) → (gather 16 f ≡ 0) ↔ ((k : ℕ) → k < 16 → P k)
gather_iff f h = (λ e k l. (h k l).0 ((gather-zero 16 f).0 e k l), λ p. (gather-zero 16 f).1 (λ k l. (h k l).1 (p k l)))

module _ (ws : List ℕ) where
  -- the words say f
  abbrev pub Stated : Fact → Type 0
  Stated f = says ws f ≡ true

  -- the exposed roles are those that the words say are exposed
  exposed_bit : (j i r : ℕ) → bit (exposed_roles ws j i) r ≡ says ws (exposed j i r)
  exposed_bit j i r = go (eqb j i) refl
    where
      go : (b : Bool) → eqb j i ≡ b → bit (cond b (read ws (roles i)) (read ws (public_roles i))) r ≡ says ws (exposed j i r)
      go true e = rw (own_exposed j i r e)
      go false e = rw (other_exposed j i r e)

  abbrev Trust : ℕ → Type 0
  Trust i = (j : ℕ) → j < 16 → Stated (trusts i j) → Stated (enrolled i) × Stated (enrolled j)

  abbrev Itself : ℕ → Type 0
  Itself i = Stated (enrolled i) → Stated (trusts i i)

  abbrev Owned : ℕ → (ℕ → Fact) → Type 0
  Owned i f = (n : ℕ) → n < 16 → Stated (f n) → Stated (enrolled i)

  abbrev Public : ℕ → Type 0
  Public i = (r : ℕ) → r < 16 → Stated (public i r) → Stated (role i r)

  abbrev Held : ℕ → Type 0
  Held i = (u : ℕ) → u < 16 → (r : ℕ) → r < 16 → Stated (holds i u r) → Stated (user i u) × Stated (role i r)

  -- both ends of the grants of j's permissions, or of the attachments of j's roles
  abbrev Ends : ℕ → (ℕ → Fact) → (ℕ → ℕ → ℕ → Fact) → Type 0
  Ends j owned link =
      (p : ℕ) → p < 16 → (i : ℕ) → i < 16 → (r : ℕ) → r < 16 → Stated (link p i r) → Stated (owned p) × Stated (trusts i j) × Stated (exposed j i r)

  pub record Conditions (i : ℕ) : Type 0 where
    pub trust : Trust i
    pub itself : Itself i
    pub users_of : Owned i (user i)
    pub roles_of : Owned i (role i)
    pub permissions_of : Owned i (permission i)
    pub public_of : Public i
    pub held_by : Held i
    pub grants : Ends i (permission i) (granted i)
    pub attachments_of : Ends i (role i) (attached i)

  module _ (wide : (k : ℕ) → get_or ws k 0 < 65536) (i : ℕ) (li : i < 16) where
    own_zero : (own_stray ws i ≡ 0) ↔ (((Trust i × Itself i) × ((Owned i (user i) × Owned i (role i)) × Owned i (permission i))) × Public i)
    unfolding own_stray trust_stray present_stray public_stray
    own_zero =
        or_iff (or_iff (or_iff (inside_if here _ _ (word (trusted i)) (word enrolled_issuers)) (has_if here _ i (word (trusted i)) li))
        (or_iff (or_iff (none-unless here _ (word (users i))) (none-unless here _ (word (roles i)))) (none-unless here _ (word (permissions i)))))
        (stray_zero (read ws (public_roles i)) (read ws (roles i)) (word (roles i)) (word (public_roles i)))
      where
        here : Bool
        here = bit (read ws enrolled_issuers) i

        word : (w : Word) → read ws w < 65536
        word w = wide (address w)

    held_zero : (held_stray ws i ≡ 0) ↔ Held i
    unfolding held_stray
    held_zero = gather_iff _ (λ u _. inside_if (bit (read ws (users i)) u) _ _ (wide (address (held i u))) (wide (address (roles i))))

    rows_zero : (from present : ℕ)
        → (rows_stray ws from i present (allowed ws i) ≡ 0)
        ↔ ((p : ℕ) → p < 16 → (k : ℕ) → k < 16 → (r : ℕ) → r < 16 → bit (get_or ws (from + 16 * (16 * i + p) + k) 0) r ≡ true
        → (bit present p ≡ true) × Stated (trusts k i) × Stated (exposed i k r))
    unfolding rows_stray
    rows_zero from present = (
      λ e p l k m r n h. let (x, y, z) = all.0 e k m p l r n h in (x, y, sym (exposed_bit i k r) ∙ z),
      λ f. all.1 (λ k m p l r n h. let (x, y, z) = f p l k m r n h in (x, y, exposed_bit i k r ∙ z)),
    )
      where
        exposed_below : (k : ℕ) (b : Bool) → cond b (read ws (roles k)) (read ws (public_roles k)) < 65536
        exposed_below k true = wide (address (roles k))
        exposed_below k false = wide (address (public_roles k))

        all : (rows_stray ws from i present (allowed ws i) ≡ 0)
            ↔ ((k : ℕ) → k < 16 → (p : ℕ) → p < 16 → (r : ℕ) → r < 16 → bit (get_or ws (from + 16 * (16 * i + p) + k) 0) r ≡ true
            → (bit present p ≡ true) × Stated (trusts k i) × (bit (exposed_roles ws i k) r ≡ true))
        all =
            gather_iff _ (λ k _. gather_iff _ (λ p _.
            inside_if_both (bit present p) (bit (read ws (trusted k)) i) _ _ (wide (from + 16 * (16 * i + p) + k)) (exposed_below k (eqb i k))))

    pub issuer_zero : (issuer_stray ws i ≡ 0) ↔ Conditions i
    unfolding issuer_stray
    issuer_zero = (
      λ e.
          let ((((((t, o), ((u, r), p)), x), h), g), a) = all.0 e in
          record {
            trust = t;
            itself = o;
            users_of = u;
            roles_of = r;
            permissions_of = p;
            public_of = x;
            held_by = h;
            grants = g;
            attachments_of = a;
          },
      λ c.
          all.1
          ((((((c.trust, c.itself), ((c.users_of, c.roles_of), c.permissions_of)), c.public_of), c.held_by), c.grants), c.attachments_of),
    )
      where
        all : (issuer_stray ws i ≡ 0)
            ↔ ((((((Trust i × Itself i) × ((Owned i (user i) × Owned i (role i)) × Owned i (permission i))) × Public i) × Held i)
            × Ends i (permission i) (granted i)) × Ends i (role i) (attached i))
        all =
            or_iff (or_iff (or_iff own_zero held_zero) (rows_zero holders_at (read ws (permissions i))))
            (rows_zero seniors_at (read ws (roles i)))
