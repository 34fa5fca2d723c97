-- A walk upwards sees exactly the roles that reach one of the set it began with.
use Rattle.std.proofs.Common.{◌≡◌, ℕ, ◌+◌, ◌-◌, ◌*◌, ◌<◌, Bool, true, false, not, ◌&&◌, ◌||◌, eqb, ◌⊎◌, List, length, get_or, set, bit_and, bit_or, sym, refl, ap, ◌∙◌, subst, ap₂, inl, inr, arith, get_or-set_other, get_or-set_same, eq-eqb, eqb-true}
use Rattle.std.proofs.Math.Bool.{and-false}
use native.Mathlib.Decide.{ℕ_discrete}
use borrow.Author.Tests.{not-true}
use Rattle.std.proofs.lemmas.Nat.{or_lt}
use Rattle.bits.specs.Below.{tally}
use Rattle.bits.specs.Bit.{bit, without_bit}
use Rattle.bits.specs.RoleSet.{in_set, Row, Union}
use Rattle.bits.proofs.Below.{tally-le, tally_more}
use Rattle.bits.proofs.Bit.{bit_0, bit-and, bit-or, bit_not, bit_without}
use Rattle.bits.proofs.Booleans.{clash, and_left, and_right, and_intro, and-not, or_cases, or_left, or_right}
use Rattle.mtas.specs.Hierarchy.{Role, ◌#◌, Graph, Reaches, itself, down}
use Rattle.mtas.proofs.Hierarchy.{Numbered, then}
use Rattle.hierarchy.specs.Links.{linked, among, Subset, Reaching, ReachesInto}
use Rattle.hierarchy.specs.Climbing.{AllReach, Climbing}
use Rattle.hierarchy.proofs.Links.{linked_bit, linked_numbered}
use Rattle.hierarchy.proofs.Rows.{Wide}
use Rattle.hierarchy.proofs.Freed.{subset_itself, subset_then}
use Rattle.hierarchy.proofs.Sizes.{size, fewer_outside}

-- ---- lifting the roles of one issuer, one by one
-- the bits of the word are roles of issuer i in the set
abbrev BitsIn : ℕ → List ℕ → ℕ → Type 0
BitsIn word set i = (r : ℕ) → r < 16 → bit word r ≡ true → in_set set i r ≡ true

-- the set before, with the direct seniors of the roles of issuer i that are bits of the word, and of those roles of i that weren't in it before
pub record Lifted (below : Graph) (i word : ℕ) (before after : List ℕ) : Type 0 where
  pub kept : Subset before after
  pub seniors : (r : ℕ) → r < 16 → in_set after i r ≡ true → (in_set before i r ≡ true → bit word r ≡ true)
      → (a : Role) → below a (i # r) ≡ true → among after a ≡ true
  pub only : (from : List ℕ) → AllReach below from before → AllReach below from after

-- all but the roles of the rest
pub record LiftedBut (below : Graph) (i word rest : ℕ) (before after : List ℕ) : Type 0 where
  pub inside : BitsIn rest after i
  pub kept : Subset before after
  pub seniors : (r : ℕ) → r < 16 → in_set after i r ≡ true → (in_set before i r ≡ true → bit word r ≡ true) → bit rest r ≡ false
      → (a : Role) → below a (i # r) ≡ true → among after a ≡ true
  pub only : (from : List ℕ) → AllReach below from before → AllReach below from after

pub lifted_none : {e : Graph} {i word : ℕ} {s : List ℕ} → BitsIn word s i → LiftedBut e i word word s s
lifted_none h = record { inside = h; kept = subset_itself; seniors = λ r l x w n. absurd (clash (w x) n); only = λ from f. f }

pub lifted_all : {e : Graph} {i word rest : ℕ} {s t : List ℕ} → rest ≡ 0 → LiftedBut e i word rest s t → Lifted e i word s t
lifted_all z u = record { kept = u.kept; seniors = λ r l x w. u.seniors r l x w (rw z (bit_0 r)); only = u.only }

-- the role r of the rest is lifted: its row joins s, and the roles of i that come so join the rest
module _ (links : List ℕ) (i r rest : ℕ) (s row t : List ℕ) (li : i < 16) (lr : r < 16) (on : bit rest r ≡ true) (wide : get_or s i 0 < 65536)
    (is_row : Row links (16 * (16 * i + r)) row) (both : Union s row t) where
  abbrev rest' : ℕ
  rest' = bit_or (without_bit rest r) (bit_and (get_or row i 0) (65535 - get_or s i 0))

  rest_bit : (q : ℕ) → q < 16 → bit rest' q ≡ (bit rest q && not (eqb r q)) || (in_set row i q && not (in_set s i q))
  rest_bit q l =
      bit-or (without_bit rest r) (bit_and (get_or row i 0) (65535 - get_or s i 0)) q
      ∙ ap₂ ◌||◌ (bit_without rest r q lr l) (bit-and (get_or row i 0) (65535 - get_or s i 0) q ∙ ap (λ x. in_set row i q && x) (bit_not 16 (get_or s i 0) q wide l))

  in_row : (a : Role) → a.issuer < 16 → a.number < 16 → among row a ≡ linked links a (i # r)
  in_row a l m = ap (λ w. bit w a.number) (is_row.each a.issuer l) ∙ sym (linked_bit links a (i # r) (li, (lr, (l, (m, tt)))))

  from_old : Subset s t
  from_old = record { each = λ a l m h. both.each a.issuer a.number ∙ or_left (among s a) (among row a) h }

  from_row : (a : Role) → among row a ≡ true → among t a ≡ true
  from_row a h = both.each a.issuer a.number ∙ or_right (among s a) (among row a) h

  -- a role of i that was in the set and isn't in the rest now: it is r, or wasn't in the rest before
  gone : (q : ℕ) → q < 16 → in_set s i q ≡ true → bit rest' q ≡ false → (bit rest q ≡ false) ⊎ (r ≡ q)
  gone q l h n = go (bit rest q) refl (eqb r q) refl
    where
      go : (x : Bool) → bit rest q ≡ x → (y : Bool) → eqb r q ≡ y → (bit rest q ≡ false) ⊎ (r ≡ q)
      go false p y e = inl p
      go true p true e = inr (eqb-true r q e)
      go true p false e = absurd (clash (rest_bit q l ∙ or_left (bit rest q && not (eqb r q)) _ (and_intro (bit rest q) _ p (ap not e))) n)

  -- a role of i that came is in the rest
  came : (q : ℕ) → q < 16 → in_set t i q ≡ true → in_set s i q ≡ false → bit rest' q ≡ true
  came q l h n = go (or_cases (in_set s i q) (in_set row i q) (sym (both.each i q) ∙ h))
    where
      go : (in_set s i q ≡ true) ⊎ (in_set row i q ≡ true) → bit rest' q ≡ true
      go (inl x) = absurd (clash x n)
      go (inr x) = rest_bit q l ∙ or_right (bit rest q && not (eqb r q)) _ (and_intro (in_set row i q) _ x (ap not n))

  pub lifted_more : {word : ℕ} {s₀ : List ℕ} → LiftedBut (linked links) i word rest s₀ s → LiftedBut (linked links) i word rest' s₀ t
  lifted_more {word} {s₀} u = record {
    inside = λ q l h. still q l (or_cases (bit rest q && not (eqb r q)) (in_set row i q && not (in_set s i q)) (sym (rest_bit q l) ∙ h));
    kept = subset_then u.kept from_old;
    seniors = λ q l h w n a k. let (la, ma, _, _) = linked_numbered links a (i # q) k in taken q l h w n a la ma k (in_set s i q) refl;
    only = λ from f a l m h. reach from f a l m (or_cases (among s a) (among row a) (sym (both.each a.issuer a.number) ∙ h));
  }
    where
      still : (q : ℕ) → q < 16 → (bit rest q && not (eqb r q) ≡ true) ⊎ (in_set row i q && not (in_set s i q) ≡ true) → in_set t i q ≡ true
      still q l (inl x) = from_old.each (i # q) li l (u.inside q l (and_left (bit rest q) _ x))
      still q l (inr x) = from_row (i # q) (and_left (in_set row i q) _ x)

      taken : (q : ℕ) → q < 16 → in_set t i q ≡ true → (in_set s₀ i q ≡ true → bit word q ≡ true) → bit rest' q ≡ false → (a : Role) → a.issuer < 16 → a.number < 16
          → linked links a (i # q) ≡ true → (b : Bool) → in_set s i q ≡ b → among t a ≡ true
      taken q l h w n a la ma k false z = absurd (clash (came q l h z) n)
      taken q l h w n a la ma k true z = go (gone q l z n)
        where
          go : (bit rest q ≡ false) ⊎ (r ≡ q) → among t a ≡ true
          go (inl x) = from_old.each a la ma (u.seniors q l z w x a k)
          go (inr x) = from_row a (in_row a la ma ∙ subst (λ p. linked links a (i # p) ≡ true) (sym x) k)

      reach : (from : List ℕ) → AllReach (linked links) from s₀ → (a : Role) → a.issuer < 16 → a.number < 16
          → (among s a ≡ true) ⊎ (among row a ≡ true) → ReachesInto (linked links) from a
      reach from f a l m (inl x) = u.only from f a l m x
      reach from f a l m (inr x) =
          let (b, lb, mb, h, p) = u.only from f (i # r) li lr (u.inside r lr on) in
          (b, lb, mb, h, then (down itself (sym (in_row a l m) ∙ x)) p)

  more_lifted : BitsIn rest s i → tally 16 (λ q. in_set s i q && not (bit rest q)) < tally 16 (λ q. in_set t i q && not (bit rest' q))
  more_lifted ins =
      tally_more (λ q. in_set s i q && not (bit rest q)) (λ q. in_set t i q && not (bit rest' q)) 16
      (λ q l h. let x = and_left (in_set s i q) _ h in and_intro (in_set t i q) _ (from_old.each (i # q) li l x) (ap not (none q l x (not-true _ (and_right (in_set s i q) _ h)))))
      r lr (ap (λ x. in_set s i r && not x) on ∙ and-false (in_set s i r))
      (and_intro (in_set t i r) _ (from_old.each (i # r) li lr (ins r lr on)) (ap not (at_r (ins r lr on))))
    where
      both_false : (a b : Bool) → a ≡ false → b ≡ false → a || b ≡ false
      both_false a b p q = ap₂ ◌||◌ p q

      none : (q : ℕ) → q < 16 → in_set s i q ≡ true → bit rest q ≡ false → bit rest' q ≡ false
      none q l x n = rest_bit q l ∙ both_false _ _ (ap (λ y. y && not (eqb r q)) n) (ap (λ y. in_set row i q && not y) x ∙ and-false (in_set row i q))

      at_r : in_set s i r ≡ true → bit rest' r ≡ false
      at_r x =
          rest_bit r lr
          ∙ both_false _ _ (ap (λ y. bit rest r && not y) (eq-eqb r r refl) ∙ and-false (bit rest r)) (ap (λ y. in_set row i r && not y) x ∙ and-false (in_set row i r))

  -- fewer roles of i are not lifted
  pub fewer_left : BitsIn rest s i → 16 - tally 16 (λ q. in_set t i q && not (bit rest' q)) < 16 - tally 16 (λ q. in_set s i q && not (bit rest q))
  fewer_left ins = omega (arith, more_lifted ins, tally-le 16 (λ q. in_set t i q && not (bit rest' q)))

-- ---- one round, issuer by issuer
-- one round: what was seen is done, and the walk is still one from the same set
pub record Climbed (below : Graph) (seen done seen' done' : List ℕ) : Type 0 where
  pub kept : Subset done done'
  pub all_done : Subset seen done'
  pub goes_on : (from : List ℕ) → Climbing below from seen done → Climbing below from seen' done'

pub record RoundTo (below : Graph) (n : ℕ) (seen done seen' done' : List ℕ) : Type 0 where
  pub wide : Wide done'
  pub kept_seen : Subset seen seen'
  pub kept_done : Subset done done'
  pub so_far : (a : Role) → a.issuer < n → a.issuer < 16 → a.number < 16 → among seen a ≡ true → among done' a ≡ true
  pub goes_on : (from : List ℕ) → Climbing below from seen done → Climbing below from seen' done'

pub round_none : {e : Graph} {seen done : List ℕ} → Wide done → RoundTo e 0 seen done seen done
round_none w = record { wide = w; kept_seen = subset_itself; kept_done = subset_itself; so_far = λ a l. absurd (omega arith); goes_on = λ from c. c }

pub round_all : {e : Graph} {seen done seen' done' : List ℕ} → RoundTo e 16 seen done seen' done' → Climbed e seen done seen' done'
round_all u = record { kept = u.kept_done; all_done = record { each = λ a l. u.so_far a l l }; goes_on = u.goes_on }

-- one issuer more: what is seen of it and not done is lifted, and then all that is seen of it is done
module _ {e : Graph} (num : Numbered e) (n : ℕ) (ln : n < 16) (seen' done' : List ℕ) {seen done : List ℕ} (u : RoundTo e n seen done seen' done') where
  abbrev word : ℕ
  word = bit_and (get_or seen' n 0) (65535 - get_or done' n 0)

  word_bit : (q : ℕ) → q < 16 → bit word q ≡ in_set seen' n q && not (in_set done' n q)
  word_bit q l = bit-and (get_or seen' n 0) (65535 - get_or done' n 0) q ∙ ap (λ x. in_set seen' n q && x) (bit_not 16 (get_or done' n 0) q (u.wide.each n).fits l)

  pub word_inside : BitsIn word seen' n
  word_inside q l h = and_left (in_set seen' n q) _ (sym (word_bit q l) ∙ h)

  -- nothing to lift
  pub round_idle : word ≡ 0 → RoundTo e (n + 1) seen done seen' done'
  round_idle z = record {
    wide = u.wide;
    kept_seen = u.kept_seen;
    kept_done = u.kept_done;
    so_far = λ a l li m h. go a l li m h (ℕ_discrete a.issuer n);
    goes_on = u.goes_on;
  }
    where
      go : (a : Role) → a.issuer < n + 1 → a.issuer < 16 → a.number < 16 → among seen a ≡ true → Dec (a.issuer ≡ n) → among done' a ≡ true
      go a l li m h (no d) = u.so_far a (omega arith) li m h
      go a l li m h (yes p) = rw p ((and-not (in_set seen' n a.number) (in_set done' n a.number)).0 (sym (word_bit a.number m) ∙ rw z (bit_0 a.number)) (rw p at (u.kept_seen.each a li m h)))

  module _ {seen'' : List ℕ} (lift : Lifted e n word seen' seen'') (long : n < length done') (wide'' : get_or seen'' n 0 < 65536) where
    abbrev done'' : List ℕ
    done'' = set done' n (bit_or (get_or done' n 0) (get_or seen'' n 0))

    at_n : (q : ℕ) → in_set done'' n q ≡ in_set done' n q || in_set seen'' n q
    at_n q = ap (λ (x : ℕ). bit x q) (get_or-set_same done' n (bit_or (get_or done' n 0) (get_or seen'' n 0)) 0 long) ∙ bit-or (get_or done' n 0) (get_or seen'' n 0) q

    elsewhere : (j q : ℕ) → (j ≡ n → ⊥) → in_set done'' j q ≡ in_set done' j q
    elsewhere j q d = ap (λ (x : ℕ). bit x q) (get_or-set_other done' n j (bit_or (get_or done' n 0) (get_or seen'' n 0)) 0 d)

    still_wide : Wide done''
    still_wide = record { each = λ k. record { fits = go k (ℕ_discrete k n) } }
      where
        go : (k : ℕ) → Dec (k ≡ n) → get_or done'' k 0 < 65536
        go k (yes p) =
            rw (p, get_or-set_same done' n (bit_or (get_or done' n 0) (get_or seen'' n 0)) 0 long) (or_lt 16 (get_or done' n 0) (get_or seen'' n 0) (u.wide.each n).fits wide'')
        go k (no d) = rw (get_or-set_other done' n k (bit_or (get_or done' n 0) (get_or seen'' n 0)) 0 d) (u.wide.each k).fits

    keeps : Subset done' done''
    keeps = record { each = λ a l m h. go a h (ℕ_discrete a.issuer n) }
      where
        go : (a : Role) → among done' a ≡ true → Dec (a.issuer ≡ n) → among done'' a ≡ true
        go a h (yes p) = rw p (at_n a.number ∙ or_left (in_set done' n a.number) (in_set seen'' n a.number) (rw p at h))
        go a h (no d) = elsewhere a.issuer a.number d ∙ h

    cases : (b : Role) → among done'' b ≡ true → (among done' b ≡ true) ⊎ ((n ≡ b.issuer) × (in_set seen'' n b.number ≡ true))
    cases b h = go (ℕ_discrete b.issuer n)
      where
        go : Dec (b.issuer ≡ n) → (among done' b ≡ true) ⊎ ((n ≡ b.issuer) × (in_set seen'' n b.number ≡ true))
        go (no d) = inl (sym (elsewhere b.issuer b.number d) ∙ h)
        go (yes p) = split (or_cases (in_set done' n b.number) (in_set seen'' n b.number) (sym (at_n b.number) ∙ (rw p at h)))
          where
            split : (in_set done' n b.number ≡ true) ⊎ (in_set seen'' n b.number ≡ true) → (among done' b ≡ true) ⊎ ((n ≡ b.issuer) × (in_set seen'' n b.number ≡ true))
            split (inl x) = inl (rw p x)
            split (inr x) = inr (sym p, x)

    pub round_more : RoundTo e (n + 1) seen done seen'' done''
    round_more = record {
      wide = still_wide;
      kept_seen = subset_then u.kept_seen lift.kept;
      kept_done = subset_then u.kept_done keeps;
      so_far = λ a l li m h. made a l li m h (ℕ_discrete a.issuer n);
      goes_on = λ from c.
          let k = u.goes_on from c in
          record {
            begun = subset_then k.begun lift.kept;
            sound = lift.only from k.sound;
            closed = λ a b l m h t. close from k a b l m t (cases b h);
          };
    }
      where
        made : (a : Role) → a.issuer < n + 1 → a.issuer < 16 → a.number < 16 → among seen a ≡ true → Dec (a.issuer ≡ n) → among done'' a ≡ true
        made a l li m h (yes p) =
            rw p (at_n a.number ∙ or_right (in_set done' n a.number) (in_set seen'' n a.number) (rw p at (lift.kept.each a li m (u.kept_seen.each a li m h))))
        made a l li m h (no d) = keeps.each a li m (u.so_far a (omega arith) li m h)

        close : (from : List ℕ) → Climbing e from seen' done' → (a b : Role) → b.issuer < 16 → b.number < 16 → e a b ≡ true
            → (among done' b ≡ true) ⊎ ((n ≡ b.issuer) × (in_set seen'' n b.number ≡ true)) → among seen'' a ≡ true
        close from k a b l m t (inl x) = let (la, ma, _, _) = num a b t in lift.kept.each a la ma (k.closed a b l m x t)
        close from k a b l m t (inr (p, x)) = go (in_set done' n b.number) refl
          where
            go : (y : Bool) → in_set done' n b.number ≡ y → among seen'' a ≡ true
            go true z = let (la, ma, _, _) = num a b t in lift.kept.each a la ma (k.closed a b l m (rw p at z) t)
            go false z = lift.seniors b.number m x (λ h. word_bit b.number m ∙ and_intro (in_set seen' n b.number) _ h (ap not z)) a (rw p t)

-- ---- the whole walk
pub climb_begins : {e : Graph} {s none : List ℕ} → ((i r : ℕ) → in_set none i r ≡ false) → Climbing e s s none
climb_begins empty = record {
  begun = subset_itself;
  sound = λ a l m h. (a, l, m, h, itself);
  closed = λ a b l m h. absurd (clash h (empty b.issuer b.number));
}

pub climb_ends : {e : Graph} {from seen done : List ℕ} → Numbered e → Climbing e from seen done → Subset seen done → Reaching e from seen
climb_ends {e} {from} {seen} num c w = record { sound = c.sound; complete = λ a b l m h p. whole p (c.begun.each b l m h) }
  where
    whole : {a b : Role} → Reaches e a b → among seen b ≡ true → among seen a ≡ true
    whole itself h = h
    whole (down {b} {c = d} p k) h = let (_, _, l, m) = num b d k in whole p (c.closed b d l m (w.each d l m h) k)

pub climb_less : {e : Graph} {seen done seen' done' : List ℕ} → Climbed e seen done seen' done' → (Subset seen done → ⊥) → 256 - size done' < 256 - size done
climb_less {done = done} {done' = done'} c n = fewer_outside done done' c.kept (λ w. n (subset_then c.all_done w))
