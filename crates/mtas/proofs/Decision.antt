-- Demand 2's 'if and only if': the lookup of kind 21 gives a role exactly where the session may use the permission through it, and through no lower one.
-- The test behind it is said of any graph and any test of holders.
use mathlib.Core.Path.{◌≡◌, refl, ap, ◌∙◌}
use mathlib.Core.Logic.{◌↔◌}
use mathlib.Core.Option.{Option, none, some}
use mathlib.Core.Bool.{Bool, true, ◌&&◌}
use Prim.Native.Nat.{ℕ}
use Rattle.bits.specs.Below.{any_below}
use Rattle.bits.proofs.Booleans.{and_left, and_right, and_intro}
use Rattle.bits.proofs.Below.{any_both_intro, any_both_elim}
use Rattle.mtas.specs.Fact.{granted, opened, active}
use Rattle.mtas.specs.State.{State, user_of}
use Rattle.mtas.specs.Hierarchy.{Role, ◌#◌, Graph, reaches}
use Rattle.mtas.specs.Law.{here, attachments, holders_of, Lawful}
use Rattle.mtas.specs.Answer.{may_use_through, lookup}
use Rattle.mtas.specs.Decision.{MayUseThrough, MayUsePermissionThrough, MayUsePermission}
use Rattle.mtas.specs.Through.{LowestThrough}
use Rattle.mtas.proofs.Hierarchy.{Numbered, reaches-sound, reaches-complete}
use Rattle.mtas.proofs.Authorized.{attachments-numbered}
use Rattle.mtas.proofs.Law.{rooted}
use Rattle.mtas.proofs.Sessions.{user_is}
use Rattle.mtas.proofs.Lowest.{Small, lowest_found, none_found, lowest_is}

module _ (below : Graph) (holder : Role → Bool) (numbered : Numbered below) (st : State) (L : Lawful st) (i s : ℕ) (b : Role) where
  abbrev on : ℕ → Bool
  on r = st.stands (active i s (user_of st i s) r)

  abbrev to : ℕ → Bool
  to r = reaches below (i # r) b

  pub may_use_through_iff : (may_use_through st below holder i s b ≡ true) ↔ MayUseThrough st below holder i s b
  unfolding may_use_through
  may_use_through_iff = (sound, complete)
    where
      sound : holder b && any_below 16 (λ r. on r && to r) ≡ true → MayUseThrough st below holder i s b
      sound h =
          let (r, l, a, w) = any_both_elim 16 on to (and_right (holder b) (any_below 16 (λ r. on r && to r)) h) in
          record {
            its_user = user_of st i s;
            its_role = r;
            is_open = L.supported (active i s (user_of st i s) r) (opened i s (user_of st i s)) a here;
            is_active = a;
            is_reached = reaches-sound below (i # r) b w;
            is_holder = and_left (holder b) (any_below 16 (λ r. on r && to r)) h;
          }

      complete : MayUseThrough st below holder i s b → holder b && any_below 16 (λ r. on r && to r) ≡ true
      complete m =
          and_intro (holder b) (any_below 16 (λ r. on r && to r)) m.is_holder
          (any_both_intro 16 on to m.its_role
          (L.numbered (active i s m.its_user m.its_role) m.is_active).1.1.1.0
          (ap (λ u. st.stands (active i s u m.its_role)) (user_is st (rooted L) i s m.its_user m.is_open) ∙ m.is_active)
          (reaches-complete below numbered m.is_reached))

module _ (st : State) (L : Lawful st) where
  pub holders_numbered : (j p : ℕ) (b : Role) → holders_of st j p b ≡ true → Small b
  holders_numbered j p b g = let t = L.numbered (granted j p b.issuer b.number) g in (t.1.1.0, t.1.1.1.0)

  -- through the attachments that stand
  module _ (j p i s : ℕ) where
    abbrev pub test : Role → Bool
    test b = may_use_through st (attachments st) (holders_of st j p) i s b

    pub test_iff : (b : Role) → (test b ≡ true) ↔ MayUsePermissionThrough st j p i s b
    test_iff b = may_use_through_iff (attachments st) (holders_of st j p) (attachments-numbered st L.numbered) st L i s b

    known : (b : Role) → test b ≡ true → Small b
    known b h = holders_numbered j p b ((test_iff b).0 h).is_holder

    pub lookup_iff : (a : Role) → (lookup st j p i s ≡ some a) ↔ LowestThrough st j p i s a
    unfolding lookup
    lookup_iff a = (
      λ e. let l = lowest_found test known a e in
          record { may = (test_iff a).0 l.passes; none_lower = λ b h m. l.none_lower b h ((test_iff b).1 m) },
      λ l. lowest_is test known a (record { passes = (test_iff a).1 l.may; none_lower = λ b h t. l.none_lower b h ((test_iff b).0 t) }),
    )

    pub none_iff : (lookup st j p i s ≡ none) ↔ (MayUsePermission st j p i s → ⊥)
    unfolding lookup
    none_iff = (λ e m. none_found test known e m.reached ((test_iff m.reached).1 m.may), λ n. go (lookup st j p i s) refl n)
      where
        go : (o : Option Role) → lookup st j p i s ≡ o → (MayUsePermission st j p i s → ⊥) → lookup st j p i s ≡ none
        go none e n = e
        go (some a) e n = absurd (n (record { reached = a; may = ((lookup_iff a).0 e).may }))
