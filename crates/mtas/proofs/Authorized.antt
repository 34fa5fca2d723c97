-- The test for Authorized is sound, and complete where only numbered roles are linked and held; more holdings and links authorize for more.
use mathlib.Core.Path.{◌≡◌}
use mathlib.Core.Bool.{Bool, true}
use Prim.Native.Nat.{ℕ}
use Rattle.bits.proofs.Below.{any_both_intro, any_both_elim}
use Rattle.mtas.specs.Fact.{Fact, holds, attached, numbers, Below16}
use Rattle.mtas.specs.State.{State}
use Rattle.mtas.specs.Hierarchy.{Role, ◌#◌, Graph, reaches}
use Rattle.mtas.specs.Law.{attachments, Authorized}
use Rattle.mtas.specs.Settle.{authorized}
use Rattle.mtas.proofs.Hierarchy.{Numbered, fewer_links, reaches-sound, reaches-complete}

-- every fact that stands has numbers below 16
abbrev pub AllNumbered : State → Type 0
AllNumbered st = (f : Fact) → st.stands f ≡ true → Below16 (numbers f)

pub attachments-numbered : (st : State) → AllNumbered st → Numbered (attachments st)
attachments-numbered st n a b h =
    let t = n (attached b.issuer b.number a.issuer a.number) h in
    (t.1.1.0, t.1.1.1.0, t.0, t.1.0)

module _ (st : State) (below : Graph) (i u r : ℕ) where
  abbrev held_too : ℕ → Bool
  held_too h = st.stands (holds i u h)

  abbrev reaches_it : ℕ → Bool
  reaches_it h = reaches below (i # h) (i # r)

  pub authorized_sound : authorized st below i u r ≡ true → Authorized st below i u r
  unfolding authorized
  authorized_sound e =
      let (h, l, a, w) = any_both_elim 16 held_too reaches_it e in
      record { through = h; is_held = a; is_reached = reaches-sound below (i # h) (i # r) w }

  pub authorized_complete : AllNumbered st → Numbered below → Authorized st below i u r → authorized st below i u r ≡ true
  unfolding authorized
  authorized_complete n m A =
      any_both_intro 16 held_too reaches_it A.through (n (holds i u A.through) A.is_held).1.1.0 A.is_held
      (reaches-complete below m A.is_reached)

-- who is authorized stays so where no holding and no link is missing
pub more-authorized : {st st' : State} {e e' : Graph} {i u r : ℕ} → ((h : ℕ) → st.stands (holds i u h) ≡ true → st'.stands (holds i u h) ≡ true)
    → ((a b : Role) → e a b ≡ true → e' a b ≡ true) → Authorized st e i u r → Authorized st' e' i u r
more-authorized m k A = record { through = A.through; is_held = m A.through A.is_held; is_reached = fewer_links k A.is_reached }
