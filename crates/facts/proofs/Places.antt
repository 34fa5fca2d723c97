-- A fact's place says it: whatever its numbers, it stands where its place says so.
use Rattle.std.specs.Prelude.{Option, None, Some}
use mathlib.Core.Path.{◌≡◌, refl, ap, sym, subst, ◌∙◌}
use mathlib.Core.List.{List, [], ◌∷◌}
use mathlib.Core.Bool.{Bool, true, false}
use Prim.Native.Nat.{ℕ, ◌<◌}
use native.Mathlib.Omega.{arith}
use lib.ListN.{get_or}
use mathlib.Core.Logic.{◌⊎◌, inl, inr}
use Rattle.bits.proofs.Booleans.{clash}
use Rattle.mtas.specs.Fact as model
use Rattle.mtas.specs.State.{user_of}
use Rattle.mtas.specs.Layout as words
use Rattle.mtas.specs.LawTest.{lawful_words}
use Rattle.mtas.proofs.LawTest.{lawful_words-sound}
use Rattle.mtas.proofs.Address.{address_below}
use Rattle.mtas.proofs.Cells.{PlaceNumbered, place-numbered}
use Rattle.mtas.proofs.Sessions.{user_cases, user_passes}
use Rattle.mtas.proofs.Words.{view_numbered, sound-words, contents_view}
use Rattle.mtas.proofs.Facts.{below_16, none_above_15}
use Rattle.facts.specs.declared.Place.{Place}
use Rattle.facts.specs.Table.{spot, place_of, says_at, Inside}

-- ---- what it says
says_at-tells : (ws : List ℕ) (p : words.Place) → says_at ws (spot p) ≡ words.tells ws p
says_at-tells ws (words.bit_of w n) = refl
says_at-tells ws (words.user_in i s u) = refl
says_at-tells ws (words.bit_while i s u w n) = refl

spot-inside : (p : words.Place) → PlaceNumbered p → Inside (spot p)
spot-inside (words.bit_of w n) (b, l) = (address_below w b, l)
spot-inside (words.user_in i s u) h = omega arith
spot-inside (words.bit_while i s u w n) (li, ls, lu, b, l) = (address_below (words.session_user i s) (li, (ls, tt)), lu, address_below w b, l)

abbrev Within : Option Place → Type 0
Within None = Unit
Within (Some p) = Inside p

abbrev told : List ℕ → Option Place → Bool
told ws None = false
told ws (Some p) = says_at ws p

module _ (f : model.Fact) where
  within : Within (place_of f)
  unfolding place_of
  within = go (model.above_15 (model.numbers f)) refl
    where
      go : (b : Bool) → model.above_15 (model.numbers f) ≡ b → Within (place_of f)
      go true e = rw (e, place_of, Within) tt
      go false e = rw (e, place_of, Within) (spot-inside (words.place f) ((place-numbered f).0 (below_16 (model.numbers f) e)))

  told-view : (ws : List ℕ) → told ws (place_of f) ≡ (words.view ws).stands f
  unfolding place_of words.view
  told-view ws = go (model.above_15 (model.numbers f)) refl
    where
      go : (b : Bool) → model.above_15 (model.numbers f) ≡ b → told ws (place_of f) ≡ (words.view ws).stands f
      go true e = rw (e, place_of, words.view, told)
      go false e = rw (e, place_of, words.view, told) (says_at-tells ws (words.place f))

  module _ {o : Option Place} (is : o ≡ place_of f) where
    pub inside : {p : Place} → o ≡ Some p → Inside p
    inside d = subst Within (sym is ∙ d) within

    pub stands_as : (ws : List ℕ) {q : Option Place} {b : Bool} → o ≡ q → b ≡ told ws q → b ≡ (words.view ws).stands f
    stands_as ws d h = h ∙ ap (told ws) (sym d ∙ is) ∙ told-view ws

-- ---- a session's user
module _ (ws : List ℕ) (lawful : lawful_words ws ≡ true) (i s : ℕ) where
  pub no_user : model.above_15 (i ∷ s ∷ []) ≡ true → 65535 ≡ user_of (words.view ws) i s
  no_user t = go (user_cases (words.view ws) i s)
    where
      u : ℕ
      u = user_of (words.view ws) i s

      go : (u < 16) ⊎ (u ≡ 65535) → 65535 ≡ u
      go (inl l) =
          let n = view_numbered ws (model.opened i s u) (user_passes (words.view ws) i s l) in
          absurd (clash t (none_above_15 (i ∷ s ∷ []) (n.0, (n.1.0, tt))))
      go (inr e) = sym e

  pub read_user : i < 16 → s < 16 → get_or ws (words.address (words.session_user i s)) 0 ≡ user_of (words.view ws) i s
  read_user l m = sym (contents_view ws (sound-words (lawful_words-sound ws lawful)) (words.session_user i s) (l, (m, tt)))
