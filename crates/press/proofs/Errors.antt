-- Which error is given, and what is left then.
use Rattle.std.proofs.Common.{◌≡◌, refl, ap, sym, subst, ◌∙◌, ◌≢◌, Bool, true, false, List, ℕ, arith, get_or, set}
use Rattle.bits.proofs.Booleans.{clash}
use Rattle.press.specs.Stages.{Next, to, wrong_stage, next_stage}
use Rattle.press.specs.Acted.{Result, ends_in, misfit, turned_away, moved, acted, act}
use Rattle.press.specs.Errors.{Leads, Misfit, TurnedAway, Given, misfits, is_turned_away, at_wrong_stage, goes_ahead, Errors}
use Rattle.press.proofs.Table.{next-leads, nowhere}
use Rattle.press.proofs.Misfits.{misfit_sound, in_order}
use Rattle.press.proofs.Asking.{answered, away_complete, away_sound}

module _ (ws owners stages : List ℕ) (press action i s : ℕ) where
  abbrev owner : ℕ
  owner = get_or owners press 0

  abbrev found : Result
  found = act ws owners stages press action i s

  abbrev InOrder : Type 0
  InOrder = Misfit owners stages press action → ⊥

  abbrev Welcome : Type 0
  Welcome = TurnedAway ws owner action i s → ⊥

  -- what the three tests come to
  abbrev ending : Bool → Bool → Next → Result
  ending true away next = ends_in 17 stages ws
  ending false true next = ends_in 18 stages ws
  ending false false next = moved next press stages ws

  pub ends : {m away : Bool} {next : Next} → misfit owners stages press action ≡ m → turned_away (answered ws owner action i s) ≡ away
      → next_stage action (get_or stages press 0) ≡ next → found ≡ ending m away next
  unfolding act acted
  ends {m = true} e d h = rw (e, acted)
  ends {m = false} {away = true} e d h = rw (e, d, acted)
  ends {m = false} {away = false} e d h = rw (e, d, h, acted)

  welcome : turned_away (answered ws owner action i s) ≡ false → Welcome
  welcome d t = clash (away_complete ws owner action i s t) d

  -- an action that went ahead
  pub record Went : Type 0 where
    pub in_its_order : InOrder
    pub its_welcome : Welcome
    pub next : ℕ
    pub leads : Leads action (get_or stages press 0) next
    pub left : found ≡ ends_in 0 (set stages press next) ws

  -- the ways to end: it went ahead, or an error is given and nothing changed
  pub data Ended : Type 0 where
    ahead : Went → Ended
    stopped : (n : ℕ) → n ≢ 0 → Given ws owners stages press action i s n → found ≡ ends_in n stages ws → Ended

  pub ended : Ended
  ended = go (misfit owners stages press action) refl (turned_away (answered ws owner action i s)) refl (next_stage action (get_or stages press 0)) refl
    where
      go : (m : Bool) → misfit owners stages press action ≡ m → (away : Bool) → turned_away (answered ws owner action i s) ≡ away
          → (next : Next) → next_stage action (get_or stages press 0) ≡ next → Ended
      go true e away d next h = stopped 17 (λ z. omega arith) (misfits (misfit_sound owners stages press action e)) (ends e d h)
      go false e true d next h = stopped 18 (λ z. omega arith) (is_turned_away (in_order owners stages press action e) (away_sound ws owner action i s d)) (ends e d h)
      go false e false d wrong_stage h = stopped 19 (λ z. omega arith) (at_wrong_stage (in_order owners stages press action e) (welcome d) (nowhere action _ h)) (ends e d h)
      go false e false d (to t) h = ahead (record { in_its_order = in_order owners stages press action e; its_welcome = welcome d; next = t; leads = next-leads action _ t h; left = ends e d h })

  went : Went → Given ws owners stages press action i s 0
  went w = goes_ahead w.in_its_order w.its_welcome (λ x. x w.next w.leads)

  given : (n : ℕ) → found.error ≡ n → Given ws owners stages press action i s n
  given n e = go ended
    where
      go : Ended → Given ws owners stages press action i s n
      go (ahead w) = subst (Given ws owners stages press action i s) (ap (λ r. r.error) (sym w.left) ∙ e) (went w)
      go (stopped m d g h) = subst (Given ws owners stages press action i s) (ap (λ r. r.error) (sym h) ∙ e) g

  -- no two errors are given
  one_given : {n m : ℕ} → Given ws owners stages press action i s n → Given ws owners stages press action i s m → n ≡ m
  one_given (misfits x) (misfits y) = refl
  one_given (misfits x) (is_turned_away f y) = absurd (f x)
  one_given (misfits x) (at_wrong_stage f a y) = absurd (f x)
  one_given (misfits x) (goes_ahead f a y) = absurd (f x)
  one_given (is_turned_away f x) (misfits y) = absurd (f y)
  one_given (is_turned_away f x) (is_turned_away g y) = refl
  one_given (is_turned_away f x) (at_wrong_stage g a y) = absurd (a x)
  one_given (is_turned_away f x) (goes_ahead g a y) = absurd (a x)
  one_given (at_wrong_stage f a x) (misfits y) = absurd (f y)
  one_given (at_wrong_stage f a x) (is_turned_away g y) = absurd (a y)
  one_given (at_wrong_stage f a x) (at_wrong_stage g b y) = refl
  one_given (at_wrong_stage f a x) (goes_ahead g b y) = absurd (y x)
  one_given (goes_ahead f a x) (misfits y) = absurd (f y)
  one_given (goes_ahead f a x) (is_turned_away g y) = absurd (a y)
  one_given (goes_ahead f a x) (at_wrong_stage g b y) = absurd (x y)
  one_given (goes_ahead f a x) (goes_ahead g b y) = refl

pub errors : Errors
errors ws owners stages press action i s n = (
  λ e. given ws owners stages press action i s n e,
  λ g. one_given ws owners stages press action i s (given ws owners stages press action i s _ refl) g,
)
