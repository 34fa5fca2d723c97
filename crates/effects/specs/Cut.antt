-- What the function that cuts a fact asks of the words it is lent, and what it leaves of them.
use Rattle.std.specs.Prelude.{◌≡◌, List, Bool, true, false, not, ◌||◌, ℕ}
use Rattle.mtas.specs.Fact.{Fact, enrolled, trusts, user, role, permission, public, holds, granted, attached, opened, active, same, numbers, Below16}
use Rattle.mtas.specs.State.{cut}
use Rattle.mtas.specs.Layout.{encode, view}
use Rattle.mtas.specs.LawTest.{LawfulWords}

-- f isn't an issuer's trust in itself, which no call cuts alone
abbrev pub Apart : Fact → Type 0
Apart f = (i : ℕ) → same f (trusts i i) ≡ false

pub record MayCut (f : Fact) (ws : List ℕ) : Type 0 where
  pub lawful : LawfulWords ws
  pub numbered : Below16 (numbers f)
  pub apart : Apart f

-- vs: the words of the state that ws say, without f and all that needs it
pub record Cut (f : Fact) (ws vs : List ℕ) : Type 0 where
  pub words : vs ≡ encode (cut f (view ws))

-- f says that a user holds a role
abbrev pub is_holding : Fact → Bool
is_holding (enrolled i) = false
is_holding (trusts i j) = false
is_holding (user i u) = false
is_holding (role i r) = false
is_holding (permission i p) = false
is_holding (public i r) = false
is_holding (holds i u r) = true
is_holding (granted j p i r) = false
is_holding (attached j q i r) = false
is_holding (opened i s u) = false
is_holding (active i s u r) = false

-- b: whether a reach may break where f is cut; plain: each user holds its active roles itself
pub record Breaking (plain : Bool) (f : Fact) (b : Bool) : Type 0 where
  pub is : b ≡ not plain || is_holding f
