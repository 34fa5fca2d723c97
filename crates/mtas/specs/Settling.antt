-- What settling does (document 02, Card 2), and that Breaks leaves one state only.
use Rattle.std.specs.Prelude.{◌≡◌, true, ℕ}
use Rattle.mtas.specs.Fact.{Fact, numbers, Below16}
use Rattle.mtas.specs.State.{State}
use Rattle.mtas.specs.Law.{Lawful}
use Rattle.mtas.specs.Settle.{settle, Unreached}
use Rattle.mtas.specs.Call.{Call}
use Rattle.mtas.specs.Answer.{next}
use Rattle.mtas.specs.Cascades.{Clears, Breaks}

pub record Settling : Type 1 where
  -- exactly the active roles that no held role reaches go, where only numbered facts stand
  pub drops : (st : State) → ((f : Fact) → st.stands f ≡ true → Below16 (numbers f)) → Clears (Unreached st) st (settle st)
  -- a lawful state is settled, and so is what every call leaves, accepted or not: a put needs no settling
  pub lawful_settled : (st : State) → Lawful st → settle st ≡ st
  pub always_settled : (st : State) → Lawful st → (c : ℕ) (k : Call) → settle (next st c k) ≡ next st c k
  -- the same facts gone from the same state leave the same state
  pub one_state : (Gone : Fact → Type 0) (a b c : State) → Breaks Gone a b → Breaks Gone a c → b ≡ c
