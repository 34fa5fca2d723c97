-- What an action needs, what it changes, and whom a press obeys (Card 6): on any words and any lists.
use Rattle.std.specs.Prelude.{◌≡◌, ◌↔◌, ◌≢◌, List, ℕ, ◌<◌, length, get_or}
use Rattle.std.proofs.Math.Option.{some}
use Rattle.std.proofs.Math.ListN.{get_elem?}
use Rattle.mtas.specs.Decision.{MayUsePermission}
use Rattle.mtas.specs.Chain.{Chain}
use Rattle.mtas.specs.Layout.{view}
use Rattle.mtas.specs.LawTest.{LawfulWords}
use Rattle.press.specs.Acted.{act}
use Rattle.press.specs.Errors.{Leads}
use Rattle.press.specs.Floor.{Request, floor}

-- lists of 32 owners 0 to 15 and of 32 stages 0 to 3, a press 0 to 31, an action 0 to 4
pub record Fits (owners stages : List ℕ) (press action : ℕ) : Type 0 where
  pub owners_32 : length owners ≡ 32
  pub stages_32 : length stages ≡ 32
  pub a_press : press < 32
  pub an_action : action < 5
  pub issuers : (k : ℕ) → get_or owners k 0 < 16
  pub four_stages : (k : ℕ) → get_or stages k 0 < 4

-- all that an action needs: the session may use the permission of the press's owner that has the action's number
pub record MayGoAhead (ws owners stages : List ℕ) (press action i s : ℕ) : Type 0 where
  pub fits : Fits owners stages press action
  pub lawful : LawfulWords ws
  pub may : MayUsePermission (view ws) (get_or owners press 0) action i s
  pub next : ℕ
  pub leads : Leads action (get_or stages press 0) next

-- 'Only that press's stage byte changes'
pub record OnlyThatPress (press action : ℕ) (before after : List ℕ) : Type 0 where
  pub as_long : length after ≡ length before
  pub led : Leads action (get_or before press 0) (get_or after press 0)
  pub others : (k : ℕ) → k ≢ press → get_or after k 0 ≡ get_or before k 0

pub record PressLaws : Type 0 where
  -- 17 is given where these don't fit, whatever the desk would say
  pub fits_iff : (ws owners stages : List ℕ) (press action i s : ℕ)
      → ((act ws owners stages press action i s).error ≢ 17) ↔ Fits owners stages press action
  pub ahead_iff : (ws owners stages : List ℕ) (press action i s : ℕ)
      → ((act ws owners stages press action i s).error ≡ 0) ↔ MayGoAhead ws owners stages press action i s
  pub one_byte : (ws owners stages : List ℕ) (press action i s : ℕ)
      → (act ws owners stages press action i s).error ≡ 0 → OnlyThatPress press action stages (act ws owners stages press action i s).stages
  -- 'and otherwise none'
  pub no_byte : (ws owners stages : List ℕ) (press action i s : ℕ)
      → (act ws owners stages press action i s).error ≢ 0 → (act ws owners stages press action i s).stages ≡ stages
  pub words_stay : (ws owners stages : List ℕ) (press action i s : ℕ) → (act ws owners stages press action i s).words ≡ ws
  -- 'An estate from which no chain of trust leads to the owner can't move the press, however the state came about'
  pub no_chain : (ws owners stages : List ℕ) (press action i s : ℕ) → (Chain (view ws) i (get_or owners press 0) → ⊥)
      → ((act ws owners stages press action i s).error ≢ 0) × ((act ws owners stages press action i s).stages ≡ stages)
  -- however often it is tried, and whatever is asked of other presses in between: of a list, all requests that name press k are such an estate's
  pub stands_still : (ws owners stages : List ℕ) (k : ℕ) (l : List Request)
      → ((n : ℕ) (q : Request) → get_elem? l n ≡ some q → q.press ≡ k → Chain (view ws) q.issuer (get_or owners k 0) → ⊥)
      → get_or (floor ws owners stages l).stages k 0 ≡ get_or stages k 0
