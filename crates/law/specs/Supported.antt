-- The parts of the law test (document 01, 'Lawful means'), and what a survey of the words finds.
use Rattle.std.specs.Prelude.{◌≡◌, ◌↔◌, List, true, ℕ}
use Rattle.bits.specs.Gather.{gather}
use Rattle.mtas.specs.Fact.{Fact}
use Rattle.mtas.specs.Needs.{needs}
use Rattle.mtas.specs.Law.{In}
use Rattle.mtas.specs.Layout.{Word, bit_of, place, view}
use Rattle.law.specs.Stray.{issuer_doubt}

-- what stands has what it needs, but for sessions and their active roles
pub record Supported (ws : List ℕ) : Type 0 where
  pub supported : (f g : Fact) (w : Word) (n : ℕ) → place f ≡ bit_of w n → (view ws).stands f ≡ true → In g (needs f) → (view ws).stands g ≡ true

-- no bit is stray where the words are supported; and what is doubtful in the sessions
pub record Surveyed (ws : List ℕ) (stray doubt : ℕ) : Type 0 where
  pub none_stray : (stray ≡ 0) ↔ Supported ws
  pub doubtful : doubt ≡ gather 16 (issuer_doubt ws)
