-- What the code's `Found` says, in the model's terms.
use Rattle.std.specs.Prelude.{◌≡◌, List, ℕ, ◌+◌, ◌≤◌, length}
use Rattle.mtas.specs.Journal as model
use Rattle.journal.specs.declared.Found.{Found}
use Rattle.journal.specs.declared.Found.TheVariants.{NoMore, Whole, Partial}

abbrev pub found_of : Found → model.Found
found_of NoMore = model.no_more
found_of (Whole len) = model.whole len
found_of Partial = model.partial

-- a whole record that was found at a place has 5 bytes at least, and ends in the journal
pub record Inside (journal : List ℕ) (at : ℕ) (r : Found) : Type 0 where
  pub whole : {len : ℕ} → r ≡ Whole len → (5 ≤ len) × (at + len ≤ length journal)
