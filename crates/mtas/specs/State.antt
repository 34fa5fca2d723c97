-- A state says of every fact whether it stands. Two changes make every call: facts are put, or one fact is cut with all that needs it.
use Rattle.std.specs.Prelude.{List, [], ◌∷◌, Bool, true, false, ℕ}
use Rattle.bits.specs.Below.{find_below}
use Rattle.bits.specs.Bit.{pack}
use Rattle.mtas.specs.Fact.{Fact, opened, same}
use Rattle.mtas.specs.Needs.{needs}

pub record State : Type 0 where
  pub stands : Fact → Bool

-- the state that starting leaves: nobody is enrolled and every session is closed
abbrev pub nothing : State
nothing = record { stands = λ f. false }

-- f is in the list
unfoldable pub listed : List Fact → Fact → Bool
listed [] f = false
listed (g ∷ l) f = elim (same f g) [ true ↦ true | false ↦ listed l f ]

unfoldable pub put : List Fact → State → State
put l st = record { stands = λ g. elim (listed l g) [ true ↦ true | false ↦ st.stands g ] }

-- f goes, with all that needs it: document 01's cascades are this one, but for active roles that lose their reach (Settle).
unfoldable pub cut : Fact → State → State
cut f st = record { stands = λ g. elim (listed (g ∷ needs g) f) [ true ↦ false | false ↦ st.stands g ] }

-- the facts of sixteen bits as a word
abbrev pub packed : State → (ℕ → Fact) → ℕ
packed st f = pack 16 (λ n. st.stands (f n))

-- the user of the session i/s, or 65535 where it is closed
abbrev pub user_of : State → ℕ → ℕ → ℕ
user_of st i s = find_below 16 (λ u. st.stands (opened i s u)) 65535
