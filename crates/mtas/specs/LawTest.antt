-- Which words are a lawful state, and the test for it (refusal 2). The test goes by word and bit.
use Rattle.std.specs.Prelude.{◌≡◌, ◌⊎◌, List, [], ◌∷◌, Bool, true, false, not, ◌&&◌, ◌||◌, ℕ, ◌<◌, eqb, ltb, length, get_or}
use Rattle.bits.specs.Below.{all_below}
use Rattle.mtas.specs.Fact.{Fact, opened}
use Rattle.mtas.specs.Needs.{needs}
use Rattle.mtas.specs.State.{State}
use Rattle.mtas.specs.Hierarchy.{Graph, nth_role, reaches}
use Rattle.mtas.specs.Law.{Lawful, attachments}
use Rattle.mtas.specs.Settle.{settle}
use Rattle.mtas.specs.Layout.{session_user, Cell, sixteen, its_user, in_session, cell, state_length, word_at, read, view}

-- what the number x of a word may be: a session's user is below 16, or 65535, and then no role is active there
abbrev pub Fits : List ℕ → Cell → ℕ → Type 0
Fits ws (sixteen f) x = Unit
Fits ws (its_user i s) x = (x < 16) ⊎ (x ≡ 65535)
Fits ws (in_session i s f) x = read ws (session_user i s) ≡ 65535 → x ≡ 0

-- words are lawful where they are as many and as wide as the layout says, each is one that its sort may be, and the state they say is lawful
pub record LawfulWords (ws : List ℕ) : Type 0 where
  pub long : length ws ≡ state_length
  pub wide : (k : ℕ) → get_or ws k 0 < 65536
  pub fit : (k : ℕ) → k < state_length → Fits ws (cell (word_at k)) (get_or ws k 0)
  pub lawful : Lawful (view ws)

-- a test of every word, with its place
abbrev pub every_word : List ℕ → (ℕ → ℕ → Bool) → Bool
every_word ws t = all_below state_length (λ k. t k (get_or ws k 0))

abbrev pub fits : List ℕ → Cell → ℕ → Bool
fits ws (sixteen f) x = true
fits ws (its_user i s) x = ltb x 16 || eqb x 65535
fits ws (in_session i s f) x = not (eqb (read ws (session_user i s)) 65535) || eqb x 0

-- the fact that bit n of a word says, or the number n of a session's user
abbrev pub said : List ℕ → Cell → ℕ → Fact
said ws (sixteen f) n = f n
said ws (its_user i s) n = opened i s n
said ws (in_session i s f) n = f (read ws (session_user i s)) n

-- every fact of the list passes
unfoldable pub all_of : (Fact → Bool) → List Fact → Bool
all_of t [] = true
all_of t (f ∷ l) = elim (t f) [ true ↦ all_of t l | false ↦ false ]

-- f has what it needs, if it stands
unfoldable pub has_needs : State → Fact → Bool
has_needs st f = elim (st.stands f) [ true ↦ all_of (λ g. st.stands g) (needs f) | false ↦ true ]

-- f stays where the state is settled, if it stands: an active role is reached by a held one
unfoldable pub stays : State → Fact → Bool
stays st f = elim (st.stands f) [ true ↦ (settle st).stands f | false ↦ true ]

-- no link of the 256 roles is part of a circle
unfoldable pub no_circle : Graph → Bool
no_circle below = all_below 256 (λ a. all_below 256 (λ b. not (below (nth_role a) (nth_role b) && reaches below (nth_role b) (nth_role a))))

unfoldable pub lawful_words : List ℕ → Bool
lawful_words ws =
    eqb (length ws) state_length
    && (every_word ws (λ k x. ltb x 65536)
    && (every_word ws (λ k x. fits ws (cell (word_at k)) x)
    && (every_word ws (λ k x. all_below 16 (λ n. has_needs (view ws) (said ws (cell (word_at k)) n)))
    && (every_word ws (λ k x. all_below 16 (λ n. stays (view ws) (said ws (cell (word_at k)) n)))
    && no_circle (attachments (view ws))))))
