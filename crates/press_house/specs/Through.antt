-- Card 7's cases, from S: 'the one with the lowest issuer number, then the lowest role number' of the roles that hold 1%5 and that 0#2, active in 0/4, reaches.
use Rattle.std.specs.Prelude.{List, [], ◌∷◌, ◌++◌, ℕ}
use Rattle.mtas.specs.Record.{record_of}
use Rattle.mtas.specs.Histories.{History}
use Rattle.press_house.specs.Cases.{accepts, says_yes, Case, try}

-- 0#r is added and public, and has 1%5
abbrev holder_of_0 : ℕ → History
holder_of_0 r = record_of 7 0 (r ∷ []) ∷ record_of 22 0 (r ∷ []) ∷ record_of 13 1 (5 ∷ 0 ∷ r ∷ []) ∷ []

-- 15 is enrolled, 0 trusts it and it trusts 1; 15#15 is public, has 1%5 and is attached below 0#2
abbrev below_of_15 : History
below_of_15 =
    record_of 1 16 (15 ∷ []) ∷ record_of 3 0 (15 ∷ []) ∷ record_of 3 15 (1 ∷ []) ∷ record_of 7 15 (15 ∷ []) ∷ record_of 22 15 (15 ∷ [])
    ∷ record_of 13 1 (5 ∷ 15 ∷ 15 ∷ []) ∷ record_of 15 15 (15 ∷ 0 ∷ 2 ∷ []) ∷ []

-- 1#r is added, has 1%5 and is attached below 0#2
abbrev below_of_1 : ℕ → History
below_of_1 r = record_of 7 1 (r ∷ []) ∷ record_of 13 1 (5 ∷ 1 ∷ r ∷ []) ∷ record_of 15 1 (r ∷ 0 ∷ 2 ∷ []) ∷ []

-- 1%5 is no longer 0#2's
abbrev ungranted : History
ungranted = record_of 14 1 (5 ∷ 0 ∷ 2 ∷ []) ∷ []

-- after a history 1 asks for 1%5 and 0/4, and is told yes through the role
abbrev yes_through : History → ℕ → ℕ → Case
yes_through h i r = try h (record_of 21 1 (5 ∷ 0 ∷ 4 ∷ [])) (says_yes i r) []

abbrev pub through_cases : List Case
through_cases =
    -- the lowest issuer before the lowest role: 1#0 holds it too
    yes_through (below_of_1 0) 0 2
    ∷ yes_through (below_of_1 0 ++ ungranted) 1 0
    -- of one issuer the lowest role
    ∷ yes_through (holder_of_0 1 ++ (record_of 15 0 (1 ∷ 0 ∷ 2 ∷ []) ∷ [])) 0 1
    ∷ yes_through (holder_of_0 4 ++ (record_of 15 0 (4 ∷ 0 ∷ 2 ∷ []) ∷ [])) 0 2
    ∷ yes_through (below_of_1 6 ++ (below_of_1 4 ++ ungranted)) 1 4
    -- 0#1 holds it and isn't reached; 0#1 is reached and doesn't hold it
    ∷ yes_through (holder_of_0 1) 0 2
    ∷ yes_through (record_of 7 0 (1 ∷ []) ∷ record_of 15 0 (1 ∷ 0 ∷ 2 ∷ []) ∷ []) 0 2
    -- 0#2 is held and no longer active, 0#3 below it is: both hold it
    ∷ yes_through (record_of 15 0 (3 ∷ 0 ∷ 2 ∷ []) ∷ record_of 19 0 (4 ∷ 3 ∷ []) ∷ record_of 22 0 (3 ∷ []) ∷ record_of 13 1 (5 ∷ 0 ∷ 3 ∷ []) ∷ record_of 20 0 (4 ∷ 2 ∷ []) ∷ []) 0 3
    -- 0#3 is active too, and reaches 0#1, which 0#2 doesn't
    ∷ yes_through (holder_of_0 1 ++ (record_of 11 0 (3 ∷ 3 ∷ []) ∷ record_of 19 0 (4 ∷ 3 ∷ []) ∷ record_of 15 0 (1 ∷ 0 ∷ 3 ∷ []) ∷ [])) 0 1
    -- the last of all roles; and who comes before it
    ∷ yes_through (below_of_15 ++ ungranted) 15 15
    ∷ yes_through (below_of_15 ++ (below_of_1 0 ++ ungranted)) 1 0
    -- the first of all roles
    ∷ yes_through (below_of_1 0 ++ (holder_of_0 0 ++ (record_of 15 0 (0 ∷ 0 ∷ 2 ∷ []) ∷ []))) 0 0
    -- reached and not held, held and not reached: no role
    ∷ try (holder_of_0 1 ++ ungranted) (record_of 21 1 (5 ∷ 0 ∷ 4 ∷ [])) accepts []
    ∷ []
