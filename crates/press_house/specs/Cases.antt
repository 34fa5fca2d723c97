-- Document 01's twelve press-house cases, as one table and one statement; further cases that a wrong walk, guard or cascade would fail; and those of Cards 1, 2 and 4.
use Rattle.std.specs.Prelude.{◌≡◌, List, [], ◌∷◌, ◌++◌, false, ℕ}
use Rattle.bits.specs.Below.{tabulate}
use Rattle.mtas.specs.Fact.{Fact, enrolled, trusts, user, role, permission, public, holds, granted, attached, opened, active}
use Rattle.mtas.specs.State.{State, nothing, put}
use Rattle.mtas.specs.Hierarchy.{◌#◌}
use Rattle.mtas.specs.Answer.{Answer}
use Rattle.mtas.specs.Layout.{state_length, encode, view}
use Rattle.mtas.specs.Record.{record_of}
use Rattle.mtas.specs.Monitor.{turned_down, monitor}
use Rattle.mtas.specs.Histories.{History, final}

-- 'issuers 0 and 1 are enrolled, 0 trusts 1, 0@3 holds 0#2, 0#3 is present and unheld, 0/4 is open for 0@3 with role 2 active, and 1%5 is granted to 0#2; nothing else'; 'In S 0#2 is public'
abbrev pub S_facts : List Fact
S_facts =
    enrolled 0 ∷ enrolled 1 ∷ trusts 0 0 ∷ trusts 1 1 ∷ trusts 0 1
    ∷ user 0 3 ∷ role 0 2 ∷ holds 0 3 2 ∷ role 0 3
    ∷ opened 0 4 3 ∷ active 0 4 3 2 ∷ permission 1 5 ∷ granted 1 5 0 2 ∷ public 0 2 ∷ []

abbrev pub S : State
S = put S_facts nothing

-- the answers, number by number
abbrev pub accepts : Answer
accepts = record { refusal = 0; verdict = 0; through = 255 # 255 }

abbrev pub says_yes : ℕ → ℕ → Answer
says_yes i r = record { refusal = 0; verdict = 1; through = i # r }

abbrev pub refuses : ℕ → Answer
refuses n = record { refusal = n; verdict = 0; through = 255 # 255 }

-- records played from S, the record tried then, its answer, and facts that don't stand then
pub data Case : Type 0 where
  try : History → List ℕ → Answer → List Fact → Case

abbrev pub twelve_cases : List Case
twelve_cases =
    try [] (record_of 21 1 (5 ∷ 0 ∷ 4 ∷ [])) (says_yes 0 2) []  -- A
    ∷ try (record_of 4 0 (1 ∷ []) ∷ []) (record_of 21 1 (5 ∷ 0 ∷ 4 ∷ [])) accepts (granted 1 5 0 2 ∷ [])  -- B
    ∷ try (record_of 20 0 (4 ∷ 2 ∷ []) ∷ []) (record_of 21 1 (5 ∷ 0 ∷ 4 ∷ [])) accepts []  -- C
    ∷ try [] (record_of 21 1 (6 ∷ 0 ∷ 4 ∷ [])) (refuses 10) []  -- D
    ∷ try [] (record_of 21 1 (5 ∷ 0 ∷ 5 ∷ [])) accepts []  -- E
    ∷ try [] (record_of 13 1 (5 ∷ 0 ∷ 7 ∷ [])) (refuses 10) []  -- F
    ∷ try [] (record_of 13 0 (0 ∷ 1 ∷ 0 ∷ [])) (refuses 9) (permission 0 0 ∷ role 1 0 ∷ [])  -- G
    ∷ try [] (record_of 15 0 (2 ∷ 0 ∷ 2 ∷ [])) (refuses 13) []  -- H
    ∷ try [] (record_of 3 0 (0 ∷ [])) (refuses 8) []  -- I
    ∷ try [] (record_of 3 0 (16 ∷ [])) (refuses 6) []  -- J
    ∷ try [] (record_of 1 16 (0 ∷ [])) (refuses 7) []  -- K
    ∷ try [] (record_of 19 0 (4 ∷ 3 ∷ [])) (refuses 11) []  -- L
    ∷ []

-- Two links across two estates: 0#3 is attached below 0#2 and published, 1#6 is attached below 0#3, 1%5 is granted to 1#6 in place of 0#2.
abbrev two_links : History
two_links =
    record_of 15 0 (3 ∷ 0 ∷ 2 ∷ []) ∷ record_of 22 0 (3 ∷ []) ∷ record_of 7 1 (6 ∷ []) ∷ record_of 15 1 (6 ∷ 0 ∷ 3 ∷ [])
    ∷ record_of 13 1 (5 ∷ 1 ∷ 6 ∷ []) ∷ record_of 14 1 (5 ∷ 0 ∷ 2 ∷ []) ∷ []

-- the same, and one record more
abbrev two_links_and : List ℕ → History
two_links_and b = two_links ++ (b ∷ [])

-- Each estate's own calls once: 0@6 holds 0#7, public and active in 0/9; 1%8 is granted to 0#7.
abbrev a_day : History
a_day =
    record_of 5 0 (6 ∷ []) ∷ record_of 7 0 (7 ∷ []) ∷ record_of 11 0 (6 ∷ 7 ∷ []) ∷ record_of 17 0 (9 ∷ 6 ∷ [])
    ∷ record_of 19 0 (9 ∷ 7 ∷ []) ∷ record_of 22 0 (7 ∷ []) ∷ record_of 9 1 (8 ∷ []) ∷ record_of 13 1 (8 ∷ 0 ∷ 7 ∷ []) ∷ []

-- after a-day and one record more, 1 tries 8, 0, 9
abbrev then_try : List ℕ → Answer → List Fact → Case
then_try b a gone = try (a_day ++ (b ∷ [])) (record_of 21 1 (8 ∷ 0 ∷ 9 ∷ [])) a gone

abbrev pub further_cases : List Case
further_cases =
    -- 'Stopping after one attachment'
    try two_links (record_of 21 1 (5 ∷ 0 ∷ 4 ∷ [])) (says_yes 1 6) (granted 1 5 0 2 ∷ [])
    -- the lower link goes, or the upper: nothing is reached
    ∷ try (two_links_and (record_of 16 1 (6 ∷ 0 ∷ 3 ∷ []))) (record_of 21 1 (5 ∷ 0 ∷ 4 ∷ [])) accepts (attached 1 6 0 3 ∷ [])
    ∷ try (two_links_and (record_of 16 0 (3 ∷ 0 ∷ 2 ∷ []))) (record_of 21 1 (5 ∷ 0 ∷ 4 ∷ [])) accepts (attached 0 3 0 2 ∷ [])
    -- 'Clearing grants on withdrawal and forgetting attachments'
    ∷ try (two_links_and (record_of 4 0 (1 ∷ []))) (record_of 21 1 (5 ∷ 0 ∷ 4 ∷ [])) accepts (attached 1 6 0 3 ∷ [])
    -- 'Following trust in place of attachments': 1#6 holds 1%5 and 0 trusts 1, but no attachment leads there
    ∷ try (record_of 7 1 (6 ∷ []) ∷ record_of 13 1 (5 ∷ 1 ∷ 6 ∷ []) ∷ record_of 14 1 (5 ∷ 0 ∷ 2 ∷ []) ∷ []) (record_of 21 1 (5 ∷ 0 ∷ 4 ∷ [])) accepts []
    -- a circle over one link
    ∷ try (record_of 15 0 (3 ∷ 0 ∷ 2 ∷ []) ∷ []) (record_of 15 0 (2 ∷ 0 ∷ 3 ∷ [])) (refuses 13) (attached 0 2 0 3 ∷ [])
    -- striking takes the roles in others' words
    ∷ try (two_links_and (record_of 2 16 (1 ∷ []))) (record_of 21 1 (5 ∷ 0 ∷ 4 ∷ [])) (refuses 5) (attached 1 6 0 3 ∷ granted 1 5 1 6 ∷ trusts 0 1 ∷ [])
    -- a user, a role, a permission added, a role given, activated and used; then one of them removed, taken or closed
    ∷ try a_day (record_of 21 1 (8 ∷ 0 ∷ 9 ∷ [])) (says_yes 0 7) []
    ∷ then_try (record_of 6 0 (6 ∷ [])) accepts (user 0 6 ∷ holds 0 6 7 ∷ opened 0 9 6 ∷ [])
    ∷ then_try (record_of 8 0 (7 ∷ [])) accepts (role 0 7 ∷ public 0 7 ∷ holds 0 6 7 ∷ active 0 9 6 7 ∷ granted 1 8 0 7 ∷ [])
    ∷ then_try (record_of 10 1 (8 ∷ [])) (refuses 10) (permission 1 8 ∷ granted 1 8 0 7 ∷ [])
    ∷ then_try (record_of 12 0 (6 ∷ 7 ∷ [])) accepts (holds 0 6 7 ∷ active 0 9 6 7 ∷ [])
    ∷ then_try (record_of 18 0 (9 ∷ [])) accepts (opened 0 9 6 ∷ active 0 9 6 7 ∷ [])
    -- a session of an issuer that isn't enrolled: no cause of refusal
    ∷ try [] (record_of 21 1 (5 ∷ 7 ∷ 4 ∷ [])) accepts (enrolled 7 ∷ [])
    -- refusal 3's row: no caller, a length field too large, kinds 24 and 257, an argument too few
    ∷ try [] (4 ∷ 0 ∷ 1 ∷ 0 ∷ []) (refuses 3) []
    ∷ try [] (7 ∷ 0 ∷ 3 ∷ 0 ∷ 0 ∷ 1 ∷ []) (refuses 3) []
    ∷ try [] (record_of 24 0 (1 ∷ [])) (refuses 3) []
    ∷ try [] (6 ∷ 0 ∷ 1 ∷ 1 ∷ 16 ∷ 2 ∷ []) (refuses 3) []
    ∷ try [] (record_of 21 1 (5 ∷ 0 ∷ [])) (refuses 3) []
    -- refusal 4: an issuer enrols, the operator gives trust; before 5 and 6; 5 before 6
    ∷ try [] (record_of 1 0 (2 ∷ [])) (refuses 4) []
    ∷ try [] (record_of 3 16 (1 ∷ [])) (refuses 4) []
    ∷ try [] (record_of 3 17 (16 ∷ [])) (refuses 4) []
    ∷ try [] (record_of 3 2 (16 ∷ [])) (refuses 5) []
    ∷ []

-- 0 grants its own 0%1 to 0#2, and unpublishes 0#2
abbrev indoors_again : History
indoors_again = record_of 9 0 (1 ∷ []) ∷ record_of 13 0 (1 ∷ 0 ∷ 2 ∷ []) ∷ record_of 23 0 (2 ∷ []) ∷ []

-- 1 trusts 0, and 0 attaches its 0#3 below 1#6, which is public
abbrev round_trip : History
round_trip = record_of 3 1 (0 ∷ []) ∷ record_of 7 1 (6 ∷ []) ∷ record_of 22 1 (6 ∷ []) ∷ record_of 15 0 (3 ∷ 1 ∷ 6 ∷ []) ∷ []

-- Card 1: 'Some roles stay indoors'
abbrev pub indoor_cases : List Case
indoor_cases =
    -- 0#3 is private: 1 can't link to it, and is told so before 12
    try [] (record_of 13 1 (5 ∷ 0 ∷ 3 ∷ [])) (refuses 14) (public 0 3 ∷ [])
    ∷ try [] (record_of 14 1 (5 ∷ 0 ∷ 3 ∷ [])) (refuses 14) []
    ∷ try (record_of 7 1 (6 ∷ []) ∷ []) (record_of 15 1 (6 ∷ 0 ∷ 3 ∷ [])) (refuses 14) []
    ∷ try (record_of 7 1 (6 ∷ []) ∷ []) (record_of 16 1 (6 ∷ 0 ∷ 3 ∷ [])) (refuses 14) []
    -- but after 10: 1%6 and 1#6 aren't there
    ∷ try [] (record_of 13 1 (6 ∷ 0 ∷ 3 ∷ [])) (refuses 10) (permission 1 6 ∷ [])
    ∷ try [] (record_of 14 1 (6 ∷ 0 ∷ 3 ∷ [])) (refuses 10) []
    ∷ try [] (record_of 15 1 (6 ∷ 0 ∷ 3 ∷ [])) (refuses 10) (role 1 6 ∷ [])
    ∷ try [] (record_of 16 1 (6 ∷ 0 ∷ 3 ∷ [])) (refuses 10) []
    -- and before 13: 0#3 is attached below 1#6, so that the other way round would close a circle
    ∷ try round_trip (record_of 15 1 (6 ∷ 0 ∷ 3 ∷ [])) (refuses 14) (public 0 3 ∷ [])
    ∷ try (round_trip ++ (record_of 22 0 (3 ∷ []) ∷ [])) (record_of 15 1 (6 ∷ 0 ∷ 3 ∷ [])) (refuses 13) []
    -- 0 itself can
    ∷ try (record_of 9 0 (1 ∷ []) ∷ []) (record_of 13 0 (1 ∷ 0 ∷ 3 ∷ [])) accepts (public 0 3 ∷ [])
    ∷ try [] (record_of 15 0 (2 ∷ 0 ∷ 3 ∷ [])) accepts (public 0 3 ∷ [])
    -- 'Unpublishing clears those that used it': 1's grant goes, 0's own stays
    ∷ try indoors_again (record_of 21 1 (5 ∷ 0 ∷ 4 ∷ [])) accepts (public 0 2 ∷ granted 1 5 0 2 ∷ [])
    ∷ try indoors_again (record_of 21 0 (1 ∷ 0 ∷ 4 ∷ [])) (says_yes 0 2) (public 0 2 ∷ [])
    -- so of attachments: 1's below 0#3 goes, 0's own below 0#2 stays
    ∷ try (two_links_and (record_of 23 0 (3 ∷ []))) (record_of 21 1 (5 ∷ 0 ∷ 4 ∷ [])) accepts (attached 1 6 0 3 ∷ [])
    ∷ try (two_links_and (record_of 23 0 (2 ∷ []))) (record_of 21 1 (5 ∷ 0 ∷ 4 ∷ [])) (says_yes 1 6) (public 0 2 ∷ [])
    -- published again, what was cleared doesn't come back, and can be granted anew
    ∷ try (record_of 23 0 (2 ∷ []) ∷ record_of 22 0 (2 ∷ []) ∷ []) (record_of 21 1 (5 ∷ 0 ∷ 4 ∷ [])) accepts (granted 1 5 0 2 ∷ [])
    ∷ try (record_of 23 0 (2 ∷ []) ∷ record_of 22 0 (2 ∷ []) ∷ []) (record_of 13 1 (5 ∷ 0 ∷ 2 ∷ [])) accepts []
    -- a role that isn't there; one that is public already, or private already
    ∷ try [] (record_of 22 0 (7 ∷ [])) (refuses 10) (role 0 7 ∷ [])
    ∷ try [] (record_of 23 0 (7 ∷ [])) (refuses 10) (role 0 7 ∷ [])
    ∷ try [] (record_of 22 0 (2 ∷ [])) (refuses 12) []
    ∷ try [] (record_of 23 0 (3 ∷ [])) (refuses 12) (public 0 3 ∷ [])
    -- 'a role starts private', also one that was public before it was removed
    ∷ try (record_of 8 0 (2 ∷ []) ∷ record_of 7 0 (2 ∷ []) ∷ []) (record_of 13 1 (5 ∷ 0 ∷ 2 ∷ [])) (refuses 14) (public 0 2 ∷ [])
    ∷ []

-- Card 2: 'A cellar master works as a press hand'. 0#3 is attached below 0#2, which 0@3 holds, and active in 0/4.
abbrev lesser_role : History
lesser_role = record_of 15 0 (3 ∷ 0 ∷ 2 ∷ []) ∷ record_of 19 0 (4 ∷ 3 ∷ []) ∷ []

-- the same by way of another estate: 1#6, public, is attached below 0#2, 1 trusts 0, and 0#3 is attached below 1#6
abbrev by_way_of_1 : History
by_way_of_1 =
    record_of 7 1 (6 ∷ []) ∷ record_of 22 1 (6 ∷ []) ∷ record_of 15 1 (6 ∷ 0 ∷ 2 ∷ []) ∷ record_of 3 1 (0 ∷ []) ∷ record_of 15 0 (3 ∷ 1 ∷ 6 ∷ [])
    ∷ record_of 19 0 (4 ∷ 3 ∷ []) ∷ []

-- 0#3 has 0%1, and 0#2 is no longer active: the hour
abbrev an_hour : History
an_hour = record_of 9 0 (1 ∷ []) ∷ record_of 13 0 (1 ∷ 0 ∷ 3 ∷ []) ∷ record_of 20 0 (4 ∷ 2 ∷ []) ∷ []

-- 0@6, who holds 0#7 above 0#3, has 0#3 active in 0/9
abbrev another's : History
another's =
    record_of 5 0 (6 ∷ []) ∷ record_of 7 0 (7 ∷ []) ∷ record_of 11 0 (6 ∷ 7 ∷ []) ∷ record_of 15 0 (3 ∷ 0 ∷ 7 ∷ [])
    ∷ record_of 17 0 (9 ∷ 6 ∷ []) ∷ record_of 19 0 (9 ∷ 3 ∷ []) ∷ []

-- what may be activated
abbrev pub lesser_cases : List Case
lesser_cases =
    -- the lesser role is activated and used; what only the senior has is not
    try (record_of 15 0 (3 ∷ 0 ∷ 2 ∷ []) ∷ []) (record_of 19 0 (4 ∷ 3 ∷ [])) accepts (holds 0 3 3 ∷ [])
    ∷ try (lesser_role ++ an_hour) (record_of 21 0 (1 ∷ 0 ∷ 4 ∷ [])) (says_yes 0 3) (holds 0 3 3 ∷ active 0 4 3 2 ∷ [])
    ∷ try (lesser_role ++ an_hour) (record_of 21 1 (5 ∷ 0 ∷ 4 ∷ [])) accepts []
    ∷ try lesser_role (record_of 19 0 (4 ∷ 3 ∷ [])) (refuses 12) []
    -- a senior isn't reached, nor what only another user's role reaches; 10 comes first
    ∷ try (record_of 15 0 (2 ∷ 0 ∷ 3 ∷ []) ∷ []) (record_of 19 0 (4 ∷ 3 ∷ [])) (refuses 11) []
    ∷ try another's (record_of 19 0 (4 ∷ 3 ∷ [])) (refuses 11) []
    ∷ try [] (record_of 19 0 (5 ∷ 3 ∷ [])) (refuses 10) []
    ∷ try [] (record_of 19 0 (4 ∷ 7 ∷ [])) (refuses 10) (role 0 7 ∷ [])
    ∷ []

-- after a history 0 deactivates 0#3 in 0/4: that is done where it is active still, and refused where it was dropped
abbrev still_active : History → List Fact → Case
still_active h gone = try h (record_of 20 0 (4 ∷ 3 ∷ [])) accepts gone

abbrev was_dropped : History → List Fact → Case
was_dropped h gone = try h (record_of 20 0 (4 ∷ 3 ∷ [])) (refuses 12) (active 0 4 3 3 ∷ gone)

-- what is dropped and what stays
abbrev pub dropped_cases : List Case
dropped_cases =
    -- detached it is dropped, and attached again it stays dropped
    was_dropped (lesser_role ++ (record_of 16 0 (3 ∷ 0 ∷ 2 ∷ []) ∷ [])) []
    ∷ try (lesser_role ++ (record_of 16 0 (3 ∷ 0 ∷ 2 ∷ []) ∷ [])) (record_of 19 0 (4 ∷ 3 ∷ [])) (refuses 11) []
    ∷ was_dropped (lesser_role ++ (record_of 16 0 (3 ∷ 0 ∷ 2 ∷ []) ∷ record_of 15 0 (3 ∷ 0 ∷ 2 ∷ []) ∷ [])) []
    -- the held role is taken, or removed: both go
    ∷ was_dropped (lesser_role ++ (record_of 12 0 (3 ∷ 2 ∷ []) ∷ [])) (holds 0 3 2 ∷ active 0 4 3 2 ∷ [])
    ∷ was_dropped (lesser_role ++ (record_of 8 0 (2 ∷ []) ∷ [])) (active 0 4 3 2 ∷ attached 0 3 0 2 ∷ [])
    -- 'taking a role drops nothing still reached': 0@3 holds 0#1 too, above 0#3
    ∷ still_active (lesser_role ++ (record_of 7 0 (1 ∷ []) ∷ record_of 11 0 (3 ∷ 1 ∷ []) ∷ record_of 15 0 (3 ∷ 0 ∷ 1 ∷ []) ∷ record_of 12 0 (3 ∷ 2 ∷ []) ∷ [])) (holds 0 3 2 ∷ active 0 4 3 2 ∷ [])
    -- held itself for a while, it stays when that is taken
    ∷ still_active (lesser_role ++ (record_of 11 0 (3 ∷ 3 ∷ []) ∷ record_of 12 0 (3 ∷ 3 ∷ []) ∷ [])) (holds 0 3 3 ∷ [])
    -- another's session keeps its own
    ∷ try (lesser_role ++ (another's ++ (record_of 12 0 (3 ∷ 2 ∷ []) ∷ []))) (record_of 20 0 (9 ∷ 3 ∷ [])) accepts (active 0 4 3 3 ∷ [])
    ∷ []

-- by way of another estate: 'also when another estate detaches'
abbrev pub between_cases : List Case
between_cases =
    try (by_way_of_1 ++ an_hour) (record_of 21 0 (1 ∷ 0 ∷ 4 ∷ [])) (says_yes 0 3) (attached 0 3 0 2 ∷ active 0 4 3 2 ∷ [])
    -- a second way keeps it
    ∷ still_active (by_way_of_1 ++ (record_of 15 0 (3 ∷ 0 ∷ 2 ∷ []) ∷ record_of 16 1 (6 ∷ 0 ∷ 2 ∷ []) ∷ [])) (attached 1 6 0 2 ∷ [])
    ∷ try (by_way_of_1 ++ (an_hour ++ (record_of 16 1 (6 ∷ 0 ∷ 2 ∷ []) ∷ []))) (record_of 21 0 (1 ∷ 0 ∷ 4 ∷ [])) accepts (active 0 4 3 3 ∷ attached 1 6 0 2 ∷ [])
    ∷ []

-- Card 4: 'The press's sign of life'
abbrev pub sign_of_life_cases : List Case
sign_of_life_cases =
    try [] [] accepts []
    -- one byte or more is no sign of life, even where the length field is right
    ∷ try [] (0 ∷ []) (refuses 3) []
    ∷ try [] (2 ∷ 0 ∷ []) (refuses 3) []
    ∷ try [] (3 ∷ 0 ∷ 1 ∷ []) (refuses 3) []
    -- after it case A is decided as before
    ∷ try ([] ∷ []) (record_of 21 1 (5 ∷ 0 ∷ 4 ∷ [])) (says_yes 0 2) []
    ∷ []

-- words that were never started
abbrev pub zeros : List ℕ
zeros = tabulate state_length (λ k. 0)

-- the sign of life on words that are no state: a word more than S has, and zeros
pub record NoState : Type 0 where
  pub one_more : monitor (encode S ++ (0 ∷ [])) [] ≡ turned_down 1 (encode S ++ (0 ∷ []))
  pub never_started : monitor zeros [] ≡ turned_down 2 zeros

abbrev pub NoneStand : State → List Fact → Type 0
NoneStand st [] = Unit
NoneStand st (f ∷ l) = (st.stands f ≡ false) × NoneStand st l

-- the monitor's answer on words, and what the words say then
abbrev pub Holds : Case → Type 0
Holds (try earlier b a gone) =
    ((monitor (final (encode S) earlier) b).answer ≡ a) × NoneStand (view (final (encode S) earlier)) gone

abbrev pub Every : List Case → Type 0
Every [] = Unit
Every (c ∷ l) = Holds c × Every l
