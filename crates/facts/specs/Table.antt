-- The code's facts in the model's terms, and their places in the code's.
use Rattle.std.specs.Prelude.{List, Option, None, Some, Bool, true, false, ◌&&◌, ℕ, ◌<◌, eqb, get_or}
use Rattle.bits.specs.Bit.{bit}
use Rattle.mtas.specs.Fact as model
use Rattle.mtas.specs.Layout as words
use Rattle.facts.specs.declared.Fact.{Fact}
use Rattle.facts.specs.declared.Fact.TheVariants.{Enrolled, Trusts, User, Role, Permission, Public, Holds, Granted, Attached, Opened, Active}
use Rattle.facts.specs.declared.Place.{Place}
use Rattle.facts.specs.declared.Place.TheVariants.{Bit, Number, While}

abbrev pub fact_of : Fact → model.Fact
fact_of (Enrolled i) = model.enrolled i
fact_of (Trusts i j) = model.trusts i j
fact_of (User i u) = model.user i u
fact_of (Role i r) = model.role i r
fact_of (Permission i p) = model.permission i p
fact_of (Public i r) = model.public i r
fact_of (Holds i u r) = model.holds i u r
fact_of (Granted j p i r) = model.granted j p i r
fact_of (Attached j q i r) = model.attached j q i r
fact_of (Opened i s u) = model.opened i s u
fact_of (Active i s u r) = model.active i s u r

-- a place of the model, by addresses
abbrev pub spot : words.Place → Place
spot (words.bit_of w n) = Bit (words.address w) n
spot (words.user_in i s u) = Number (words.address (words.session_user i s)) u
spot (words.bit_while i s u w n) = While (words.address (words.session_user i s)) u (words.address w) n

abbrev pub unless : Bool → Place → Option Place
unless true p = None
unless false p = Some p

-- a fact with a number above 15 is said nowhere
unfoldable pub place_of : model.Fact → Option Place
place_of f = unless (model.above_15 (model.numbers f)) (spot (words.place f))

-- what the words say at a place
abbrev pub says_at : List ℕ → Place → Bool
says_at ws (Bit k n) = bit (get_or ws k 0) n
says_at ws (Number k u) = eqb (get_or ws k 0) u
says_at ws (While k u m n) = eqb (get_or ws k 0) u && bit (get_or ws m 0) n

-- a place lies within the state
abbrev pub Inside : Place → Type 0
Inside (Bit k n) = (k < words.state_length) × (n < 16)
Inside (Number k u) = (k < words.state_length) × (u < 16)
Inside (While k u m n) = (k < words.state_length) × (u < 16) × (m < words.state_length) × (n < 16)
