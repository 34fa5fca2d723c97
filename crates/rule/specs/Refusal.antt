-- Document 01's numbers of the refusals; 14 is document 02's.
use Rattle.std.specs.Prelude.{ℕ}
use Rattle.rule.specs.declared.Refusal.{Refusal}
use Rattle.rule.specs.declared.Refusal.TheVariants.{StateLength, Unlawful, Undecodable, NotItsCaller, NotEnrolled, Above15, Enrolment, ItsOwnIssuer, Untrusted, Missing, NotReached, NothingToChange, Circle, NotPublic}

abbrev pub number_of : Refusal → ℕ
number_of StateLength = 1
number_of Unlawful = 2
number_of Undecodable = 3
number_of NotItsCaller = 4
number_of NotEnrolled = 5
number_of Above15 = 6
number_of Enrolment = 7
number_of ItsOwnIssuer = 8
number_of Untrusted = 9
number_of Missing = 10
number_of NotReached = 11
number_of NothingToChange = 12
number_of Circle = 13
number_of NotPublic = 14
