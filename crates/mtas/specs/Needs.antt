-- What a fact cannot stand without, listed to the last: the clauses of 'Lawful means' in document 01, and of document 02's Card 1. (What an active role is reached by is no list: it is in Law.)
use Rattle.std.specs.Prelude.{List, [], ◌∷◌, true, false, ℕ, eqb}
use Rattle.mtas.specs.Fact.{Fact, enrolled, trusts, user, role, permission, public, holds, granted, attached, opened, active}

-- an issuer's enrolment and its trust in itself; each needs the other
abbrev pub enrolment : ℕ → List Fact
enrolment i = enrolled i ∷ trusts i i ∷ []

-- what exposes i#r to j: to its own issuer, that it is there; 'Across estates, grants and attachments need a public role or senior'
unfoldable pub exposed : ℕ → ℕ → ℕ → Fact
exposed j i r = elim (eqb j i) [ true ↦ role i r | false ↦ public i r ]

abbrev pub needs : Fact → List Fact
-- 'trust only among enrolled issuers, and each enrolled one trusts itself'
needs (enrolled i) = trusts i i ∷ []
needs (trusts i j) = enrolled i ∷ trusts i i ∷ enrolment j
-- 'users, roles and permissions only under enrolled issuers'
needs (user i u) = enrolment i
needs (role i r) = enrolment i
needs (permission i p) = enrolment i
-- 'only present roles there'
needs (public i r) = role i r ∷ enrolment i
-- 'held bits only between a present user and a present role'
needs (holds i u r) = user i u ∷ role i r ∷ enrolment i
-- 'grants and attachments only between present ends, with the role's (or senior's) owner trusting the other owner', and 'links across estates only on public ones'
needs (granted j p i r) = permission j p ∷ role i r ∷ exposed j i r ∷ trusts i j ∷ enrolled i ∷ trusts i i ∷ enrolment j
needs (attached j q i r) = role j q ∷ role i r ∷ exposed j i r ∷ trusts i j ∷ enrolled i ∷ trusts i i ∷ enrolment j
-- 'a closed session has no active role, an open one a present user and active roles'; that the user is authorized for them is in Law
needs (opened i s u) = user i u ∷ enrolment i
needs (active i s u r) = opened i s u ∷ user i u ∷ role i r ∷ enrolment i
