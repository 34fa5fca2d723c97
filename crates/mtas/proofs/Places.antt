-- The words by their numbers.
use mathlib.Core.Path.{refl, ap}
use Rattle.mtas.specs.Fact.{enrolled, trusts, user, role, permission, public, holds, granted, attached, opened, active}
use Rattle.mtas.specs.Layout.{trusted, users, roles, permissions, held, holders, seniors, session_user, active_roles, public_roles, owner}
use Rattle.mtas.specs.Places.{Places}
use Rattle.mtas.proofs.Address.{word_at-address}
use Rattle.mtas.proofs.Words.{view_says}

pub places : Places
places = record {
  at_0 = λ i l ws. view_says ws (enrolled i) (l, tt);
  from_1 = λ i j l m. ((λ ws. view_says ws (trusts i j) (l, (m, tt))), ap owner (word_at-address (trusted i) (l, tt)));
  from_17 = λ i u l m. ((λ ws. view_says ws (user i u) (l, (m, tt))), ap owner (word_at-address (users i) (l, tt)));
  from_33 = λ i r l m. ((λ ws. view_says ws (role i r) (l, (m, tt))), ap owner (word_at-address (roles i) (l, tt)));
  from_49 = λ i p l m. ((λ ws. view_says ws (permission i p) (l, (m, tt))), ap owner (word_at-address (permissions i) (l, tt)));
  from_65 = λ i u r l m n. ((λ ws. view_says ws (holds i u r) (l, (m, (n, tt)))), ap owner (word_at-address (held i u) (l, (m, tt))));
  from_321 = λ j p i r l m n o. ((λ ws. view_says ws (granted j p i r) (l, (m, (n, (o, tt))))), ap owner (word_at-address (holders j p i) (l, (m, (n, tt)))));
  from_4417 = λ j q i r l m n o. ((λ ws. view_says ws (attached j q i r) (l, (m, (n, (o, tt))))), ap owner (word_at-address (seniors j q i) (l, (m, (n, tt)))));
  from_8513 = λ i s u l m n. ((λ ws. view_says ws (opened i s u) (l, (m, (n, tt)))), ap owner (word_at-address (session_user i s) (l, (m, tt))));
  from_8514 = λ i s u r l m n o. ((λ ws. view_says ws (active i s u r) (l, (m, (n, (o, tt))))), ap owner (word_at-address (active_roles i s) (l, (m, tt))));
  from_9025 = λ i r l m. ((λ ws. view_says ws (public i r) (l, (m, tt))), ap owner (word_at-address (public_roles i) (l, tt)));
  ends_at = refl;
}
