-- A buffer as long as the sheet has room for its records.
use mathlib.Core.Path.{◌≡◌, ap}
use mathlib.Core.List.{List, [], ◌∷◌, map}
use Prim.Native.Nat.{ℕ, ◌+◌, ◌*◌, ◌≤◌}
use native.Mathlib.Omega.{arith}
use lib.ListN.{length, length-append}
use Rattle.mtas.specs.Call.{Call}
use Rattle.mtas.specs.Record.{encode_call}
use Rattle.lines.specs.Decimal.{decimal}
use Rattle.lines.proofs.Decimal.{spells_decimal}
use Rattle.sheet.specs.Rfc4180.{CR, LF, DQUOTE, Escaped, Field, Row}
use Rattle.sheet.specs.Form.{user, role, perm, trust, give, grant, attach, Form, Says, says, Sheet}
use Rattle.sheet.specs.Converted.{records}
use Rattle.sheet.specs.Laws.{EnoughRoom}
use Rattle.sheet.proofs.Behind.{Follow, Small, row_is}

-- a text is no longer than its field
unescaped : {b t : List ℕ} → Escaped b t → length t ≤ length b
unescaped Escaped.no_more = omega arith
unescaped (Escaped.one_more h d) = omega (arith, unescaped d)
unescaped (Escaped.two_quotes d) = omega (arith, unescaped d)

text-length : {b t : List ℕ} → Field b t → length t ≤ length b
text-length (Field.non_escaped w) = omega arith
text-length (Field.escaped {b = b} d) = omega (arith, unescaped d, length-append b (DQUOTE ∷ []))

-- a number has a comma before it and a digit
follow_length : {c ns : List ℕ} → Follow c ns → 2 * length ns ≤ length c
follow_length Follow.no_more = omega arith
follow_length (Follow.one_more {b = b} {c = c} {n = n} f h w) = omega (arith, text-length f, (spells_decimal n).some, follow_length w, length-append b c)

row-length : {b : List ℕ} (t ns : List ℕ) → Small ns → Row b (t ∷ map decimal ns) → length t + 2 * length ns ≤ length b
row-length t ns s w = let (d, c, q, f, v) = row_is ns s w in omega (arith, ap length q, length-append d c, text-length f, follow_length v)

of_form : (c : ℕ) {b : List ℕ} {ts : List (List ℕ)} {k : Call} → Row b ts → Form ts k → length (encode_call c k) ≤ length b
unfolding encode_call
of_form c w (Form.a_user {u = u} h) = omega (arith, row-length user (u ∷ []) (h, tt) w)
of_form c w (Form.a_role {r = r} h) = omega (arith, row-length role (r ∷ []) (h, tt) w)
of_form c w (Form.a_permission {p = p} h) = omega (arith, row-length perm (p ∷ []) (h, tt) w)
of_form c w (Form.a_trust {j = j} h) = omega (arith, row-length trust (j ∷ []) (h, tt) w)
of_form c w (Form.a_giving {u = u} {r = r} h i) = omega (arith, row-length give (u ∷ r ∷ []) (h, (i, tt)) w)
of_form c w (Form.a_grant {p = p} {i = i} {r = r} h j k) = omega (arith, row-length grant (p ∷ i ∷ r ∷ []) (h, (j, (k, tt))) w)
of_form c w (Form.an_attachment {q = q} {i = i} {r = r} h j k) = omega (arith, row-length attach (q ∷ i ∷ r ∷ []) (h, (j, (k, tt))) w)

of_row : (c : ℕ) {b : List ℕ} {k : Call} → Says b k → length (encode_call c k) ≤ length b
of_row c (says w f) = of_form c w f

one_more : (c : ℕ) (k : Call) (ks : List Call) → length (records c (k ∷ ks)) ≡ length (encode_call c k) + length (records c ks)
unfolding records
one_more c k ks = length-append (encode_call c k) (records c ks)

of_sheet : (c : ℕ) {csv : List ℕ} {ks : List Call} → Sheet csv ks → length (records c ks) ≤ length csv
unfolding records
of_sheet c Sheet.no_more = omega arith
of_sheet c (Sheet.last_row {k = k} s) = omega (arith, of_row c s, one_more c k [])
of_sheet c (Sheet.one_more {b = b} {csv = csv} {k = k} {ks = ks} s w) = omega (arith, of_row c s, of_sheet c w, one_more c k ks, length-append b (CR ∷ LF ∷ csv))

pub enough-room : EnoughRoom
enough-room csv c ks w = of_sheet c w
