-- A row is read where the grammar has one whose texts are of the form, ended by CRLF or with the sheet, and nowhere else.
use mathlib.Core.Path.{◌≡◌, refl, ap, ap₂, sym, subst, ◌∙◌}
use mathlib.Core.Logic.{◌↔◌}
use mathlib.Core.Bool.{Bool, true, false, ◌&&◌}
use mathlib.Core.List.{List, [], ◌∷◌, ◌++◌, map, append_assoc, append-nil}
use Prim.Native.Nat.{ℕ, ◌≤◌}
use native.Mathlib.Omega.{arith}
use lib.Dec.{eqb}
use lib.ListN.{length, get_or}
use borrow.Author.Tests.{eqb-true}
use Rattle.bits.proofs.Booleans.{and_both}
use Rattle.mtas.specs.Call.{Call, AssignTrust, AddUser, AddRole, AddPerm, AssignUser, AssignPerm, AssignRH}
use Rattle.mtas.specs.Record.{Form as Kinds, Kind, unknown, known, kind_at}
use Rattle.lines.specs.Decimal.{decimal}
use Rattle.sheet.specs.Rfc4180.{CR, LF, textdata, Row}
use Rattle.sheet.specs.Form.{user, role, perm, trust, give, grant, attach, Form, Says, says}
use Rattle.sheet.specs.Reading.{read, then, same, kind_named, field, arguments, ended, with_arguments, row}
use Rattle.sheet.specs.Exact.{Begins}
use Rattle.sheet.proofs.Fields.{Gives, gives_then, gives_more, Edge, nothing, a_byte, Splits, field-sound, field-complete}
use Rattle.sheet.proofs.Numbers.{Word, kind_named-sound}
use Rattle.sheet.proofs.Behind.{Follow, follow_edge, row_of, Small, row_is, Counted, arguments_sound, arguments-complete}

-- ---- a row's end, and what is behind it
pub data Ends : List ℕ → List ℕ → Type 0 where
  at_the_end : Ends [] []
  in_crlf : {l : List ℕ} → Ends (CR ∷ LF ∷ l) l

ends_edge : {l r : List ℕ} → Ends l r → Edge l
unfolding textdata
ends_edge Ends.at_the_end = nothing
ends_edge Ends.in_crlf = a_byte refl refl

ended-sound : (k : Call) (l : List ℕ) → Gives (λ j r. (k ≡ j) × Ends l r) (ended k l)
unfolding ended
ended-sound k [] = (refl, Ends.at_the_end)
ended-sound k (x ∷ []) = tt
ended-sound k (x ∷ y ∷ l) = go (eqb x CR && eqb y LF) refl
  where
    go : (b : Bool) → eqb x CR && eqb y LF ≡ b → Gives (λ j r. (k ≡ j) × Ends (x ∷ y ∷ l) r) (ended k (x ∷ y ∷ l))
    go true e =
        let (p, q) = and_both (eqb x CR) (eqb y LF) e in
        rw (e, ended) (refl, subst (λ z. Ends z l) (sym (ap₂ (λ u v. u ∷ v ∷ l) (eqb-true x CR p) (eqb-true y LF q))) Ends.in_crlf)
    go false e = rw (e, ended) tt

ended-complete : {l r : List ℕ} (k : Call) → Ends l r → ended k l ≡ read k r
unfolding ended
ended-complete k Ends.at_the_end = refl
ended-complete k Ends.in_crlf = refl

-- ---- a call's form
-- as many numbers behind a word as its kind counts are of the form
abbrev Fits : List ℕ → Kind → Type 0
Fits w unknown = Unit
Fits w (known f) = (c ns : List ℕ) → Follow c ns → length ns ≡ f.count → Form (w ∷ map decimal ns) (f.call (λ n. get_or ns n 0))

-- what holds of decimals 0 to 15, by their count
of_none : (P : List (List ℕ) → Type 0) → P [] → (c ns : List ℕ) → Follow c ns → length ns ≡ 0 → P (map decimal ns)
of_none P form c ns Follow.no_more e = form
of_none P form c ns (Follow.one_more f h s) e = absurd (omega arith)

of_one : (P : List (List ℕ) → Call → Type 0) (call : ℕ → Call) → ((x : ℕ) → x ≤ 15 → P (decimal x ∷ []) (call x)) → (c ns : List ℕ) → Follow c ns → length ns ≡ 1
    → P (map decimal ns) (call (get_or ns 0 0))
of_one P call form c ns Follow.no_more e = absurd (omega arith)
of_one P call form c ns (Follow.one_more {c = d} {ns = ms} {n = x} f h s) e = of_none (λ ts. P (decimal x ∷ ts) (call x)) (form x h) d ms s (omega arith)

of_two : (P : List (List ℕ) → Call → Type 0) (call : ℕ → ℕ → Call) → ((x y : ℕ) → x ≤ 15 → y ≤ 15 → P (decimal x ∷ decimal y ∷ []) (call x y)) → (c ns : List ℕ) → Follow c ns
    → length ns ≡ 2 → P (map decimal ns) (call (get_or ns 0 0) (get_or ns 1 0))
of_two P call form c ns Follow.no_more e = absurd (omega arith)
of_two P call form c ns (Follow.one_more {c = d} {ns = ms} {n = x} f h s) e = of_one (λ ts. P (decimal x ∷ ts)) (call x) (λ y. form x y h) d ms s (omega arith)

of_three : (P : List (List ℕ) → Call → Type 0) (call : ℕ → ℕ → ℕ → Call) → ((x y z : ℕ) → x ≤ 15 → y ≤ 15 → z ≤ 15 → P (decimal x ∷ decimal y ∷ decimal z ∷ []) (call x y z))
    → (c ns : List ℕ) → Follow c ns → length ns ≡ 3 → P (map decimal ns) (call (get_or ns 0 0) (get_or ns 1 0) (get_or ns 2 0))
of_three P call form c ns Follow.no_more e = absurd (omega arith)
of_three P call form c ns (Follow.one_more {c = d} {ns = ms} {n = x} f h s) e = of_two (λ ts. P (decimal x ∷ ts)) (call x) (λ y z. form x y z h) d ms s (omega arith)

word_fits : {w : List ℕ} {n : ℕ} → Word w n → Fits w (kind_at n)
word_fits Word.a_user = of_one (λ ts. Form (user ∷ ts)) AddUser (λ x h. Form.a_user (omega arith))
word_fits Word.a_role = of_one (λ ts. Form (role ∷ ts)) AddRole (λ x h. Form.a_role h)
word_fits Word.a_permission = of_one (λ ts. Form (perm ∷ ts)) AddPerm (λ x h. Form.a_permission h)
word_fits Word.a_trust = of_one (λ ts. Form (trust ∷ ts)) AssignTrust (λ x h. Form.a_trust h)
word_fits Word.a_giving = of_two (λ ts. Form (give ∷ ts)) AssignUser (λ x y h i. Form.a_giving h i)
word_fits Word.a_grant = of_three (λ ts. Form (grant ∷ ts)) AssignPerm (λ x y z h i j. Form.a_grant h i j)
word_fits Word.an_attachment = of_three (λ ts. Form (attach ∷ ts)) AssignRH (λ x y z h i j. Form.an_attachment h i j)
word_fits Word.another = tt

-- the other way: a word, its kind, and as many numbers as the kind counts
data Named : List (List ℕ) → Call → Type 0 where
  named : (w ns : List ℕ) (f : Kinds) → kind_at (kind_named w) ≡ known f → length ns ≡ f.count → Small ns → Named (w ∷ map decimal ns) (f.call (λ n. get_or ns n 0))

form_named : {ts : List (List ℕ)} {k : Call} → Form ts k → Named ts k
unfolding kind_named same
form_named (Form.a_user {u = u} h) = named user (u ∷ []) _ refl refl (omega arith, tt)
form_named (Form.a_role {r = r} h) = named role (r ∷ []) _ refl refl (h, tt)
form_named (Form.a_permission {p = p} h) = named perm (p ∷ []) _ refl refl (h, tt)
form_named (Form.a_trust {j = j} h) = named trust (j ∷ []) _ refl refl (h, tt)
form_named (Form.a_giving {u = u} {r = r} h i) = named give (u ∷ r ∷ []) _ refl refl (h, (i, tt))
form_named (Form.a_grant {p = p} {i = i} {r = r} h j k) = named grant (p ∷ i ∷ r ∷ []) _ refl refl (h, (j, (k, tt)))
form_named (Form.an_attachment {q = q} {i = i} {r = r} h j k) = named attach (q ∷ i ∷ r ∷ []) _ refl refl (h, (j, (k, tt)))

-- ---- a row
-- behind the word stand a form's numbers and a row's end
abbrev Behind : List ℕ → List ℕ → Call → List ℕ → Type 0
Behind w l k r = (c : List ℕ) × (e : List ℕ) × (ns : List ℕ) × (l ≡ c ++ e) × Follow c ns × Ends e r × Form (w ∷ map decimal ns) k

with_arguments-sound : (w l : List ℕ) (k : Kind) → Fits w k → Gives (Behind w l) (with_arguments k l)
with_arguments-sound w l unknown fits = tt
with_arguments-sound w l (known f) fits =
    gives_then (Counted f.count l) (Behind w l) (arguments f.count l) (λ ns e. ended (f.call (λ n. get_or ns n 0)) e) (arguments_sound f.count l)
    (λ ns e (c, s, v, n). gives_more (λ j r. (f.call (λ n. get_or ns n 0) ≡ j) × Ends e r) (Behind w l) (ended (f.call (λ n. get_or ns n 0)) e) (ended-sound (f.call (λ n. get_or ns n 0)) e)
    (λ k r (same, end). (c, e, ns, s, v, end, subst (Form (w ∷ map decimal ns)) same (fits c ns v n))))

says_begins : {b e r : List ℕ} {k : Call} → Says b k → Ends e r → Begins (b ++ e) k r
says_begins {b = b} {k = k} s Ends.at_the_end = subst (λ y. Begins y k []) (sym (append-nil b)) (Begins.at_the_end s)
says_begins s Ends.in_crlf = Begins.in_crlf s

row-sound : (l : List ℕ) → Gives (Begins l) (row l)
unfolding row
row-sound l =
    gives_then (Splits l) (Begins l) (field l) (λ t r. with_arguments (kind_at (kind_named t)) r) (field-sound l)
    (λ t r (b, s, f). gives_more (Behind t r) (Begins l) (with_arguments (kind_at (kind_named t)) r) (with_arguments-sound t r (kind_at (kind_named t)) (word_fits (kind_named-sound t)))
    (λ k m (c, e, ns, q, v, end, form). subst (λ y. Begins y k m) (sym (s ∙ ap (λ y. b ++ y) q ∙ sym (append_assoc b c e))) (says_begins (says (row_of f v) form) end)))

pub says-read : {b e r : List ℕ} {k : Call} → Says b k → Ends e r → row (b ++ e) ≡ read k r
unfolding row
says-read {b = b} {e = e} {r = r} (says w form) end = go w (form_named form)
  where
    go : {ts : List (List ℕ)} {k : Call} → Row b ts → Named ts k → row (b ++ e) ≡ read k r
    go w (named t ns f kind count small) =
        let (d, c, q, g, v) = row_is ns small w in
        let edge = ends_edge end in
        ap (λ y. row (y ++ e)) q ∙ ap row (append_assoc d c e) ∙ ap (λ y. then y (λ t r. with_arguments (kind_at (kind_named t)) r)) (field-complete g (follow_edge v edge))
        ∙ ap (λ y. with_arguments y (c ++ e)) kind ∙ ap (λ n. then (arguments n (c ++ e)) (λ ns e. ended (f.call (λ n. get_or ns n 0)) e)) (sym count)
        ∙ ap (λ y. then y (λ ns e. ended (f.call (λ n. get_or ns n 0)) e)) (arguments-complete v edge) ∙ ended-complete (f.call (λ n. get_or ns n 0)) end

begins_read : {l r : List ℕ} {k : Call} → Begins l k r → row l ≡ read k r
begins_read (Begins.at_the_end {b = b} s) = ap row (sym (append-nil b)) ∙ says-read s Ends.at_the_end
begins_read (Begins.in_crlf s) = says-read s Ends.in_crlf

pub row_exact : (l : List ℕ) (k : Call) (behind : List ℕ) → (row l ≡ read k behind) ↔ Begins l k behind
row_exact l k behind = (λ e. subst (Gives (Begins l)) e (row-sound l), begins_read)
