-- What the conversion makes of good sheets, and that quoting changes nothing.
use mathlib.Core.Path.{◌≡◌, refl, ap, ap₂, sym, subst, ◌∙◌}
use mathlib.Core.Bool.{Bool, true, false}
use mathlib.Core.List.{List, [], ◌∷◌, ◌++◌, map, append_assoc}
use Prim.Native.Nat.{ℕ, suc, ◌-◌, ◌≤◌, ◌<◌}
use native.Mathlib.Omega.{arith}
use lib.Dec.{ltb}
use lib.ListN.{length}
use borrow.Author.Tests.{lt-ltb, le-ltb}
use Rattle.mtas.specs.Call.{Call}
use Rattle.mtas.specs.Record.{request, decode, encode_call}
use Rattle.mtas.specs.Journal.{AllWhole}
use Rattle.mtas.proofs.Record.{decode_encoded}
use Rattle.mtas.proofs.Journal.{whole-journal}
use Rattle.lines.specs.Decimal.{decimal}
use Rattle.sheet.specs.Rfc4180.{COMMA, CR, LF, textdata, Field, Row}
use Rattle.sheet.specs.Form.{user, role, perm, trust, give, grant, attach, Form, says, Sheet}
use Rattle.sheet.specs.Reading.{Read, none, read, textual, row, calls, wrong_at, one_call, rows_from, rows}
use Rattle.sheet.specs.Exact.{Lines, WrongAt}
use Rattle.sheet.specs.Converted.{records, given, converted}
use Rattle.sheet.specs.Laws.{Makes, arg, SheetLaws, AllSheetLaws, StrangeCaller, QuotingIsNothing}
use Rattle.sheet.proofs.Numbers.{number-complete}
use Rattle.sheet.proofs.OfText.{number-text, own-text}
use Rattle.sheet.proofs.Sheets.{read-shorter, rows_read, rows_wrong, behind-line, rows_are, same_rows}
use Rattle.sheet.proofs.Exact.{exact}
use Rattle.sheet.proofs.Quoting.{same_row}

-- ---- a plain row
number-field : (n : ℕ) → n ≤ 15 → Field (decimal n) (decimal n)
number-field n h = Field.non_escaped (number-text (decimal n) (rw (number-complete n h) h))

word : (w : List ℕ) → textual w ≡ w → Row w (w ∷ [])
word w e = Row.last_field (Field.non_escaped (own-text e))

with_number : {b : List ℕ} {ts : List (List ℕ)} → Row b ts → (n : ℕ) → n ≤ 15 → Row (b ++ arg n) (ts ++ (decimal n ∷ []))
with_number (Row.last_field f) n h = Row.one_more f (Row.last_field (number-field n h))
with_number (Row.one_more {b = b} {t = t} {c = c} {ts = ts} f w) n h =
    subst (λ y. Row y (t ∷ (ts ++ (decimal n ∷ [])))) (sym (append_assoc b (COMMA ∷ c) (arg n))) (Row.one_more f (with_number w n h))

-- ---- sheets end to end
behind_lines : {a b : List ℕ} {ks ls : List Call} → Lines a ks → Sheet b ls → Sheet (a ++ b) (ks ++ ls)
behind_lines Lines.no_more w = w
behind_lines {b = b} {ls = ls} (Lines.one_more {b = d} {csv = csv} {k = k} {ks = ks} s v) w =
    subst (λ y. Sheet y (k ∷ (ks ++ ls))) (sym (append_assoc d (CR ∷ LF ∷ csv) b)) (Sheet.one_more s (behind_lines v w))

behind_a_sheet : {a b : List ℕ} {ks ls : List Call} → Sheet a ks → (Lines a ks → ⊥) → Sheet b ls → Sheet (a ++ (CR ∷ LF ∷ b)) (ks ++ ls)
behind_a_sheet Sheet.no_more unended w = absurd (unended Lines.no_more)
behind_a_sheet (Sheet.last_row s) unended w = Sheet.one_more s w
behind_a_sheet {b = b} {ls = ls} (Sheet.one_more {b = d} {csv = csv} {k = k} {ks = ks} s v) unended w =
    subst (λ y. Sheet y (k ∷ (ks ++ ls))) (sym (append_assoc d (CR ∷ LF ∷ csv) (CR ∷ LF ∷ b))) (Sheet.one_more s (behind_a_sheet v (λ l. unended (Lines.one_more s l)) w))

-- ---- what is made of a sheet
module _ (c : ℕ) (small : c ≤ 15) where
  records_behind : (ks ls : List Call) → records c (ks ++ ls) ≡ records c ks ++ records c ls
  unfolding records
  records_behind [] ls = refl
  records_behind (k ∷ ks) ls = ap (λ y. encode_call c k ++ y) (records_behind ks ls) ∙ sym (append_assoc (encode_call c k) (records c ks) (records c ls))

  as_given : {csv : List ℕ} {ks : List Call} (out : List ℕ) → Sheet csv ks → converted csv c out ≡ given c out (calls ks)
  unfolding converted
  as_given {csv = csv} {ks = ks} out w = rw (le-ltb 15 c small, converted) (ap (given c out) ((rows_are csv (calls ks)).1 w))

  makes : {csv : List ℕ} {ks : List Call} → Sheet csv ks → Makes csv c (records c ks)
  makes {ks = ks} w out room = as_given out w ∙ rw (le-ltb (length out) (length (records c ks)) room, given)

  of_one : {b : List ℕ} {ts : List (List ℕ)} {k : Call} → Row b ts → Form ts k → Makes b c (records c (k ∷ []))
  of_one w f = makes (Sheet.last_row (says w f))

  wrong_given : {csv : List ℕ} {line : ℕ} (out : List ℕ) → WrongAt csv line → converted csv c out ≡ given c out (wrong_at line)
  unfolding converted
  wrong_given {csv = csv} {line = line} out w = rw (le-ltb 15 c small, converted) (ap (given c out) ((exact.a_wrong_line csv line).1 w))

  too_short : (csv out : List ℕ) (ks : List Call) → Sheet csv ks → length out < length (records c ks) → converted csv c out ≡ record { answer = record { error = 16; line = 0; bytes = 0 }; out = out }
  too_short csv out ks w room = as_given out w ∙ rw (lt-ltb (length out) (length (records c ks)) room, given)

  -- ---- the records as a journal
  all_whole : (ks : List Call) → AllWhole (map (encode_call c) ks)
  unfolding encode_call
  all_whole [] = tt
  all_whole (k ∷ ks) = ((omega arith, omega arith), all_whole ks)

  decoded : (ks : List Call) → map decode (map (encode_call c) ks) ≡ map (request c) ks
  decoded [] = refl
  decoded (k ∷ ks) = ap₂ (λ x l. x ∷ l) (decode_encoded c k) (decoded ks)

  sheet_laws : SheetLaws c
  unfolding records encode_call textual textdata
  sheet_laws = record {
    empty = makes Sheet.no_more;
    users = λ u h. of_one (with_number (word user refl) u h) (Form.a_user h);
    roles = λ r h. of_one (with_number (word role refl) r h) (Form.a_role h);
    permissions = λ p h. of_one (with_number (word perm refl) p h) (Form.a_permission h);
    trusts = λ j h. of_one (with_number (word trust refl) j h) (Form.a_trust h);
    givings = λ u r h i. of_one (with_number (with_number (word give refl) u h) r i) (Form.a_giving h i);
    grants = λ p i r h j k. of_one (with_number (with_number (with_number (word grant refl) p h) i j) r k) (Form.a_grant h j k);
    attachments = λ q i r h j k. of_one (with_number (with_number (with_number (word attach refl) q h) i j) r k) (Form.an_attachment h j k);
    behind_lines = λ a b ks ls v w. subst (Makes (a ++ b) c) (records_behind ks ls) (makes (behind_lines v w));
    behind_a_sheet = λ a b ks ls v unended w. subst (Makes (a ++ (CR ∷ LF ∷ b)) c) (records_behind ks ls) (makes (behind_a_sheet v unended w));
    journal = λ ks. whole-journal (map (encode_call c) ks) (all_whole ks);
    decoded = decoded;
    wrong = λ csv line w out. wrong_given out w;
    short = too_short;
  }

pub all_sheet_laws : AllSheetLaws
all_sheet_laws = sheet_laws

pub strange_caller : StrangeCaller
unfolding converted
strange_caller csv caller h out = rw (lt-ltb 15 caller h, converted)

-- ---- quoting
-- behind lines two endings that are read as the same are the same
behind-same : {front : List ℕ} {ks : List Call} (x y : List ℕ) → Lines front ks → ((n m line : ℕ) → length x < n → length y < m → rows_from n line x ≡ rows_from m line y)
    → (n m line : ℕ) → length (front ++ x) < n → length (front ++ y) < m → rows_from n line (front ++ x) ≡ rows_from m line (front ++ y)
behind-same x y Lines.no_more same n m line h i = same n m line h i
behind-same x y (Lines.one_more {csv = csv} {k = k} s v) same n m line h i =
    let (p, e) = behind-line csv x n line s h in
    let (q, f) = behind-line csv y m line s i in
    p ∙ ap (one_call k) (behind-same x y v same (n - 1) (m - 1) (suc line) e f) ∙ sym q

-- bytes that begin with the same row, or with none
same-front : (x y : List ℕ) → 0 < length x → 0 < length y → row x ≡ row y → (n m line : ℕ) → length x < n → length y < m → rows_from n line x ≡ rows_from m line y
same-front x y some others e n m line h i = go (row y) refl
  where
    go : (r : Read Call) → row y ≡ r → rows_from n line x ≡ rows_from m line y
    go none f = rows_wrong n line x some h (e ∙ f) ∙ sym (rows_wrong m line y others i f)
    go (read k r) f = rows_read n line x some h (e ∙ f) ∙ ap (one_call k) (same_rows (n - 1) (m - 1) (suc line) r (omega (arith, read-shorter x (e ∙ f))) (omega (arith, read-shorter y f))) ∙ sym (rows_read m line y others i f)

same-converted : (x y : List ℕ) (caller : ℕ) (out : List ℕ) → rows x ≡ rows y → converted x caller out ≡ converted y caller out
unfolding converted
same-converted x y caller out e = go (ltb 15 caller) refl
  where
    go : (b : Bool) → ltb 15 caller ≡ b → converted x caller out ≡ converted y caller out
    go true f = rw (f, converted)
    go false f = rw (f, converted) (ap (given caller out) e)

pub quoting_is-nothing : QuotingIsNothing
quoting_is-nothing = record {
  same_row = same_row;
  same_sheet = λ {front} {b} {c} l caller out lines v w end some others.
      let x = b ++ l in
      let y = c ++ l in
      same-converted (front ++ x) (front ++ y) caller out
      (behind-same x y lines (same-front x y some others (same_row l v w end)) (suc (length (front ++ x))) (suc (length (front ++ y))) 1 (omega arith) (omega arith));
}
