-- Reading row after row: a sheet's rows and its first wrong line, with any fuel above its length.
use mathlib.Core.Path.{◌≡◌, refl, ap, sym, subst, ◌∙◌}
use mathlib.Core.Logic.{◌↔◌}
use mathlib.Core.List.{List, [], ◌∷◌, ◌++◌, append_assoc}
use Prim.Native.Nat.{ℕ, zero, suc, ◌+◌, ◌-◌, ◌≤◌, ◌<◌}
use native.Mathlib.Omega.{arith}
use lib.ListN.{length, length-append}
use borrow.Author.Tests.{ne_eqb}
use Rattle.mtas.specs.Call.{Call}
use Rattle.mtas.proofs.Step.{differ}
use Rattle.sheet.specs.Rfc4180.{COMMA, CR, LF, Row}
use Rattle.sheet.specs.Form.{Form, Says, says, Sheet}
use Rattle.sheet.specs.Reading.{Read, none, read, row, Rows, calls, wrong_at, one_call, rows_from, rows}
use Rattle.sheet.specs.Exact.{Begins, Lines}
use Rattle.sheet.proofs.Rows.{Ends, says-read, row_exact}

-- ---- a row has a byte at least
two_texts : {ts : List (List ℕ)} {k : Call} → Form ts k → 2 ≤ length ts
two_texts (Form.a_user h) = omega arith
two_texts (Form.a_role h) = omega arith
two_texts (Form.a_permission h) = omega arith
two_texts (Form.a_trust h) = omega arith
two_texts (Form.a_giving h i) = omega arith
two_texts (Form.a_grant h i j) = omega arith
two_texts (Form.an_attachment h i j) = omega arith

says_some : {b : List ℕ} {k : Call} → Says b k → 0 < length b
says_some (says w form) = go w (two_texts form)
  where
    go : {b : List ℕ} {ts : List (List ℕ)} → Row b ts → 2 ≤ length ts → 0 < length b
    go (Row.last_field f) h = absurd (omega arith)
    go (Row.one_more {b = b} {c = c} f w) h = omega (arith, length-append b (COMMA ∷ c))

shorter : {l r : List ℕ} {k : Call} → Begins l k r → length r < length l
shorter (Begins.at_the_end s) = says_some s
shorter (Begins.in_crlf {b = b} {l = l} s) = omega (arith, length-append b (CR ∷ LF ∷ l))

pub read-shorter : (l : List ℕ) {k : Call} {r : List ℕ} → row l ≡ read k r → length r < length l
read-shorter l {k = k} {r = r} e = shorter ((row_exact l k r).0 e)

-- ---- one row
module _ (n line : ℕ) (l : List ℕ) (some : 0 < length l) (enough : length l < n) where
  pub rows_read : {k : Call} {r : List ℕ} → row l ≡ read k r → rows_from n line l ≡ one_call k (rows_from (n - 1) (suc line) r)
  unfolding rows_from
  rows_read {k = k} {r = r} e = go n enough
    where
      go : (n : ℕ) → length l < n → rows_from n line l ≡ one_call k (rows_from (n - 1) (suc line) r)
      go zero h = absurd (omega arith)
      go (suc n) h = let m : suc n - 1 ≡ n = omega arith in rw (m, ne_eqb (length l) 0 (omega arith), e, rows_from)

  pub rows_wrong : row l ≡ none → rows_from n line l ≡ wrong_at line
  unfolding rows_from
  rows_wrong e = go n enough
    where
      go : (n : ℕ) → length l < n → rows_from n line l ≡ wrong_at line
      go zero h = absurd (omega arith)
      go (suc n) h = rw (ne_eqb (length l) 0 (omega arith), e, rows_from)

pub rows_none : (n line : ℕ) → 0 < n → rows_from n line [] ≡ calls []
unfolding rows_from
rows_none zero line h = absurd (omega arith)
rows_none (suc n) line h = refl

-- ---- a sheet is read
sheet_read : {csv : List ℕ} {ks : List Call} → Sheet csv ks → (n line : ℕ) → length csv < n → rows_from n line csv ≡ calls ks
sheet_read Sheet.no_more n line h = rows_none n line h
sheet_read (Sheet.last_row {b = b} {k = k} s) n line h =
    rows_read n line b (says_some s) h ((row_exact b k []).1 (Begins.at_the_end s)) ∙ ap (one_call k) (rows_none (n - 1) (suc line) (omega (arith, says_some s)))
sheet_read (Sheet.one_more {b = b} {csv = csv} {k = k} s w) n line h =
    let more = length-append b (CR ∷ LF ∷ csv) in
    rows_read n line (b ++ (CR ∷ LF ∷ csv)) (omega arith) h (says-read s Ends.in_crlf) ∙ ap (one_call k) (sheet_read w (n - 1) (suc line) (omega arith))

-- ---- behind lines reading goes on
pub behind-line : {b : List ℕ} {k : Call} (csv left : List ℕ) (n line : ℕ) → Says b k → length (b ++ (CR ∷ LF ∷ csv) ++ left) < n
    → (rows_from n line (b ++ (CR ∷ LF ∷ csv) ++ left) ≡ one_call k (rows_from (n - 1) (suc line) (csv ++ left))) × (length (csv ++ left) < n - 1)
behind-line {b = b} csv left n line s h =
    let e = append_assoc b (CR ∷ LF ∷ csv) left in
    let more = length-append b (CR ∷ LF ∷ (csv ++ left)) in
    let same = ap length e in
    (ap (rows_from n line) e ∙ rows_read n line (b ++ (CR ∷ LF ∷ (csv ++ left))) (omega arith) (omega arith) (says-read s Ends.in_crlf), omega arith)

lines_wrong : {front : List ℕ} {ks : List Call} (left : List ℕ) → Lines front ks → 0 < length left → row left ≡ none → (n line : ℕ) → length (front ++ left) < n
    → rows_from n line (front ++ left) ≡ wrong_at (line + length ks)
lines_wrong left Lines.no_more some e n line h =
    let here : line ≡ line + 0 = omega arith in
    rows_wrong n line left some h e ∙ ap wrong_at here
lines_wrong left (Lines.one_more {csv = csv} {k = k} {ks = ks} s w) some e n line h =
    let (p, q) = behind-line csv left n line s h in
    let next : suc line + length ks ≡ line + suc (length ks) = omega arith in
    p ∙ ap (one_call k) (lines_wrong left w some e (n - 1) (suc line) q) ∙ ap wrong_at next

not-read : (l : List ℕ) → ((k : Call) (r : List ℕ) → Begins l k r → ⊥) → row l ≡ none
not-read l no_row = go (row l) refl
  where
    go : (r : Read Call) → row l ≡ r → r ≡ none
    go none e = refl
    go (read k r) e = absurd (no_row k r ((row_exact l k r).0 e))

-- ---- what is read of any bytes
-- behind lines stand bytes that begin with no row, at this line
pub data Wrong (line : ℕ) : List ℕ → ℕ → Type 0 where
  wrong : {front left : List ℕ} {ks : List Call} {m : ℕ} → Lines front ks → 0 < length left → ((k : Call) (l : List ℕ) → Begins left k l → ⊥) → line + length ks ≡ m → Wrong line (front ++ left) m

abbrev pub Told : ℕ → List ℕ → Rows → Type 0
Told line l (calls ks) = Sheet l ks
Told line l (wrong_at m) = Wrong line l m

one_more_told : {b : List ℕ} {k : Call} (line : ℕ) (l : List ℕ) (r : Rows) → Says b k → Told (suc line) l r → Told line (b ++ (CR ∷ LF ∷ l)) (one_call k r)
one_more_told line l (calls ks) s w = Sheet.one_more s w
one_more_told {b = b} line l (wrong_at m) s (wrong {front = front} {left = left} w some no_row q) =
    subst (λ y. Wrong line y m) (append_assoc b (CR ∷ LF ∷ front) left) (wrong (Lines.one_more s w) some no_row (omega arith))

rows_told : (n line : ℕ) (l : List ℕ) → length l < n → Told line l (rows_from n line l)
unfolding rows_from
rows_told zero line l h = absurd (omega arith)
rows_told (suc n) line [] h = Sheet.no_more
rows_told (suc n) line (x ∷ l) h = go (row (x ∷ l)) refl (rows_told n (suc line))
  where
    told : {l r : List ℕ} {k : Call} → Begins l k r → length l < suc n → ((r : List ℕ) → length r < n → Told (suc line) r (rows_from n (suc line) r))
        → Told line l (one_call k (rows_from n (suc line) r))
    told (Begins.at_the_end s) h rest = rw (rows_none n (suc line) (omega (arith, says_some s))) (Sheet.last_row s)
    told (Begins.in_crlf {b = b} {l = l} s) h rest = one_more_told line l (rows_from n (suc line) l) s (rest l (omega (arith, length-append b (CR ∷ LF ∷ l))))

    go : (r : Read Call) → row (x ∷ l) ≡ r → ((r : List ℕ) → length r < n → Told (suc line) r (rows_from n (suc line) r)) → Told line (x ∷ l) (rows_from (suc n) line (x ∷ l))
    go none e rest =
        let some : 0 < length (x ∷ l) = omega arith in
        let here : line + 0 ≡ line = omega arith in
        rw (rows_wrong (suc n) line (x ∷ l) some h e) (wrong Lines.no_more some (λ k r b. let f = (row_exact (x ∷ l) k r).1 b in differ (cc)) here)
    go (read k r) e rest =
        let m : suc n - 1 ≡ n = omega arith in
        rw (rows_read (suc n) line (x ∷ l) (omega arith) h e, m) (told ((row_exact (x ∷ l) k r).0 e) h rest)

-- the other way: what is said of bytes is read of them
told_read : (line : ℕ) (l : List ℕ) (r : Rows) → Told line l r → (n : ℕ) → length l < n → rows_from n line l ≡ r
told_read line l (calls ks) w n h = sheet_read w n line h
told_read line l (wrong_at m) (wrong {left = left} w some no_row q) n h = lines_wrong left w some (not-read left no_row) n line h ∙ ap wrong_at q

pub rows_are : (csv : List ℕ) (r : Rows) → (rows csv ≡ r) ↔ Told 1 csv r
rows_are csv r = (λ e. subst (Told 1 csv) e (rows_told (suc (length csv)) 1 csv (omega arith)), λ w. told_read 1 csv r w (suc (length csv)) (omega arith))

pub same_rows : (n m line : ℕ) (l : List ℕ) → length l < n → length l < m → rows_from n line l ≡ rows_from m line l
same_rows n m line l h k = sym (told_read line l (rows_from n line l) (rows_told n line l h) m k)
