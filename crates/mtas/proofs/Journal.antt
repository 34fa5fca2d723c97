-- Records laid end to end are read back, up to the first place where none is whole; what a journal prints; and that nothing else is read from one.
use mathlib.Core.Path.{◌≡◌, refl, ap, ap₂, sym, ◌∙◌}
use mathlib.Core.Bool.{Bool, true, false, ◌&&◌, and-false}
use mathlib.Core.List.{List, [], ◌∷◌, ◌++◌, append_assoc, append-nil}
use Prim.Native.Nat.{ℕ, zero, suc, ◌+◌, ◌-◌, ◌*◌, ◌≤◌}
use native.Mathlib.Omega.{arith}
use lib.Dec.{eqb, leb}
use lib.ListN.{length, take, drop, length-append, get_or-append}
use lib.Seq.{get_or-take, length-take-le, drop-append_seam, take-append_seam}
use borrow.Author.Tests.{leb-true, le-leb, lt-leb, ne_eqb, lt-ltb, le-ltb}
use Rattle.bits.proofs.Booleans.{and_right, and_both}
use Rattle.mtas.specs.Record.{two_bytes}
use Rattle.mtas.specs.Monitor.{initial_words}
use Rattle.mtas.specs.Histories.{History}
use Rattle.mtas.specs.Journal.{Found, no_more, whole, partial, least_length, first_of, Ending, complete, broken_at, Reading, read_from, read_journal, lines_from, last_line, journal_limit, output, Whole, AllWhole, joined, Broken, under_2, length_below_5, length_past_the_end, JournalEnds}
use Rattle.mtas.proofs.Step.{differ}

first-whole : (b rest : List ℕ) → Whole b → first_of (b ++ rest) ≡ whole (length b)
unfolding first_of
first-whole b rest (long, field) =
    let n : length (b ++ rest) ≡ length b + length rest = length-append b rest in
    let f : two_bytes (b ++ rest) 0 ≡ length b = ap₂ (λ x y. x + 256 * y) (get_or-append b rest 0 0 (omega arith)) (get_or-append b rest 0 1 (omega arith)) ∙ field in
    rw (ne_eqb (length (b ++ rest)) 0 (omega arith), le-leb 2 (length (b ++ rest)) (omega arith), f, le-leb least_length (length b) (omega arith), le-leb (length b) (length (b ++ rest)) (omega arith), first_of) (ap whole f)

read_whole : (b rest : List ℕ) → Whole b → (at n : ℕ) → read_from (suc n) at (b ++ rest)
    ≡ record { records = b ∷ (read_from n (at + length b) rest).records; ending = (read_from n (at + length b) rest).ending }
unfolding read_from
read_whole b rest w at n = rw (first-whole b rest w, read_from) (rw (take-append_seam b rest, drop-append_seam b rest))

-- behind whole records reading goes on as it does on the rest
read_back : (h : History) → AllWhole h → (at n : ℕ) (rest : List ℕ) → read_from (length h + n) at (joined h ++ rest)
    ≡ record { records = h ++ (read_from n (at + length (joined h)) rest).records; ending = (read_from n (at + length (joined h)) rest).ending }
read_back [] w at n rest =
    let e : 0 + n ≡ n = omega arith in
    let a : at + 0 ≡ at = omega arith in
    rw (e, a)
read_back (b ∷ h) w at n rest =
    let e : suc (length h) + n ≡ suc (length h + n) = omega arith in
    let a : at + length (b ++ joined h) ≡ (at + length b) + length (joined h) = omega (arith, length-append b (joined h)) in
    rw (e, a) (ap (read_from (suc (length h + n)) at) (append_assoc b (joined h) rest) ∙ read_whole b (joined h ++ rest) w.0 at (length h + n)
    ∙ ap (λ r. record { records = b ∷ r.records; ending = r.ending }) (read_back h w.1 (at + length b) n rest))

-- ---- how a journal ends
broken-is : (left : List ℕ) → Broken left → first_of left ≡ partial
unfolding first_of
broken-is left (under_2 e) = rw (ne_eqb (length left) 0 (omega arith), lt-leb 2 (length left) (omega arith), first_of)
broken-is left (length_below_5 l b) =
    rw (ne_eqb (length left) 0 (omega arith), le-leb 2 (length left) l, lt-leb least_length (two_bytes left 0) (omega arith), first_of)
broken-is left (length_past_the_end l b) =
    rw (ne_eqb (length left) 0 (omega arith), le-leb 2 (length left) l, lt-leb (two_bytes left 0) (length left) b, and-false (leb least_length (two_bytes left 0)), first_of)

enough : (h : History) → AllWhole h → length h ≤ length (joined h)
enough [] w = omega arith
enough (b ∷ h) ((l, f), w) = let r = enough h w in omega (arith, length-append b (joined h))

-- whole records, and then bytes from which nothing is read
behind : (h : History) (left : List ℕ) (e : Ending) → AllWhole h → ((n : ℕ) → read_from (suc n) (0 + length (joined h)) left ≡ record { records = []; ending = e })
    → read_journal (joined h ++ left) ≡ record { records = h; ending = e }
behind h left e w rest =
    let j = joined h ++ left in
    let m = length j - length h in
    let fuel : suc (length j) ≡ length h + suc m = omega (arith, enough h w, length-append (joined h) left) in
    ap (λ n. read_from n 0 j) fuel ∙ read_back h w 0 (suc m) left ∙ ap (λ r. record { records = h ++ r.records; ending = r.ending }) (rest m)
    ∙ ap (λ l. record { records = l; ending = e }) (append-nil h)

pub whole-journal : (h : History) → AllWhole h → read_journal (joined h) ≡ record { records = h; ending = complete }
unfolding read_from first_of
whole-journal h w = ap read_journal (sym (append-nil (joined h))) ∙ behind h [] complete w (λ n. refl)

broken-journal : (h : History) (left : List ℕ) → AllWhole h → Broken left → read_journal (joined h ++ left) ≡ record { records = h; ending = broken_at (length (joined h)) }
unfolding read_from
broken-journal h left w b =
    let z : 0 + length (joined h) ≡ length (joined h) = omega arith in
    behind h left (broken_at (length (joined h))) w (λ n. rw (broken-is left b, read_from) (ap (λ k. record { records = []; ending = broken_at k }) z))

printed : (j : List ℕ) (h : History) (e : Ending) → read_journal j ≡ record { records = h; ending = e } → length j ≤ 65536 → output j ≡ lines_from 1 initial_words h ++ (last_line h e ∷ [])
unfolding output
printed j h e r l =
    rw (le-ltb journal_limit (length j) (omega arith), output) (ap (λ (x : Reading). lines_from 1 initial_words x.records ++ (last_line x.records x.ending ∷ [])) r)

-- ---- what is read from a journal
-- the record that is found
found : (left : List ℕ) (n : ℕ) → first_of left ≡ whole n → Whole (take n left)
unfolding first_of
found left n e = go (eqb (length left) 0) refl (leb 2 (length left) && (leb least_length (two_bytes left 0) && leb (two_bytes left 0) (length left))) refl
  where
    go : (x : Bool) → eqb (length left) 0 ≡ x → (y : Bool) → leb 2 (length left) && (leb least_length (two_bytes left 0) && leb (two_bytes left 0) (length left)) ≡ y → Whole (take n left)
    go true t y u = let h = rw (t, first_of) at e in absurd (differ (cc))
    go false t false u = let h = rw (t, u, first_of) at e in absurd (differ (cc))
    go false t true u =
        let h = rw (t, u, first_of) at e in
        let same : two_bytes left 0 ≡ n = cc in
        let field = leb least_length (two_bytes left 0) in
        let end = leb (two_bytes left 0) (length left) in
        let (a, b) = and_both field end (and_right (leb 2 (length left)) (field && end) u) in
        let long = leb-true least_length (two_bytes left 0) a in
        let inside = leb-true (two_bytes left 0) (length left) b in
        let taken : length (take n left) ≡ n = length-take-le n left (omega arith) in
        let in_front : two_bytes (take n left) 0 ≡ two_bytes left 0 = ap₂ (λ x y. x + 256 * y) (get_or-take n left 0 0 (omega arith)) (get_or-take n left 1 0 (omega arith)) in
        (omega arith, in_front ∙ same ∙ sym taken)

all_whole : (n at : ℕ) (left : List ℕ) → AllWhole (read_from n at left).records
unfolding read_from
all_whole zero at left = tt
all_whole (suc n) at left = go (first_of left) refl (all_whole n)
  where
    go : (f : Found) → first_of left ≡ f → ((at : ℕ) (left : List ℕ) → AllWhole (read_from n at left).records) → AllWhole (read_from (suc n) at left).records
    go no_more t rest = rw (t, read_from) tt
    go partial t rest = rw (t, read_from) tt
    go (whole len) t rest = rw (t, read_from) (found left len t, rest (at + len) (drop len left))

pub journal-ends : JournalEnds
unfolding output lines_from read_from first_of
journal-ends = record {
  empty = refl;
  whole_records = λ h w l. printed (joined h) h complete (whole-journal h w) l;
  broken_behind = λ h left w b l. printed (joined h ++ left) h (broken_at (length (joined h))) (broken-journal h left w b) l;
  too_long = λ j l. rw (lt-ltb journal_limit (length j) (omega arith), output);
  all_whole = λ j. all_whole (suc (length j)) 0 j;
}
