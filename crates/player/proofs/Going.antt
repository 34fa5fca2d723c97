-- A turn of the player, and a journal that is played up to a byte place: what is printed and what is to come make up the whole text.
use mathlib.Core.Path.{◌≡◌, refl, ap, sym, ◌∙◌}
use mathlib.Core.List.{List, [], ◌∷◌, ◌++◌, append-nil, append_assoc}
use Prim.Native.Nat.{ℕ, suc, ◌+◌, ◌-◌, ◌*◌, ◌^◌, ◌≤◌, ◌<◌}
use native.Mathlib.Numerals.{add-one}
use native.Mathlib.Omega.{arith}
use lib.ListN.{length, take, drop, length-append}
use lib.Seq.{drop-drop}
use mir.Syntax.{w64}
use mir.Val.{Fits}
use borrow.Author.Tests.{le-ltb, lt-ltb, eq-eqb}
use Rattle.mtas.specs.Layout.{state_length}
use Rattle.mtas.specs.Record.{kind_of, caller_of}
use Rattle.mtas.specs.Answer as model
use Rattle.mtas.specs.Monitor.{monitor, start}
use Rattle.mtas.specs.Histories.{final}
use Rattle.mtas.specs.Journal.{Ending, complete, broken_at, Reading, whole, first_of, read_from, played, end, broken, long, lines_from, last_line, journal_limit, output, read_journal}
use Rattle.journal.specs.Found.{found_of, Inside}
use Rattle.journal.specs.declared.Found.{Found}
use Rattle.journal.specs.declared.Found.TheVariants.{NoMore, Whole, Partial}
use Rattle.lines.specs.Text.{text_of, text_of_all}
use Rattle.lines.specs.Written.{Exactly, Appended}
use Rattle.lines.specs.declared.buffer.Buffer.{Buffer}
use Rattle.lines.proofs.Decimal.{few}
use Rattle.monitor.specs.declared.Answer.{Answer}
use Rattle.monitor.specs.Contract.{numbers, Gives}
use Rattle.player.specs.Played.{room, left_by, Played}
use Rattle.player.specs.Turned.{Turned}

-- ---- one turn, by what was found
module _ {ws left : List ℕ} {at count : ℕ} {found : Found} {line : Buffer} (near : at ≤ journal_limit) (early : count ≤ at) where
  pub turn_played : {ws' bytes : List ℕ} {len kind caller : ℕ} {answer : Answer} {told : model.Answer} → found ≡ Whole len → bytes ≡ take len left
      → Gives (monitor ws bytes) told ws' → numbers answer ≡ told → kind ≡ kind_of bytes → caller ≡ caller_of bytes
      → Exactly line (text_of (played (count + 1) kind caller answer.refusal answer.verdict)) × (count + 1 < 100000 → line.len ≤ 28)
      → Turned ws left at count found ws' line
  turn_played f b v n k c (w, s) =
      let e = n ∙ v.same_answer in
      rw f (record { words = rw b at v.same_words; text = rw (k, c, ap (λ a. a.refusal) e, ap (λ a. a.verdict) e, b) at w; short = s (omega arith) })

  pub turn_end : found ≡ NoMore → Exactly line (text_of (end count)) → Turned ws left at count found ws line
  unfolding text_of
  turn_end f w = rw f (record { words = refl; text = w; short = omega (arith, simp length-append at w.len, few 4 count (omega arith)) })

  pub turn_broken : found ≡ Partial → Exactly line (text_of (broken at)) → Turned ws left at count found ws line
  unfolding text_of
  turn_broken f w = rw f (record { words = refl; text = w; short = omega (arith, simp length-append at w.len, few 4 at (omega arith)) })

-- a whole record ends in the journal
module _ {journal : List ℕ} {at len : ℕ} {found : Found} (i : Inside journal at found) (w : found ≡ Whole len) where
  pub lies : at + len ≤ length journal
  lies = (i.whole w).1

  pub lands : length journal < 2 ^ 64 → Fits w64 (at + len)
  lands l = omega (arith, lies)

-- ---- played up to a place
-- what is read from a place on, behind so many records
abbrev rest : List ℕ → ℕ → ℕ → Reading
rest journal at count = read_from (suc (length journal - count)) at (drop at journal)

-- a record is read, and then the rest
rest-whole : (journal : List ℕ) (at count len : ℕ) → whole len ≡ first_of (drop at journal) → (5 ≤ len) × (at + len ≤ length journal) → 5 * count ≤ at
    → rest journal at count ≡ record { records = take len (drop at journal) ∷ (rest journal (at + len) (suc count)).records; ending = (rest journal (at + len) (suc count)).ending }
unfolding read_from
rest-whole journal at count len f l m =
    let e : length journal - count ≡ suc (length journal - suc count) = omega arith in
    rw (sym f, read_from, drop-drop, e)

-- what was played and what is to come are the journal's records, and its last line is to come
pub record Going (journal ws out : List ℕ) (used at count : ℕ) : Type 0 where
  pub short : length journal ≤ journal_limit
  pub inside : at ≤ length journal
  pub few : 5 * count ≤ at
  pub fits : used ≤ 28 * count
  pub size : length out ≡ room
  pub total : count + length (rest journal at count).records ≡ length (read_journal journal).records
  pub ending : (rest journal at count).ending ≡ (read_journal journal).ending
  pub printed : take used out ++ text_of_all (lines_from (suc count) ws (rest journal at count).records ++ (last_line (read_journal journal).records (read_journal journal).ending ∷ [])) ≡ text_of_all (output journal)
  pub leaves : (before : List ℕ) → final ws (rest journal at count).records ≡ left_by before journal

pub going_start : (ws : List ℕ) {journal vs out : List ℕ} {told : model.Answer} → length ws ≡ state_length → Gives (start ws) told vs → length journal ≤ journal_limit → length out ≡ room → Going journal vs out 0 0 0
unfolding start output left_by
going_start ws {journal} n v l m =
    let e : length journal - 0 ≡ length journal = omega arith in
    let t = le-ltb journal_limit (length journal) l in
    rw (v.same_words, eq-eqb (length ws) state_length n, start) (record {
      short = l;
      inside = omega arith;
      few = omega arith;
      fits = omega arith;
      size = m;
      total = rw e (omega arith);
      ending = rw e;
      printed = rw (e, t, output);
      leaves = λ before. rw (e, t, left_by);
    })

-- one record more
pub going_next : {journal ws ws' out out' : List ℕ} {used used' at count len : ℕ} {found : Found} {line : Buffer} → Going journal ws out used at count
    → found_of found ≡ first_of (drop at journal) → Inside journal at found → found ≡ Whole len
    → Turned ws (drop at journal) at count found ws' line → Appended used line used' out out'
    → Going journal ws' out' used' (at + len) (count + 1)
unfolding text_of_all final lines_from
going_next {journal} {at = at} {count} {len} g f i w t a =
    let r = rest-whole journal at count len (rw w at f) (i.whole w) g.few in
    rw add-one (record {
      short = g.short;
      inside = lies i w;
      few = omega (arith, i.whole w);
      fits = omega arith;
      size = a.long ∙ g.size;
      total = omega (arith, rw r at g.total);
      ending = rw r at g.ending;
      printed = rw (a.text, t.text.same, append_assoc, t.words, w, add-one) (rw r at g.printed);
      leaves = λ before. rw (t.words, w) (rw r at (g.leaves before));
    })

-- no record more: the last line ends the text
ends : {before journal ws out out' : List ℕ} {used used' at count : ℕ} (e : Ending) {line : Buffer} → Going journal ws out used at count
    → rest journal at count ≡ record { records = []; ending = e }
    → (count ≡ length (read_journal journal).records → Exactly line (text_of (last_line (read_journal journal).records e)))
    → Appended used line used' out out' → Played before journal ws used' out'
unfolding text_of_all final lines_from
ends {before} e g r last a =
    let w = last (omega (arith, rw r at g.total)) in
    record {
      inside = omega arith;
      text = rw (a.text, w.same, rw r at g.ending) (rw append-nil at (rw r at g.printed));
      words = rw r at (g.leaves before);
    }

-- what is no whole record ends the journal
pub going_end : {before journal ws ws' out out' : List ℕ} {used used' at count : ℕ} {found : Found} {line : Buffer} → Going journal ws out used at count
    → found_of found ≡ first_of (drop at journal) → ((len : ℕ) → found ≡ Whole len → ⊥)
    → Turned ws (drop at journal) at count found ws' line → Appended used line used' out out'
    → Played before journal ws' used' out'
unfolding read_from
going_end {found = NoMore} g f k t a = rw t.words (ends complete g (rw (sym f, read_from)) (λ n. rw n at t.text) a)
going_end {found = Whole len} g f k t a = absurd (k len refl)
going_end {at = at} {found = Partial} g f k t a = rw t.words (ends (broken_at at) g (rw (sym f, read_from)) (λ n. t.text) a)

-- a journal that is too long isn't played
pub too_long : {ws journal out out' : List ℕ} {used : ℕ} {line : Buffer} → journal_limit < length journal → length out ≡ room → Exactly line (text_of long) → Appended 0 line used out out' → Played ws journal ws used out'
unfolding output left_by text_of_all
too_long {ws} {journal} l m w a =
    let t = lt-ltb journal_limit (length journal) l in
    record { inside = omega arith; text = rw (t, output) (a.text ∙ w.same ∙ sym (append-nil (text_of long))); words = rw (t, left_by) }
