-- A row in front of bytes, from its word, its arguments and its end.
use mathlib.Core.Path.{◌≡◌, refl, sym, ap, ◌∙◌}
use Rattle.std.specs.Prelude.{Option, Some, None}
use mathlib.Core.Logic.{◌⊎◌, inl, inr, ⊎_elim}
use mathlib.Core.List.{List, [], ◌∷◌}
use Prim.Native.Nat.{ℕ, ◌+◌, ◌-◌, ◌^◌, ◌≤◌, ◌<◌}
use native.Mathlib.Omega.{arith}
use lib.ListN.{length, get_or, take, drop, length-take, length-drop}
use lib.Seq.{drop-drop}
use mir.Syntax.{w64}
use mir.Val.{Fits}
use borrow.Author.Rules.{part_to_end}
use Rattle.bits.proofs.Booleans.{below_or_not}
use Rattle.mtas.specs.Call.{Call}
use Rattle.mtas.specs.Record.{Form, known, kind_at, record_of, encode_call}
use Rattle.record.specs.declared.Slots.{Slots}
use Rattle.sheet.specs.Reading.{Read, none, read, then, field, kind_named, arguments, ended, with_arguments, row}
use Rattle.sheet.specs.Found.{NotPlain, no_field, not_text, text_in, Meant, plain, other, FieldIs, count_of, Is, Names, ArgumentsAre, EndIs, end_of, recorded, RowIs}
use Rattle.sheet.specs.declared.csv.Field.{Field}
use Rattle.sheet.specs.declared.form.Named.{Named}
use Rattle.sheet.proofs.Numbers.{Word, kind_named-sound}
use Rattle.sheet.proofs.OfText.{word-text}
use Rattle.sheet.proofs.Following.{both_same}

-- ---- a word
-- a word's call: its form, and its record
record Matched (t : List ℕ) (k count : ℕ) : Type 0 where
  form : Form
  its_kind : kind_at k ≡ known form
  its_count : form.count ≡ count
  encodes : (c x y z : ℕ) → record_of k c (take count (x ∷ y ∷ z ∷ [])) ≡ encode_call c (form.call (λ n. get_or (take count (x ∷ y ∷ z ∷ [])) n 0))
  long : 4 ≤ length t
  some : 1 ≤ count

matched : {t : List ℕ} {k : ℕ} → Word t k → (k ≡ 0 → ⊥) → Matched t k (count_of (kind_at k))
unfolding encode_call
matched Word.a_user n = record { form = _; its_kind = refl; its_count = refl; encodes = λ c x y z. refl; long = omega arith; some = omega arith }
matched Word.a_role n = record { form = _; its_kind = refl; its_count = refl; encodes = λ c x y z. refl; long = omega arith; some = omega arith }
matched Word.a_permission n = record { form = _; its_kind = refl; its_count = refl; encodes = λ c x y z. refl; long = omega arith; some = omega arith }
matched Word.a_trust n = record { form = _; its_kind = refl; its_count = refl; encodes = λ c x y z. refl; long = omega arith; some = omega arith }
matched Word.a_giving n = record { form = _; its_kind = refl; its_count = refl; encodes = λ c x y z. refl; long = omega arith; some = omega arith }
matched Word.a_grant n = record { form = _; its_kind = refl; its_count = refl; encodes = λ c x y z. refl; long = omega arith; some = omega arith }
matched Word.an_attachment n = record { form = _; its_kind = refl; its_count = refl; encodes = λ c x y z. refl; long = omega arith; some = omega arith }
matched Word.another n = absurd (n refl)

zero_or_not : (k : ℕ) → (k ≡ 0) ⊎ (k ≡ 0 → ⊥)
zero_or_not k = ⊎_elim (λ h. inl (omega arith)) (λ h. inr (λ e. omega arith)) (below_or_not k 1)

-- ---- no row
pub numbers-inside : {count : ℕ} {l : List ℕ} {a : Option (Slots × ℕ)} {slots : Slots} {at : ℕ} → ArgumentsAre count l a → a ≡ Some (slots, at) → at ≤ length l
numbers-inside b e = (b.inside e).1

no_row : (l : List ℕ) → none ≡ row l → RowIs l None
no_row l e = record { same = λ c. ap (recorded c) e; sound = λ q. let z : ◌≡◌ {A = ℕ} 0 1 = cc in absurd (omega arith) }

-- a text that isn't TEXTDATA alone names no kind
unnamed : (q : Read (List ℕ)) → NotPlain q → none ≡ then q (λ t r. with_arguments (kind_at (kind_named t)) r)
unnamed none no_field = refl
unnamed (read t r) (not_text n) = ⊎_elim (λ e. rw e) (λ d. absurd (n (word-text (kind_named-sound t) d))) (zero_or_not (kind_named t))

module _ (l : List ℕ) (f : Field) where
  abbrev text : List ℕ
  text = text_in l f

  abbrev left : List ℕ
  left = drop f.next l

module _ (l : List ℕ) (f : Field) (i : FieldIs l f) {named : Option Named} (told : Names (text l f) named) where
  pub no_word_in_front : named ≡ None → RowIs l None
  unfolding row
  no_word_in_front z = no_row l (go i.meant)
    where
      zero : kind_named (text l f) ≡ 0
      zero = rw z at told

      go : Meant l f → none ≡ row l
      go (plain p) = rw p (rw zero)
      go (other p e) = unnamed (field l) p

  -- ---- a word in front
  module _ {w : Named} (named_so : named ≡ Some w) where
    s : Is (text l f) w
    s = rw named_so at told

    pub few_arguments : w.count ≤ 3
    few_arguments = s.few

    word : Matched (text l f) w.kind w.count
    word =
        let m = matched (kind_named-sound (text l f)) (λ e. let z = s.same_count ∙ ap (λ k. count_of (kind_at k)) e in omega (arith, s.some)) in
        rw (s.same_kind, s.same_count) m

    -- the text isn't empty, so the field is plain
    is_plain : field l ≡ read (text l f) (left l f)
    is_plain = go i.meant
      where
        go : Meant l f → field l ≡ read (text l f) (left l f)
        go (plain p) = p
        go (other p e) = absurd (omega (arith, word.long, ap length e))

    -- a word has 4 bytes
    apart : 4 ≤ f.next
    apart = omega (arith, word.long, length-take (f.to - f.from) (drop f.from l), i.behind)

    read_on : row l ≡ then (arguments w.count (left l f)) (λ xs r. ended (word.form.call (λ n. get_or xs n 0)) r)
    unfolding row
    read_on = rw (is_plain, sym s.same_kind, word.its_kind, word.its_count)

    pub wrong_arguments : {a : Option (Slots × ℕ)} → ArgumentsAre w.count (take (length l - f.next) (left l f)) a → a ≡ None → RowIs l None
    wrong_arguments b e =
        let a : ArgumentsAre w.count (left l f) None = rw (part_to_end, e) at b in
        no_row l (sym (read_on ∙ rw (sym a.same)))

    module _ {a : Option (Slots × ℕ)} {slots : Slots} {at : ℕ} (b : ArgumentsAre w.count (take (length l - f.next) (left l f)) a) (e : a ≡ Some (slots, at)) where
      abbrev numbers : List ℕ
      numbers = take w.count (slots.x ∷ slots.y ∷ slots.z ∷ [])

      read_numbers : ArgumentsAre w.count (left l f) (Some (slots, at))
      read_numbers = rw (part_to_end, e) at b

      its_call : Call
      its_call = word.form.call (λ n. get_or numbers n 0)

      read_end_on : row l ≡ ended its_call (drop at (left l f))
      unfolding its_call
      read_end_on = read_on ∙ rw (sym read_numbers.same)

      pub at_fits : length l < 2 ^ 64 → Fits w64 (f.next + at)
      at_fits h = omega (arith, read_numbers.inside refl, length-drop f.next l, i.inside)

      -- the bytes of the code's slice
      abbrev part : List ℕ
      part = take (length l - f.next) (left l f)

      module _ {r : Option ℕ} (d : EndIs (take (length part - at) (drop at part)) r) where
        the_end : EndIs (drop at (left l f)) r
        the_end = rw (part_to_end, part_to_end) at d

        pub wrong_end : r ≡ None → RowIs l None
        wrong_end q = no_row l (sym (read_end_on ∙ sym (the_end.same its_call) ∙ ap (end_of its_call (drop at (left l f))) q))

        module _ {n : ℕ} (q : r ≡ Some n) where
          abbrev next : ℕ
          next = f.next + at + n

          inside : next ≤ length l
          inside = omega (arith, the_end.inside q, read_numbers.inside refl, length-drop at (left l f), length-drop f.next l, i.inside)

          pub next_fits : length l < 2 ^ 64 → Fits w64 next
          next_fits h = omega (arith, inside)

          row_is : row l ≡ read its_call (drop next l)
          row_is =
              let e : f.next + (at + n) ≡ next = omega arith in
              read_end_on ∙ sym (the_end.same its_call) ∙ ap (end_of its_call (drop at (left l f))) q
              ∙ ap (read its_call) (drop-drop n at (left l f) ∙ drop-drop (at + n) f.next l ∙ ap (λ k. drop k l) e)

          pub a_row : RowIs l (Some (record { kind = w.kind; count = w.count; slots = slots }, next))
          unfolding its_call
          a_row = record {
            same = λ c. ap (λ b. read b (drop next l)) (word.encodes c slots.x slots.y slots.z) ∙ sym (ap (recorded c) row_is);
            sound = λ {k} {next = m} g.
                let u : record { kind = w.kind; count = w.count; slots = slots } ≡ k = (both_same g).0 in
                let v : next ≡ m = (both_same g).1 in
                rw (sym u, sym v) (record { few = s.few; shorter = omega (arith, apart, read_numbers.inside refl, word.some); inside = inside });
          }
