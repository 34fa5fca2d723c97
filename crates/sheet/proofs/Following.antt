-- Arguments in front of bytes, from the comma and the field behind it.
use mathlib.Core.Path.{◌≡◌, refl, sym, ap, ap₂, ◌∙◌}
use Rattle.std.specs.Prelude.{Option, Some, None}
use mathlib.Core.Logic.{⊎_elim}
use mir.Syntax.{w64}
use mir.Val.{Fits}
use mathlib.Core.List.{List, [], ◌∷◌, ◌++◌, append-nil, append_assoc}
use Prim.Native.Nat.{ℕ, suc, ◌+◌, ◌-◌, ◌^◌, ◌≤◌, ◌<◌}
use native.Mathlib.Numerals.{add-one}
use native.Mathlib.Omega.{arith}
use borrow.Author.Rules.{part_to_end}
use borrow.Author.Tests.{eq-eqb, ne_eqb, le-leb, lt-leb}
use lib.ListN.{length, get_or, set, take, drop, length-set, length-drop}
use lib.Seq.{take-append-le, take-suc-set, drop-drop}
use Rattle.bits.proofs.Booleans.{below_or_not}
use Rattle.sheet.specs.Rfc4180.{COMMA}
use Rattle.sheet.specs.Reading.{Read, none, read, then, field, number, numbered, with_first, argument, arguments}
use Rattle.sheet.specs.Found.{NumberIs, NotPlain, no_field, not_text, text_in, Meant, plain, other, FieldIs, ArgumentIs, ArgumentsAre}
use Rattle.sheet.specs.declared.csv.Field.{Field}
use Rattle.sheet.proofs.Plain.{in_range}
use Rattle.sheet.proofs.OfText.{number-text}

-- two found pairs have the same parts
pub both_same : {A : Type 0} {p q : A × ℕ} → ◌≡◌ {A = Option (A × ℕ)} (Some p) (Some q) → (p.0 ≡ q.0) × (p.1 ≡ q.1)
both_same {A} {p} {q} e = let s : p ≡ q = cc in (ap (λ r. r.0) s, ap (λ r. r.1) s)

great : (t r : List ℕ) → 15 < number t → none ≡ numbered t r
great t r h = rw (lt-leb (number t) 15 h, numbered)

no_argument : (l : List ℕ) → none ≡ argument l → ArgumentIs l None
no_argument l s = record { same = s; inside = λ e. let z : ◌≡◌ {A = ℕ} 0 1 = cc in absurd (omega arith) }

pub no_comma : (l : List ℕ) → (get_or l 0 0 ≡ COMMA → ⊥) → ArgumentIs l None
unfolding argument
no_comma l d = no_argument l (rw (ne_eqb (get_or l 0 0) COMMA d, argument))

-- a comma, and the field behind it
module _ (l : List ℕ) (f : Field) (first : get_or l 0 0 ≡ COMMA) (i : FieldIs (drop 1 l) f) where
  behind_comma : argument l ≡ then (field (drop 1 l)) numbered
  unfolding argument
  behind_comma = rw (eq-eqb (get_or l 0 0) COMMA first, argument)

  module _ {r : Option ℕ} (told : NumberIs (text_in (drop 1 l) f) r) where
    pub no_number_behind : r ≡ None → ArgumentIs l None
    no_number_behind h = no_argument l (go i.meant ∙ sym behind_comma)
      where
        sixteen : number (text_in (drop 1 l) f) ≡ 16
        sixteen = rw h at told

        out : (q : Read (List ℕ)) → NotPlain q → none ≡ then q numbered
        out none no_field = refl
        out (read t r) (not_text w) = ⊎_elim (λ g. great t r g) (λ g. absurd (w (number-text t g))) (below_or_not 15 (number t))

        go : Meant (drop 1 l) f → none ≡ then (field (drop 1 l)) numbered
        go (plain p) = rw p (great (text_in (drop 1 l) f) (drop f.next (drop 1 l)) (omega (arith, sixteen)))
        go (other p q) = out (field (drop 1 l)) p

    module _ {n : ℕ} (h : r ≡ Some n) where
      its : (n ≡ number (text_in (drop 1 l) f)) × (n ≤ 15)
      its = rw h at told

      -- a field that spells a number isn't empty
      some : 1 ≤ f.next
      unfolding number
      some = ⊎_elim (λ g. absurd (empty (omega arith))) (λ g. g) (below_or_not f.next 1)
        where
          empty : f.to - f.from ≡ 0 → ⊥
          empty z = let w : n ≡ 16 = its.0 ∙ ap (λ k. number (take k (drop f.from (drop 1 l)))) z in omega (arith, its.1)

      pub a_number : ArgumentIs l (Some (n, 1 + f.next))
      unfolding number
      a_number = record { same = go i.meant ∙ sym behind_comma; inside = λ {n = m} {next} q. let z : 1 + f.next ≡ next = (both_same q).1 in (omega (arith, some), omega (arith, i.inside, length-drop 1 l, in_range l 0 (omega arith))) }
        where
          go : Meant (drop 1 l) f → read n (drop (1 + f.next) l) ≡ then (field (drop 1 l)) numbered
          go (plain p) = rw (p, le-leb (number (text_in (drop 1 l) f)) 15 (omega (arith, its.0, its.1)), numbered) (ap₂ read its.0 (sym (drop-drop f.next 1 l)))
          go (other p q) = absurd (omega (arith, its.0 ∙ ap number q, its.1))

-- ---- so many of them
-- the first i of the arguments were read, up to a place
pub record Collected (count : ℕ) (l numbers : List ℕ) (at i : ℕ) : Type 0 where
  pub few : i ≤ count
  pub inside : at ≤ length l
  pub apart : i + i ≤ at
  pub room : length numbers ≡ count
  pub rest : arguments count l ≡ then (arguments (count - i) (drop at l)) (λ xs r. read (take i numbers ++ xs) r)

pub collect_none : (count : ℕ) (l numbers : List ℕ) → length numbers ≡ count → Collected count l numbers 0 0
collect_none count l numbers m =
    let z : count - 0 ≡ count = omega arith in
    record { few = omega arith; inside = omega arith; apart = omega arith; room = m; rest = rw z (sym (as_read (arguments count l))) }
  where
    as_read : (q : Read (List ℕ)) → then q (λ xs r. read xs r) ≡ q
    as_read none = refl
    as_read (read xs r) = refl

module _ {count : ℕ} {l numbers : List ℕ} {at i : ℕ} (g : Collected count l numbers at i) where
  -- another is to be read
  pub lands : {r : Option (ℕ × ℕ)} {n next : ℕ} → ArgumentIs (take (length l - at) (drop at l)) r → r ≡ Some (n, next) → length l < 2 ^ 64 → Fits w64 (at + next)
  lands b e f =
      let a : ArgumentIs (drop at l) (Some (_, _)) = rw (part_to_end, e) at b in
      omega (arith, (a.inside refl).1, length-drop at l, g.inside)

  module _ (more : i < count) where
    one_of : arguments (count - i) (drop at l) ≡ then (argument (drop at l)) (λ x r. then (arguments (count - suc i) r) (with_first x))
    unfolding arguments
    one_of = let s : count - i ≡ suc (count - suc i) = omega arith in rw s

    pub collect_one : {r : Option (ℕ × ℕ)} (n next : ℕ) → ArgumentIs (take (length l - at) (drop at l)) r → r ≡ Some (n, next) → Collected count l (set numbers i n) (at + next) (i + 1)
    collect_one n next b e =
        let a : ArgumentIs (drop at l) (Some (n, next)) = rw (part_to_end, e) at b in
        let (two, in-it) = a.inside refl in
        rw add-one (record {
          few = more;
          inside = omega (arith, length-drop at l);
          apart = omega arith;
          room = length-set numbers i n ∙ g.room;
          rest = g.rest ∙ rw (one_of, sym a.same, drop-drop next at l) (behind (arguments (count - suc i) (drop (at + next) l)));
        })
      where
        behind : (q : Read (List ℕ)) → then (then q (with_first n)) (λ xs r. read (take i numbers ++ xs) r) ≡ then q (λ xs r. read (take (suc i) (set numbers i n) ++ xs) r)
        behind none = refl
        behind (read xs r) = ap (λ ys. read ys r) (sym (ap (λ ys. ys ++ xs) (take-suc-set numbers i n (omega (arith, g.room))) ∙ append_assoc (take i numbers) (n ∷ []) xs))

    pub collect_no_more : {r : Option (ℕ × ℕ)} → ArgumentIs (take (length l - at) (drop at l)) r → r ≡ None → ArgumentsAre count l None
    collect_no_more b e =
        let a : ArgumentIs (drop at l) None = rw (part_to_end, e) at b in
        record { same = sym (g.rest ∙ rw (one_of, sym a.same)); inside = λ e. let z : ◌≡◌ {A = ℕ} 0 1 = cc in absurd (omega arith) }

  pub collect_all : count ≤ i → (others : List ℕ) → length (numbers ++ others) ≡ 3
      → ArgumentsAre count l (Some (record { x = get_or (numbers ++ others) 0 0; y = get_or (numbers ++ others) 1 0; z = get_or (numbers ++ others) 2 0 }, at))
  unfolding arguments
  collect_all h others long =
      let s : i ≡ count = omega (arith, g.few) in
      let z : count - i ≡ 0 = omega arith in
      record {
        same = sym (rw (z, append-nil (take i numbers), s) at g.rest ∙ ap (λ xs. read xs (drop at l)) (sym (take-append-le count numbers others (omega (arith, g.room))) ∙ ap (take count) (three (numbers ++ others) long)));
        inside = λ {s = slots} {next} e. let q : at ≡ next = (both_same e).1 in (omega (arith, g.apart), omega (arith, g.inside));
      }
    where
      three : (ns : List ℕ) → length ns ≡ 3 → ns ≡ get_or ns 0 0 ∷ get_or ns 1 0 ∷ get_or ns 2 0 ∷ []
      three [] e = absurd (omega arith)
      three (x ∷ []) e = absurd (omega arith)
      three (x ∷ y ∷ []) e = absurd (omega arith)
      three (x ∷ y ∷ z ∷ []) e = refl
      three (x ∷ y ∷ z ∷ w ∷ ns) e = absurd (omega arith)
