-- The grammar's and the form's laws, by cases.
use mathlib.Core.Path.{◌≡◌, refl, ap, sym, subst, ◌∙◌}
use mathlib.Core.Logic.{◌⊎◌, inl, inr, ⊎_elim}
use mathlib.Core.Bool.{Bool, true, false, false≢true, ◌||◌}
use mathlib.Core.List.{List, [], ◌∷◌, ◌++◌}
use Prim.Native.Nat.{ℕ, zero, suc, ◌%◌, ◌≤◌}
use native.Mathlib.Omega.{arith}
use lib.Dec.{eqb}
use lib.ListN.{get_or}
use borrow.Author.Tests.{eqb-true, ne_eqb}
use Rattle.bits.proofs.Booleans.{below_or_not}
use Rattle.mtas.specs.Call.{Call, arguments}
use Rattle.mtas.specs.Record.{kind}
use Rattle.sheet.specs.Rfc4180.{DQUOTE, textdata, quotable, Text, Escaped, Field, Row}
use Rattle.sheet.specs.Form.{Form, Says, says}
use Rattle.sheet.specs.Grammar.{ByteLaws, Each, doubled, Bare, Quoted, FieldLaws, FormLaws}
use Rattle.sheet.proofs.Bytes.{below_text, above_text, the_quote, the_text, in_quotes}

pub byte_laws : ByteLaws
unfolding textdata
byte_laws = record {
  text = λ x. (
    λ h. (
      ⊎_elim (λ i. absurd (false≢true (below_text x i ∙ h))) (λ i. i) (below_or_not x 32),
      ⊎_elim (λ i. omega arith) (λ i. absurd (false≢true (above_text x (omega arith) ∙ h))) (below_or_not x 127),
      λ e. false≢true (the_quote x e ∙ h),
      λ e. false≢true (ap textdata (sym e) ∙ h),
    ),
    λ (a, b, c, d). the_text x a b c d,
  );
  in_quotes = in_quotes;
  not_in_quotes = λ x h a b c. rw (h, ne_eqb x 44 a, ne_eqb x 13 b, ne_eqb x 10 c);
}

-- ---- fields
texts : (t : List ℕ) → Each textdata t → Text t
texts [] e = Text.no_more
texts (x ∷ t) e = Text.one_more (e 0 (omega arith)) (texts t (λ i h. e (suc i) (omega arith)))

each-text : {t : List ℕ} → Text t → Each textdata t
each-text Text.no_more i h = absurd (omega arith)
each-text (Text.one_more e w) zero h = e
each-text (Text.one_more e w) (suc i) h = each-text w i (omega arith)

abbrev inside : ℕ → Bool
inside x = eqb x DQUOTE || quotable x

no_quote : (x : ℕ) → quotable x ≡ true → x ≡ DQUOTE → ⊥
unfolding textdata
no_quote x h e = false≢true (ap quotable (sym e) ∙ h)

escapes : (t : List ℕ) → Each inside t → Escaped (doubled t) t
unfolding doubled
escapes [] e = Escaped.no_more
escapes (x ∷ t) e = go (eqb x DQUOTE) refl (escapes t (λ i h. e (suc i) (omega arith)))
  where
    go : (y : Bool) → eqb x DQUOTE ≡ y → Escaped (doubled t) t → Escaped (doubled (x ∷ t)) (x ∷ t)
    go true q d = rw (q, doubled) (subst (λ z. Escaped (DQUOTE ∷ DQUOTE ∷ doubled t) (z ∷ t)) (sym (eqb-true x DQUOTE q)) (Escaped.two_quotes d))
    go false q d = rw (q, doubled) (Escaped.one_more (rw q at (e 0 (omega arith))) d)

undoubled : {b t : List ℕ} → Escaped b t → b ≡ doubled t
unfolding doubled
undoubled Escaped.no_more = refl
undoubled (Escaped.one_more {x = x} h d) = rw (ne_eqb x DQUOTE (no_quote x h), doubled) (ap (λ y. x ∷ y) (undoubled d))
undoubled (Escaped.two_quotes d) = ap (λ y. DQUOTE ∷ DQUOTE ∷ y) (undoubled d)

each-inside : {b t : List ℕ} → Escaped b t → Each inside t
each-inside Escaped.no_more i h = absurd (omega arith)
each-inside (Escaped.one_more {x = x} e d) zero h = rw (ne_eqb x DQUOTE (no_quote x e)) e
each-inside (Escaped.one_more e d) (suc i) h = each-inside d i (omega arith)
each-inside (Escaped.two_quotes d) zero h = refl
each-inside (Escaped.two_quotes d) (suc i) h = each-inside d i (omega arith)

pub field_laws : FieldLaws
field_laws = record { one_of_two = λ b t. (there, back b t) }
  where
    there : {b t : List ℕ} → Field b t → Bare b t ⊎ Quoted b t
    there (Field.non_escaped w) = inl (refl, each-text w)
    there (Field.escaped d) = inr (ap (λ y. DQUOTE ∷ (y ++ (DQUOTE ∷ []))) (undoubled d), each-inside d)

    back : (b t : List ℕ) → Bare b t ⊎ Quoted b t → Field b t
    back b t (inl (q, e)) = subst (λ y. Field y t) (sym q) (Field.non_escaped (texts t e))
    back b t (inr (q, e)) = subst (λ y. Field y t) (sym q) (Field.escaped (escapes t e))

-- ---- the form
one_of : {x : ℕ} → x ≤ 15 → (n : ℕ) → get_or (x ∷ []) n 0 ≤ 15
one_of h zero = h
one_of h (suc n) = omega arith

two-of : {x y : ℕ} → x ≤ 15 → y ≤ 15 → (n : ℕ) → get_or (x ∷ y ∷ []) n 0 ≤ 15
two-of h i zero = h
two-of h i (suc n) = one_of i n

three-of : {x y z : ℕ} → x ≤ 15 → y ≤ 15 → z ≤ 15 → (n : ℕ) → get_or (x ∷ y ∷ z ∷ []) n 0 ≤ 15
three-of h i j zero = h
three-of h i j (suc n) = two-of i j n

seven : {ts : List (List ℕ)} {k : Call} → Form ts k → (kind k % 2 ≡ 1) × (3 ≤ kind k) × (kind k ≤ 15)
seven (Form.a_user h) = (refl, omega arith, omega arith)
seven (Form.a_role h) = (refl, omega arith, omega arith)
seven (Form.a_permission h) = (refl, omega arith, omega arith)
seven (Form.a_trust h) = (refl, omega arith, omega arith)
seven (Form.a_giving h i) = (refl, omega arith, omega arith)
seven (Form.a_grant h i j) = (refl, omega arith, omega arith)
seven (Form.an_attachment h i j) = (refl, omega arith, omega arith)

one_spelling : {ts us : List (List ℕ)} {k : Call} → Form ts k → Form us k → ts ≡ us
one_spelling (Form.a_user h) (Form.a_user i) = refl
one_spelling (Form.a_role h) (Form.a_role i) = refl
one_spelling (Form.a_permission h) (Form.a_permission i) = refl
one_spelling (Form.a_trust h) (Form.a_trust i) = refl
one_spelling (Form.a_giving h i) (Form.a_giving j k) = refl
one_spelling (Form.a_grant h i j) (Form.a_grant k l m) = refl
one_spelling (Form.an_attachment h i j) (Form.an_attachment k l m) = refl

small : {ts : List (List ℕ)} {k : Call} → Form ts k → (n : ℕ) → get_or (arguments k) n 0 ≤ 15
small (Form.a_user h) n = one_of h n
small (Form.a_role h) n = one_of h n
small (Form.a_permission h) n = one_of h n
small (Form.a_trust h) n = one_of h n
small (Form.a_giving h i) n = two-of h i n
small (Form.a_grant h i j) n = three-of h i j n
small (Form.an_attachment h i j) n = three-of h i j n

pub form_laws : FormLaws
form_laws = record { seven = seven; one_spelling = one_spelling; small = small; said = λ b k. (parts, λ (ts, w, f). says w f) }
  where
    parts : {b : List ℕ} {k : Call} → Says b k → (ts : List (List ℕ)) × Row b ts × Form ts k
    parts (says {ts = ts} w f) = (ts, w, f)
