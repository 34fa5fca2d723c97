-- A field is read where RFC 4180's grammar has one, with its text, and nowhere else.
use mathlib.Core.Path.{◌≡◌, refl, ap, ap₂, sym, ◌∙◌}
use mathlib.Core.Bool.{Bool, true, false, false≢true}
use mathlib.Core.List.{List, [], ◌∷◌, ◌++◌, append_assoc}
use Prim.Native.Nat.{ℕ}
use lib.Dec.{eqb}
use lib.ListN.{length, get_or, drop}
use lib.Seq.{drop-append_seam}
use borrow.Author.Tests.{eqb-true, ne_eqb}
use Rattle.sheet.specs.Rfc4180.{DQUOTE, textdata, quotable, Text, Escaped, Field}
use Rattle.sheet.specs.Reading.{Read, none, read, then, textual, with_first, quoted, field}

-- what is read, if anything, is so
abbrev pub Gives : {A : Type 0} → (A → List ℕ → Type 0) → Read A → Type 0
Gives P none = Unit
Gives P (read a l) = P a l

pub gives_then : {A B : Type 0} (P : A → List ℕ → Type 0) (Q : B → List ℕ → Type 0) (r : Read A) (f : A → List ℕ → Read B) → Gives P r
    → ((a : A) (l : List ℕ) → P a l → Gives Q (f a l)) → Gives Q (then r f)
gives_then P Q none f g h = tt
gives_then P Q (read a l) f g h = h a l g

pub gives_more : {A : Type 0} (P Q : A → List ℕ → Type 0) (r : Read A) → Gives P r → ((a : A) (l : List ℕ) → P a l → Q a l) → Gives Q r
gives_more P Q none g h = tt
gives_more P Q (read a l) g h = h a l g

-- ---- bytes
text_no_quote : (x : ℕ) → textdata x ≡ true → eqb x DQUOTE ≡ false
unfolding textdata
text_no_quote x h = ne_eqb x DQUOTE (λ e. false≢true (ap textdata (sym e) ∙ h))

quotable_no_quote : (x : ℕ) → quotable x ≡ true → eqb x DQUOTE ≡ false
unfolding textdata
quotable_no_quote x h = ne_eqb x DQUOTE (λ e. false≢true (ap quotable (sym e) ∙ h))

-- what may stand behind a field: nothing, or a byte that is neither TEXTDATA nor a quote
pub data Edge : List ℕ → Type 0 where
  nothing : Edge []
  a_byte : {x : ℕ} {l : List ℕ} → textdata x ≡ false → eqb x DQUOTE ≡ false → Edge (x ∷ l)

-- ---- *TEXTDATA
-- the bytes that are read, with the text that the grammar gives them
abbrev pub Splits : List ℕ → List ℕ → List ℕ → Type 0
Splits l t r = (b : List ℕ) × (l ≡ b ++ r) × Field b t

pub textual-sound : (l : List ℕ) → Text (textual l) × (l ≡ textual l ++ drop (length (textual l)) l)
unfolding textual
textual-sound [] = (Text.no_more, refl)
textual-sound (x ∷ l) = go (textdata x) refl (textual-sound l)
  where
    go : (y : Bool) → textdata x ≡ y → Text (textual l) × (l ≡ textual l ++ drop (length (textual l)) l) → Text (textual (x ∷ l)) × (x ∷ l ≡ textual (x ∷ l) ++ drop (length (textual (x ∷ l))) (x ∷ l))
    go true e (t, s) = rw (e, textual) (Text.one_more e t, ap (λ m. x ∷ m) s)
    go false e (t, s) = rw (e, textual) (Text.no_more, refl)

textual-complete : {t r : List ℕ} → Text t → Edge r → textual (t ++ r) ≡ t
unfolding textual
textual-complete Text.no_more nothing = refl
textual-complete Text.no_more (a_byte e q) = rw (e, textual)
textual-complete (Text.one_more {x = x} e w) g = rw (e, textual) (ap (λ m. x ∷ m) (textual-complete w g))

no_quote_in_front : {t r : List ℕ} → Text t → Edge r → eqb (get_or (t ++ r) 0 0) DQUOTE ≡ false
no_quote_in_front Text.no_more nothing = refl
no_quote_in_front Text.no_more (a_byte e q) = q
no_quote_in_front (Text.one_more {x = x} e w) g = text_no_quote x e

-- ---- a quoted field
-- a quote that is held stands in front
abbrev held : Bool → List ℕ → List ℕ
held true l = DQUOTE ∷ l
held false l = l

-- the bytes up to a closing quote, with their text
abbrev Closes : Bool → List ℕ → List ℕ → List ℕ → Type 0
Closes h l t r = (b : List ℕ) × (held h l ≡ b ++ (DQUOTE ∷ r)) × Escaped b t

quoted-sound : (h : Bool) (l : List ℕ) → Gives (Closes h l) (quoted h l)
unfolding quoted
quoted-sound false [] = tt
quoted-sound false (x ∷ l) = go (eqb x DQUOTE) refl (quotable x) refl (quoted-sound true l) (quoted-sound false l)
  where
    go : (y : Bool) → eqb x DQUOTE ≡ y → (z : Bool) → quotable x ≡ z → Gives (Closes true l) (quoted true l) → Gives (Closes false l) (quoted false l) → Gives (Closes false (x ∷ l)) (quoted false (x ∷ l))
    go true q z w second first = rw (q, quoted) (gives_more (Closes true l) (Closes false (x ∷ l)) (quoted true l) second (λ t r (b, s, d). (b, ap (λ y. y ∷ l) (eqb-true x DQUOTE q) ∙ s, d)))
    go false q true w second first =
        rw (q, w, quoted) (gives_then (Closes false l) (Closes false (x ∷ l)) (quoted false l) (with_first x) first (λ t r (b, s, d). (x ∷ b, ap (λ y. x ∷ y) s, Escaped.one_more w d)))
    go false q false w second first = rw (q, w, quoted) tt
quoted-sound true [] = ([], refl, Escaped.no_more)
quoted-sound true (x ∷ l) = go (eqb x DQUOTE) refl (quoted-sound false l)
  where
    go : (y : Bool) → eqb x DQUOTE ≡ y → Gives (Closes false l) (quoted false l) → Gives (Closes true (x ∷ l)) (quoted true (x ∷ l))
    go true q first =
        rw (q, quoted) (gives_then (Closes false l) (Closes true (x ∷ l)) (quoted false l) (with_first DQUOTE) first (λ t r (b, s, d). (DQUOTE ∷ DQUOTE ∷ b, ap₂ (λ y z. DQUOTE ∷ y ∷ z) (eqb-true x DQUOTE q) s, Escaped.two_quotes d)))
    go false q first = rw (q, quoted) ([], refl, Escaped.no_more)

quoted-complete : {b t r : List ℕ} → Escaped b t → Edge r → quoted false (b ++ (DQUOTE ∷ r)) ≡ read t r
unfolding quoted
quoted-complete Escaped.no_more nothing = refl
quoted-complete Escaped.no_more (a_byte e q) = rw (q, quoted)
quoted-complete (Escaped.one_more {x = x} w d) g = rw (quotable_no_quote x w, w, quoted) (ap (λ y. then y (with_first x)) (quoted-complete d g))
quoted-complete (Escaped.two_quotes d) g = ap (λ y. then y (with_first DQUOTE)) (quoted-complete d g)

-- ---- a field
pub field-sound : (l : List ℕ) → Gives (Splits l) (field l)
unfolding field
field-sound l = go (eqb (get_or l 0 0) DQUOTE) refl
  where
    behind_quote : (l : List ℕ) → eqb (get_or l 0 0) DQUOTE ≡ true → Gives (Splits l) (quoted false (drop 1 l))
    behind_quote [] q = absurd (false≢true q)
    behind_quote (x ∷ l) q =
        gives_more (Closes false l) (Splits (x ∷ l)) (quoted false l) (quoted-sound false l)
        (λ t r (b, s, d). (DQUOTE ∷ b ++ (DQUOTE ∷ []), ap₂ (λ y z. y ∷ z) (eqb-true x DQUOTE q) s ∙ sym (append_assoc (DQUOTE ∷ b) (DQUOTE ∷ []) r), Field.escaped d))

    go : (y : Bool) → eqb (get_or l 0 0) DQUOTE ≡ y → Gives (Splits l) (field l)
    go true q = rw (q, field) (behind_quote l q)
    go false q = rw (q, field) (let (w, s) = textual-sound l in (textual l, s, Field.non_escaped w))

pub field-complete : {b t r : List ℕ} → Field b t → Edge r → field (b ++ r) ≡ read t r
unfolding field
field-complete {r = r} (Field.non_escaped {t = t} w) g =
    rw (no_quote_in_front w g, field) (ap (λ y. read y (drop (length y) (t ++ r))) (textual-complete w g) ∙ ap (read t) (drop-append_seam t r))
field-complete {r = r} (Field.escaped {b = b} d) g = ap (quoted false) (append_assoc b (DQUOTE ∷ []) r) ∙ quoted-complete d g
