-- The numbers behind a row's first field are read where the grammar has fields with their decimals, and nowhere else.
use mathlib.Core.Path.{◌≡◌, refl, ap, sym, subst, ◌∙◌}
use mathlib.Core.Bool.{Bool, true, false, false≢true}
use mathlib.Core.List.{List, [], ◌∷◌, ◌++◌, map, append_assoc, append-nil}
use Prim.Native.Nat.{ℕ, zero, suc, ◌≤◌}
use lib.Dec.{eqb, leb}
use lib.ListN.{length, get_or, drop}
use borrow.Author.Tests.{eqb-true, leb-true, le-leb}
use Rattle.lines.specs.Decimal.{decimal}
use Rattle.sheet.specs.Rfc4180.{COMMA, textdata, Field, Row}
use Rattle.sheet.specs.Reading.{read, then, with_first, field, number, numbered, argument, arguments}
use Rattle.sheet.proofs.Fields.{Gives, gives_then, Edge, a_byte, Splits, field-sound, field-complete}
use Rattle.sheet.proofs.Numbers.{number-sound, number-complete}
use Rattle.sheet.proofs.RowLaws.{row_laws}

-- ---- *(COMMA field) whose texts are decimals
pub data Follow : List ℕ → List ℕ → Type 0 where
  no_more : Follow [] []
  one_more : {b c ns : List ℕ} {n : ℕ} → Field b (decimal n) → n ≤ 15 → Follow c ns → Follow (COMMA ∷ (b ++ c)) (n ∷ ns)

pub follow_edge : {c ns r : List ℕ} → Follow c ns → Edge r → Edge (c ++ r)
unfolding textdata
follow_edge Follow.no_more g = g
follow_edge (Follow.one_more f h w) g = a_byte refl refl

-- with a field in front they are a row
pub row_of : {b t c ns : List ℕ} → Field b t → Follow c ns → Row (b ++ c) (t ∷ map decimal ns)
row_of {b = b} {t = t} f Follow.no_more = subst (λ y. Row y (t ∷ [])) (sym (append-nil b)) (Row.last_field f)
row_of {b = b} {t = t} f (Follow.one_more {b = b'} {c = c} {ns = ns} {n = n} g h w) = Row.one_more f (row_of {b = b'} g w)

abbrev pub Small : List ℕ → Type 0
Small [] = Unit
Small (n ∷ ns) = (n ≤ 15) × Small ns

pub row_is : (ns : List ℕ) {b t : List ℕ} → Small ns → Row b (t ∷ map decimal ns) → (d : List ℕ) × (c : List ℕ) × (b ≡ d ++ c) × Field d t × Follow c ns
row_is [] {b = b} s w = (b, [], sym (append-nil b), (row_laws.one _ _).0 w, Follow.no_more)
row_is (n ∷ ns) (h, s) w =
    let (d, c, q, f, v) = (row_laws.more _ _ _ _).0 w in
    let (e, g, p, k, z) = row_is ns s v in
    (d, COMMA ∷ (e ++ g), q ∙ ap (λ y. d ++ (COMMA ∷ y)) p, f, Follow.one_more k h z)

-- ---- an argument
abbrev Argued : List ℕ → ℕ → List ℕ → Type 0
Argued l n r = (b : List ℕ) × (l ≡ COMMA ∷ (b ++ r)) × Field b (decimal n) × (n ≤ 15)

argument-sound : (l : List ℕ) → Gives (Argued l) (argument l)
unfolding argument
argument-sound l = go (eqb (get_or l 0 0) COMMA) refl
  where
    small : (t r : List ℕ) → (b : List ℕ) × (l ≡ COMMA ∷ (b ++ r)) × Field b t → (y : Bool) → leb (number t) 15 ≡ y → Gives (Argued l) (numbered t r)
    small t r (b, s, f) true e = let h = leb-true (number t) 15 e in rw (e, numbered) (b, s, subst (λ y. Field b y) (number-sound t h) f, h)
    small t r f false e = rw (e, numbered) tt

    front : (l : List ℕ) → eqb (get_or l 0 0) COMMA ≡ true → l ≡ COMMA ∷ drop 1 l
    front [] q = absurd (false≢true q)
    front (x ∷ l) q = ap (λ y. y ∷ l) (eqb-true x COMMA q)

    go : (y : Bool) → eqb (get_or l 0 0) COMMA ≡ y → Gives (Argued l) (argument l)
    go true q =
        rw (q, argument) (gives_then (Splits (drop 1 l)) (Argued l) (field (drop 1 l)) numbered (field-sound (drop 1 l))
        (λ t r (b, s, f). small t r (b, front l q ∙ ap (λ y. COMMA ∷ y) s, f) (leb (number t) 15) refl))
    go false q = rw (q, argument) tt

argument-complete : {b r : List ℕ} (n : ℕ) → n ≤ 15 → Field b (decimal n) → Edge r → argument (COMMA ∷ (b ++ r)) ≡ read n r
unfolding argument
argument-complete {r = r} n h f g =
    let e = number-complete n h in
    ap (λ y. then y numbered) (field-complete f g) ∙ rw (e, le-leb n 15 h, numbered) (ap (λ y. read y r) e)

-- ---- so many of them
abbrev pub Counted : ℕ → List ℕ → List ℕ → List ℕ → Type 0
Counted n l ns r = (c : List ℕ) × (l ≡ c ++ r) × Follow c ns × (length ns ≡ n)

pub arguments_sound : (n : ℕ) (l : List ℕ) → Gives (Counted n l) (arguments n l)
unfolding arguments
arguments_sound zero l = ([], refl, Follow.no_more, refl)
arguments_sound (suc n) l =
    gives_then (Argued l) (Counted (suc n) l) (argument l) (λ x r. then (arguments n r) (with_first x)) (argument-sound l)
    (λ x r (b, s, f, h). gives_then (Counted n r) (Counted (suc n) l) (arguments n r) (with_first x) (arguments_sound n r)
    (λ ns m (c, k, w, e). (COMMA ∷ (b ++ c), s ∙ ap (λ y. COMMA ∷ (b ++ y)) k ∙ ap (λ y. COMMA ∷ y) (sym (append_assoc b c m)), Follow.one_more f h w, ap suc e)))

pub arguments-complete : {c ns r : List ℕ} → Follow c ns → Edge r → arguments (length ns) (c ++ r) ≡ read ns r
unfolding arguments
arguments-complete Follow.no_more g = refl
arguments-complete {r = r} (Follow.one_more {b = b} {c = c} {ns = ns} {n = n} f h w) g =
    rw (append_assoc b c r, argument-complete n h f (follow_edge w g)) (ap (λ y. then y (with_first n)) (arguments-complete w g))
