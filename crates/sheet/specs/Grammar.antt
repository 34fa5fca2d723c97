-- What a wrong grammar or a wrong form would break, where the answers to sheets show nothing of it.
use Rattle.std.specs.Prelude.{◌≡◌, ◌↔◌, ◌⊎◌, Bool, true, false, ◌||◌, List, [], ◌∷◌, ◌++◌, ℕ, ◌%◌, ◌≤◌, ◌<◌, eqb, length, get_or}
use Rattle.mtas.specs.Call.{Call, arguments}
use Rattle.mtas.specs.Record.{kind}
use Rattle.sheet.specs.Rfc4180.{COMMA, DQUOTE, textdata, quotable, Field, Row}
use Rattle.sheet.specs.Form.{Form, Says}

-- the bytes in and out of quotes
pub record ByteLaws : Type 0 where
  pub text : (x : ℕ) → (textdata x ≡ true) ↔ ((32 ≤ x) × (x ≤ 126) × (x ≡ 34 → ⊥) × (x ≡ 44 → ⊥))
  pub in_quotes : (x : ℕ) → textdata x ≡ true → quotable x ≡ true
  pub not_in_quotes : (x : ℕ) → textdata x ≡ false → (x ≡ 44 → ⊥) → (x ≡ 13 → ⊥) → (x ≡ 10 → ⊥) → quotable x ≡ false

-- each byte of a text passes a test
abbrev pub Each : (ℕ → Bool) → List ℕ → Type 0
Each test t = (i : ℕ) → i < length t → test (get_or t i 0) ≡ true

-- a text with each of its quotes doubled
unfoldable pub doubled : List ℕ → List ℕ
doubled [] = []
doubled (x ∷ t) = elim (eqb x DQUOTE) [ true ↦ DQUOTE ∷ DQUOTE ∷ doubled t | false ↦ x ∷ doubled t ]

-- bytes that are their text, TEXTDATA alone
abbrev pub Bare : List ℕ → List ℕ → Type 0
Bare b t = (b ≡ t) × Each textdata t

-- a quote, the text with each quote doubled, and a quote
abbrev pub Quoted : List ℕ → List ℕ → Type 0
Quoted b t = (b ≡ DQUOTE ∷ (doubled t ++ (DQUOTE ∷ []))) × Each (λ x. eqb x DQUOTE || quotable x) t

-- a field is one of the two, and nothing else
pub record FieldLaws : Type 0 where
  pub one_of_two : (b t : List ℕ) → Field b t ↔ (Bare b t ⊎ Quoted b t)

-- a row is fields with commas between them, one at least
pub record RowLaws : Type 0 where
  pub some : {b : List ℕ} {ts : List (List ℕ)} → Row b ts → 0 < length ts
  pub one : (b t : List ℕ) → Row b (t ∷ []) ↔ Field b t
  pub more : (b t u : List ℕ) (ts : List (List ℕ)) → Row b (t ∷ u ∷ ts) ↔ ((d : List ℕ) × (c : List ℕ) × (b ≡ d ++ (COMMA ∷ c)) × Field d t × Row c (u ∷ ts))

-- the form has seven kinds of calls, each call one spelling, and numbers up to 15; what says a call is a row whose texts are of the form
pub record FormLaws : Type 0 where
  pub seven : {ts : List (List ℕ)} {k : Call} → Form ts k → (kind k % 2 ≡ 1) × (3 ≤ kind k) × (kind k ≤ 15)
  pub one_spelling : {ts us : List (List ℕ)} {k : Call} → Form ts k → Form us k → ts ≡ us
  pub small : {ts : List (List ℕ)} {k : Call} → Form ts k → (n : ℕ) → get_or (arguments k) n 0 ≤ 15
  pub said : (b : List ℕ) (k : Call) → Says b k ↔ ((ts : List (List ℕ)) × Row b ts × Form ts k)
