-- An answer as one number, and what an exported function promises.
use Rattle.std.specs.Prelude.{◌≡◌, List, ℕ, ◌+◌, ◌*◌, ◌/◌, ◌%◌, ◌<◌}
use Rattle.mtas.specs.Hierarchy.{◌#◌}
use Rattle.mtas.specs.Answer.{Answer}
use Rattle.mtas.specs.Monitor.{Result}

-- the refusal in bits 0 to 15, the verdict in bits 16 to 31, the issuer of the role that gave a yes in bits 32 to 39 and its number in bits 40 to 47
abbrev pub packed_answer : Answer → ℕ
packed_answer a = a.refusal + 65536 * a.verdict + 4294967296 * a.through.issuer + 1099511627776 * a.through.number

-- the number is the definition's answer, packed so that its four numbers fit, and the words are the definition's
pub record Returns (defined : Result) (number : ℕ) (words : List ℕ) : Type 0 where
  pub same_answer : number ≡ packed_answer defined.answer
  pub refusal_fits : defined.answer.refusal < 65536
  pub verdict_fits : defined.answer.verdict < 65536
  pub issuer_fits : defined.answer.through.issuer < 256
  pub role_fits : defined.answer.through.number < 256
  pub same_words : words ≡ defined.words

-- the four numbers come back, nothing stands above them, and the words are the definition's
pub record FourTold : Type 0 where
  pub refusal_of : {defined : Result} {number : ℕ} {words : List ℕ} → Returns defined number words → number % 65536 ≡ defined.answer.refusal
  pub verdict_of : {defined : Result} {number : ℕ} {words : List ℕ} → Returns defined number words → number / 65536 % 65536 ≡ defined.answer.verdict
  pub issuer_of : {defined : Result} {number : ℕ} {words : List ℕ} → Returns defined number words → number / 4294967296 % 256 ≡ defined.answer.through.issuer
  pub role_of : {defined : Result} {number : ℕ} {words : List ℕ} → Returns defined number words → number / 1099511627776 % 256 ≡ defined.answer.through.number
  pub upper_bits : {defined : Result} {number : ℕ} {words : List ℕ} → Returns defined number words → number < 281474976710656
  pub words_of : {defined : Result} {number : ℕ} {words : List ℕ} → Returns defined number words → words ≡ defined.words
  pub yes_through_1#2 : packed_answer (record { refusal = 0; verdict = 1; through = 1 # 2 }) ≡ 2203318288384
  pub refusal_10 : packed_answer (record { refusal = 10; verdict = 0; through = 255 # 255 }) ≡ 281470681743370
