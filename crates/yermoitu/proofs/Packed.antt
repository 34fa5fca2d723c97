-- What is returned gives back the four numbers of the answer, and its upper 16 bits are 0.
use mathlib.Core.Path.{◌≡◌, refl}
use mathlib.Core.List.{List}
use Prim.Native.Nat.{ℕ, ◌/◌, ◌%◌, ◌<◌}
use native.Mathlib.Omega.{arith}
use Rattle.mtas.specs.Monitor.{Result}
use Rattle.yermoitu.specs.Packed.{Returns, FourTold}

module _ {defined : Result} {number : ℕ} {words : List ℕ} (r : Returns defined number words) where
  refusal_of : number % 65536 ≡ defined.answer.refusal
  refusal_of = omega arith

  verdict_of : number / 65536 % 65536 ≡ defined.answer.verdict
  verdict_of = omega arith

  issuer_of : number / 4294967296 % 256 ≡ defined.answer.through.issuer
  issuer_of = omega arith

  role_of : number / 1099511627776 % 256 ≡ defined.answer.through.number
  role_of = omega arith

  upper_bits : number < 281474976710656
  upper_bits = omega arith

pub four_told : FourTold
four_told = record {
  refusal_of = λ r. refusal_of r;
  verdict_of = λ r. verdict_of r;
  issuer_of = λ r. issuer_of r;
  role_of = λ r. role_of r;
  upper_bits = λ r. upper_bits r;
  words_of = λ r. r.same_words;
  yes_through_1#2 = refl;
  refusal_10 = refl;
}
