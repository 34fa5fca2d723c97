-- What an encoded record holds: the bytes before its len.
use Rattle.std.specs.Prelude.{◌≡◌, List, ℕ, length, take}
use Rattle.record.specs.declared.encoded.Encoded.{Encoded}

pub record Holds (r : Encoded) (bytes : List ℕ) : Type 0 where
  pub text : take r.len r.bytes ≡ bytes
  pub len : r.len ≡ length bytes
