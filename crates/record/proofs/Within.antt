-- An encoded record is as long as its bytes.
use Rattle.std.proofs.Common.{◌≡◌, ap, sym, ◌∙◌, List, ℕ, length, take}
use Rattle.record.specs.Encoded.{Holds}
use Rattle.record.specs.declared.encoded.Encoded.{Encoded}

pub as_long : {made : Encoded} {b : List ℕ} → Holds made b → made.len ≡ length (take made.len made.bytes)
as_long h = h.len ∙ ap length (sym h.text)
