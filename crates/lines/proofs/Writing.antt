-- A number's digits put behind the bytes that a buffer holds.
use mathlib.Core.Path.{ap, ◌∙◌}
use mathlib.Core.List.{List, [], ◌∷◌, ◌++◌, append_assoc}
use Prim.Native.Nat.{ℕ, ◌+◌, ◌/◌, ◌%◌, ◌<◌, ◌≤◌}
use native.Mathlib.Omega.{arith}
use lib.ListN.{length-append}
use Rattle.lines.specs.declared.buffer.Buffer.{Buffer}
use Rattle.lines.specs.Decimal.{decimal}
use Rattle.lines.specs.Written.{written, Extends}
use Rattle.lines.proofs.Decimal.{decimal-small, decimal_step, few}

put_both : {a b c : Buffer} {s t : List ℕ} → Extends a b s → Extends b c t → Extends a c (s ++ t)
put_both {a} {b} {c} {s} {t} p q = record {
  text = q.text ∙ ap (λ l. l ++ t) p.text ∙ append_assoc (written a) s t;
  len = omega (arith, length-append s t);
}

-- a number of one digit
pub put_small : {a b : Buffer} (n : ℕ) → n < 10 → Extends a b ((48 + n) ∷ []) → Extends a b (decimal n)
put_small n h p = rw (decimal-small n h) p

-- a number's last digit behind the others
pub put_step : {a b c : Buffer} (n : ℕ) → 10 ≤ n → n < 4294967296 → Extends a b (decimal (n / 10)) → Extends b c ((48 + n % 10) ∷ []) → Extends a c (decimal n) × (c.len ≤ a.len + 10)
put_step n h w p q = (rw (decimal_step n h) (put_both p q), omega (arith, few 8 (n / 10) (omega arith)))
