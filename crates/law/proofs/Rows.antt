-- Sixteen rows depend on the words allowed at sixteen places only.
use Rattle.std.proofs.Common.{◌≡◌, ap, List, ℕ, ◌+◌, ◌*◌, ◌<◌, get_or}
use Rattle.bits.specs.Bit.{bit}
use Rattle.bits.proofs.Gather.{gather_ext}
use Rattle.bits.specs.Gather.{outside}
use Rattle.law.specs.Stray.{only_if, rows_stray}

pub rows_ext : (ws : List ℕ) (from j present : ℕ) {a b : ℕ → ℕ} → ((i : ℕ) → i < 16 → a i ≡ b i) → rows_stray ws from j present a ≡ rows_stray ws from j present b
unfolding rows_stray
rows_ext ws from j present h =
    gather_ext 16 _ _ (λ i l. gather_ext 16 _ _
    (λ p _. ap (λ (x : ℕ). outside (get_or ws (from + 16 * (16 * j + p) + i) 0) (only_if (bit present p) x)) (h i l)))
