-- Zeros after a call's arguments put none above 15.
use Rattle.std.proofs.Common.{◌≡◌, refl, ap, Bool, true, false, List, [], ◌∷◌, ℕ, zero, suc, ltb}
use Rattle.mtas.specs.Call.{Call, arguments}
use Rattle.mtas.specs.Fact.{above_15}
use Rattle.record.specs.Padding.{padded, Padded}

zeros : (n : ℕ) (l : List ℕ) → above_15 (padded n l) ≡ above_15 l
zeros zero l = refl
zeros (suc n) [] = zeros n []
zeros (suc n) (x ∷ l) = ap (λ (b : Bool). elim (ltb x 16) [ true ↦ b | false ↦ true ]) (zeros n l)

pub above-padded : {k : Call} {x y z : ℕ} → Padded k x y z → above_15 (x ∷ y ∷ z ∷ []) ≡ above_15 (arguments k)
above-padded {k} p = rw p.is (zeros 3 (arguments k))
