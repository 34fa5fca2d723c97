-- A call's arguments, and zeros after them.
use Rattle.std.specs.Prelude.{◌≡◌, List, [], ◌∷◌, ℕ, zero, suc}
use Rattle.mtas.specs.Call.{Call, arguments}

-- a list with zeros after it, up to n numbers
abbrev pub padded : ℕ → List ℕ → List ℕ
padded zero l = l
padded (suc n) [] = 0 ∷ padded n []
padded (suc n) (x ∷ l) = x ∷ padded n l

-- x, y and z are the arguments of k, and zeros where it has fewer
pub record Padded (k : Call) (x y z : ℕ) : Type 0 where
  pub is : x ∷ y ∷ z ∷ [] ≡ padded 3 (arguments k)
