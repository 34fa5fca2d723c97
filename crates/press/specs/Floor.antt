-- Requests on the floor, one after the other: each is acted on with the words and the stages that the one before left.
use Rattle.std.specs.Prelude.{List, [], ◌∷◌, ℕ}
use Rattle.press.specs.Acted.{act}

-- an action on a press, for the session issuer/session
pub record Request : Type 0 where
  pub press : ℕ
  pub action : ℕ
  pub issuer : ℕ
  pub session : ℕ

-- every error in turn, and the stages at the end
pub record Outcome : Type 0 where
  pub errors : List ℕ
  pub stages : List ℕ

unfoldable pub floor : List ℕ → List ℕ → List ℕ → List Request → Outcome
floor ws owners stages [] = record { errors = []; stages = stages }
floor ws owners stages (q ∷ l) =
    let r = act ws owners stages q.press q.action q.issuer q.session in
    let rest = floor r.words owners r.stages l in
    record { errors = r.error ∷ rest.errors; stages = rest.stages }
