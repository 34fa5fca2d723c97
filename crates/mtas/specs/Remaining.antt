-- Whose record it is (document 01): which records remain in a history once the outsiders' are left out, and which are left out.
use Rattle.std.specs.Prelude.{◌≡◌, List, [], ◌∷◌, Bool, true, false, ℕ, ◌<◌}
use Rattle.mtas.specs.Call.{Call}
use Rattle.mtas.specs.Record.{encode_call}
use Rattle.mtas.specs.Monitor.{monitor}
use Rattle.mtas.specs.Histories.{History, purge, answers}

module _ (member : ℕ → Bool) where
  -- the record stays in every history, and its answer is one of those that are compared
  pub record Stays (b : List ℕ) : Type 0 where
    pub in_purge : (h : History) → purge member (b ∷ h) ≡ b ∷ purge member h
    pub in_answers : (ws : List ℕ) (h : History) → answers member ws (b ∷ h) ≡ (monitor ws b).answer ∷ answers member (monitor ws b).words h

  -- the record is left out of every history, and so is its answer
  pub record LeftOut (b : List ℕ) : Type 0 where
    pub in_purge : (h : History) → purge member (b ∷ h) ≡ purge member h
    pub in_answers : (ws : List ℕ) (h : History) → answers member ws (b ∷ h) ≡ answers member (monitor ws b).words h

  pub record Remaining : Type 0 where
    -- 'A record that can't be decoded, the empty one too, or names a caller above 16 counts as an outsider's'
    pub undecoded : (b : List ℕ) → ((c : ℕ) (k : Call) → b ≡ encode_call c k → ⊥) → LeftOut b
    pub empty : LeftOut []
    pub above_16 : (c : ℕ) (k : Call) → 16 < c → LeftOut (encode_call c k)
    -- 'a record not already counted as an outsider's is its caller's'
    pub outsider's : (c : ℕ) (k : Call) → c < 16 → member c ≡ false → LeftOut (encode_call c k)
    pub member's : (c : ℕ) (k : Call) → c < 16 → member c ≡ true → Stays (encode_call c k)
    pub operator's : (k : Call) → Stays (encode_call 16 k)
