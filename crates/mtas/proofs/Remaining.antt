-- Of each sort of record, whether it remains.
use mathlib.Core.Path.{◌≡◌, refl, ap, ◌∙◌}
use mathlib.Core.List.{List}
use mathlib.Core.Bool.{Bool, true, false}
use Prim.Native.Nat.{ℕ, ◌<◌}
use native.Mathlib.Omega.{arith}
use borrow.Author.Tests.{ne_eqb, lt-ltb, le-ltb}
use Rattle.mtas.specs.Call.{Call}
use Rattle.mtas.specs.Record.{Request, sign_of_life, undecodable, request, decode, encode_call, inside, remains}
use Rattle.mtas.specs.Histories.{purge, answers}
use Rattle.mtas.specs.Remaining.{Stays, LeftOut, Remaining}
use Rattle.mtas.proofs.Record.{decode_encoded, only_encoded}

module _ (member : ℕ → Bool) where
  stays : (b : List ℕ) → remains member (decode b) ≡ true → Stays member b
  unfolding purge answers
  stays b e = record { in_purge = λ h. rw (e, purge); in_answers = λ ws h. rw (e, answers) }

  left_out : (b : List ℕ) → remains member (decode b) ≡ false → LeftOut member b
  unfolding purge answers
  left_out b e = record { in_purge = λ h. rw (e, purge); in_answers = λ ws h. rw (e, answers) }

  -- an issuer's record goes by the set, a stranger's by its number
  pub issuer's : (c : ℕ) → c < 16 → inside member c ≡ member c
  issuer's c l = let n = ne_eqb c 16 (omega arith) in let m = lt-ltb c 16 l in cc

  stranger's : (c : ℕ) → 16 < c → inside member c ≡ false
  stranger's c l = let n = ne_eqb c 16 (omega arith) in let m = le-ltb c 16 (omega arith) in cc

  called : (c : ℕ) (k : Call) → remains member (decode (encode_call c k)) ≡ inside member c
  called c k = ap (remains member) (decode_encoded c k)

  no_call : (b : List ℕ) → ((c : ℕ) (k : Call) → b ≡ encode_call c k → ⊥) → remains member (decode b) ≡ false
  no_call b n = go (decode b) refl
    where
      go : (x : Request) → decode b ≡ x → remains member x ≡ false
      go sign_of_life d = refl
      go undecodable d = refl
      go (request c k) d = absurd (n c k (only_encoded b c k d))

  pub remaining : Remaining member
  unfolding decode
  remaining = record {
    undecoded = λ b n. left_out b (no_call b n);
    empty = left_out _ refl;
    above_16 = λ c k l. left_out _ (called c k ∙ stranger's c l);
    outsider's = λ c k l m. left_out _ (called c k ∙ issuer's c l ∙ m);
    member's = λ c k l m. stays _ (called c k ∙ issuer's c l ∙ m);
    operator's = λ k. stays _ (called 16 k);
  }
