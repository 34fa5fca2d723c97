-- The model's `decode` of the bytes b, from what the code's tests say of them.
use Rattle.std.proofs.Common.{◌≡◌, refl, ap, sym, ◌∙◌, List, [], ◌∷◌, ℕ, ◌-◌, ◌≤◌, arith, le-leb, eq-eqb, ne_eqb, leb, length, take, drop}
use mathlib.Core.Bool.{and-false}
use borrow.Author.Rules.{part_to_end}
use Rattle.mtas.specs.Record.{Request, sign_of_life, undecodable, bytes_refusal, kind_at, fill, header, two_bytes, kind_of, caller_of, decode_bytes, decode}
use Rattle.mtas.proofs.Record.{decode_is}
use Rattle.record.specs.Decoded.{request_of, Decodes}
use Rattle.record.specs.declared.Decoded.{Decoded}
use Rattle.record.specs.declared.Decoded.TheVariants.{Request as Requested, Undecodable, SignOfLife}

pub empty : (b : List ℕ) → length b ≡ 0 → sign_of_life ≡ decode b
unfolding decode
empty [] e = refl
empty (x ∷ l) e = absurd (omega arith)

module _ (b : List ℕ) (h : header ≤ length b) where
  read_so : decode_bytes b ≡ decode b
  read_so = sym (decode_is b (omega arith))

  pub wrong_length : (two_bytes b 0 ≡ length b → ⊥) → undecodable ≡ decode b
  wrong_length d = rw (ne_eqb (two_bytes b 0) (length b) d, and-false (leb header (length b)), decode_bytes) at read_so

  -- n is the length field, k the kind and q the request, whose arguments are the bytes after the header
  pub right_length : (n k : ℕ) (q : Request) → n ≡ two_bytes b 0 → n ≡ length b → k ≡ kind_of b
      → q ≡ fill (caller_of b) (kind_at k) (take (length b - header) (drop header b)) → q ≡ decode b
  right_length n k q e s g f =
      f ∙ rw (part_to_end, g) (rw (le-leb header (length b) h, eq-eqb (two_bytes b 0) (length b) (sym e ∙ s), decode_bytes) at read_so)

-- what the request is, the refusal follows
pub decodes : {b : List ℕ} (d : Decoded) → request_of d ≡ decode b → Decodes b d
decodes (Requested r) e = record { same_refusal = ap bytes_refusal e; same_request = e }
decodes Undecodable e = record { same_refusal = ap bytes_refusal e; same_request = e }
decodes SignOfLife e = record { same_refusal = ap bytes_refusal e; same_request = e }
