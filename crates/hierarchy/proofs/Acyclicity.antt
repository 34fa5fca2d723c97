-- Roles freed where all of their direct seniors are: all are in the end exactly where no role reaches itself.
use Rattle.std.proofs.Common.{◌≡◌, ℕ, zero, suc, ◌+◌, ◌*◌, ◌<◌, Bool, true, false, not, eqb, ◌↔◌, List, length, replicate, sym, refl, ap, ◌∙◌, subst, arith, ext_get_or}
use Rattle.std.proofs.lemmas.List.{get_or-replicate}
use lib.Pointwise.{pointwise, bytes_decides}
use Rattle.bits.specs.Below.{tally}
use Rattle.bits.specs.Bit.{bit}
use Rattle.bits.proofs.Below.{tally_more}
use Rattle.bits.proofs.Bit.{bit_0, bit_not, word_ext}
use Rattle.bits.proofs.Booleans.{untrue}
use Rattle.mtas.specs.Hierarchy.{Role, ◌#◌, Graph, itself, down, Acyclic, nth_role, reaches}
use Rattle.mtas.proofs.Hierarchy.{Numbered, reaches-sound, reaches-complete}
use Rattle.hierarchy.specs.Links.{among, Full}
use Rattle.hierarchy.specs.Freed.{AllFree, Filled}
use Rattle.hierarchy.proofs.Links.{role-at}
use Rattle.hierarchy.proofs.Rows.{Wide}

-- a set has every role exactly where each of its words is 65535
pub tells_full : {s : List ℕ} {r : Bool} → length s ≡ 16 → Wide s → r ≡ pointwise eqb s (replicate 16 65535) → (r ≡ true) ↔ Full s
tells_full {s} n ws e = (
  λ t a l m. rw (same.0 (sym e ∙ t), get_or-replicate {A = ℕ} 16 a.issuer 65535 0 l) (all_bits a.number m),
  λ f. e ∙ same.1 (ext_get_or 0 s (replicate 16 65535) n (λ i l.
      let h : i < 16 = omega arith in
      word_ext 16 _ 65535 (ws.each i).fits (omega arith) (λ k m. f (i # k) h m ∙ sym (all_bits k m)) ∙ sym (get_or-replicate {A = ℕ} 16 i 65535 0 h))),
)
  where
    same : (pointwise eqb s (replicate 16 65535) ≡ true → s ≡ replicate 16 65535) × (s ≡ replicate 16 65535 → pointwise eqb s (replicate 16 65535) ≡ true)
    same = bytes_decides s (replicate 16 65535)

    all_bits : (n : ℕ) → n < 16 → bit 65535 n ≡ true
    all_bits n l = bit_not 16 0 n (omega arith) l ∙ ap not (bit_0 n)

module _ {e : Graph} (num : Numbered e) where
  -- in a graph without circles a direct senior has fewer roles that reach it, so what passes from all direct seniors to a role holds of every role
  module _ (ac : Acyclic e) where
    height : Role → ℕ
    height b = tally 256 (λ k. reaches e (nth_role k) b)

    higher : (a b : Role) → e a b ≡ true → height a < height b
    unfolding height Acyclic
    higher a b h =
        let (_, _, l, m) = num a b h in
        let k = 16 * b.issuer + b.number in
        let at = sym (role-at k b refl m) in
        tally_more (λ k. reaches e (nth_role k) a) (λ k. reaches e (nth_role k) b)
        256 (λ j _ r. reaches-complete e num (down (reaches-sound e (nth_role j) a r) h))
        k (omega arith)
        (subst (λ x. reaches e x a ≡ false) at (untrue (reaches e b a) (λ r. ac a b h (reaches-sound e b a r))))
        (subst (λ x. reaches e x b ≡ true) at (reaches-complete e num itself))

    from_seniors : (P : Role → Type 0) → ((b : Role) → ((a : Role) → e a b ≡ true → P a) → P b) → (n : ℕ) (b : Role) → height b < n → P b
    from_seniors P f zero b l = absurd (omega arith)
    from_seniors P f (suc n) b l = f b (λ a h. from_seniors P f n a (omega (arith, higher a b h)))

  pub filled_full : {s t : List ℕ} → Filled e s t → Acyclic e → Full t
  filled_full {s} {t} f ac b =
      from_seniors ac (λ b. b.issuer < 16 → b.number < 16 → among t b ≡ true)
      (λ b rec l m. f.closed b l m (λ a h. let (i, r, _, _) = num a b h in rec a h i r)) (suc (height ac b)) b (omega arith)

  pub free_full : (s : List ℕ) → AllFree e s → Full s → Acyclic e
  unfolding Acyclic
  free_full s f all a b h p = let (_, _, l, m) = num a b h in f b l m (all b l m) a h p
