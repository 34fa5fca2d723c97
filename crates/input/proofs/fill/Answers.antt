-- A read puts its bytes behind those that stand at the start of the buffer, and leaves these as they are.
use Rattle.std.proofs.Common.{◌≡◌, ℕ, ◌+◌, ◌≤◌, List, ◌++◌, rules, length, take, sym, ap, ◌∙◌, subst, length-take-le}
use Rattle.std.proofs.lemmas.List.{take-append-le}
use Rattle.std.proofs.Math.Seq.{take-append-add}
use Rattle.std.specs.Io.KnownBytes.{Consumes}
use Rattle.std.proofs.KnownBytes.{Consumes-trans}
use borrow.Rule.Slice.PartMut.{put_mid, post_of}
use Rattle.input.proofs.fill.Goals as goal

-- n bytes more behind the first a
more : (a k n : ℕ) (old new : List ℕ) → a ≤ length old → n ≤ length new → take a old ++ take n new ≡ take (a + n) (put_mid a k old new)
more a k n old new within fits =
    let e = length-take-le a old within in
    sym (ap (λ m. take (m + n) (put_mid a k old new)) (sym e) ∙ take-append-add (take a old) (new ++ post_of a k old) n ∙ ap (λ l. take a old ++ l) (take-append-le n new (post_of a k old) fits))

pub loop-size-preserved : goal.loop-size-preserved
loop-size-preserved g c = (
  search rules,
  subst (Consumes _ _) (more _ _ _ c.loop-size.buffer c.read.new.buf c.loop-size.invariant.0 c.in-Ok.ensures.bound.0)
      (Consumes-trans _ _ _ _ _ c.loop-size.invariant.1 c.in-Ok.ensures.bytes.0),
)
