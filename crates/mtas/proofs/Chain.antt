-- Every attachment between two issuers' roles, and every grant, stands on trust; so reach and use follow a chain of trust.
use Prim.Native.Nat.{ℕ}
use Rattle.mtas.specs.Fact.{trusts, granted, attached}
use Rattle.mtas.specs.State.{State}
use Rattle.mtas.specs.Hierarchy.{Role, Reaches, itself, down}
use Rattle.mtas.specs.Law.{here, there, attachments, Lawful}
use Rattle.mtas.specs.Decision.{MayUsePermission}
use Rattle.mtas.specs.Chain.{Chain, empty_chain, onward, Closed, Chains}

inside : (st : State) (i j : ℕ) → Chain st i j → (member : ℕ → Type 0) → Closed st member → member i → member j
inside st i j empty_chain member closed m = m
inside st i k (onward {j} c h) member closed m = closed j k (inside st i j c member closed m) h

module _ (st : State) (L : Lawful st) where
  along : (a b : Role) → Reaches (attachments st) a b → Chain st a.issuer b.issuer
  along a b itself = empty_chain
  along a c (down {b} p h) =
      onward (along a b p) (L.supported (attached c.issuer c.number b.issuer b.number) (trusts b.issuer c.issuer) h (search (here, there) depth 16))

  used : (j p i s : ℕ) → MayUsePermission st j p i s → Chain st i j
  used j p i s m =
      onward (along _ m.reached m.may.is_reached)
      (L.supported (granted j p m.reached.issuer m.reached.number) (trusts m.reached.issuer j) m.may.is_holder (search (here, there) depth 16))

pub chains : Chains
chains = record {
  chain_iff = λ st i j. (inside st i j, λ all. all (Chain st i) (λ j k c h. onward c h) empty_chain);
  reached = along;
  used = used;
}
