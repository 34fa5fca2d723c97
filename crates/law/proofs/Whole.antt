-- The law test in three parts: what stands is supported, no attachments run in a circle, and sessions are in order.
use Rattle.std.proofs.Common.{◌≡◌, ap, sym, ◌∙◌, List, Bool, true, false, ◌↔◌, ℕ, ◌<◌, eqb, length, get_or, eqb-true, eq-eqb}
use Rattle.bits.specs.Bit.{bit}
use Rattle.bits.proofs.Bit.{bit_0}
use Rattle.bits.proofs.Booleans.{clash, untrue, same_test}
use Rattle.bits.proofs.Gather.{gather-zero, or-zero}
use Rattle.mtas.specs.Hierarchy.{Acyclic}
use Rattle.mtas.specs.Law.{attachments}
use Rattle.mtas.specs.Layout.{state_length, view}
use Rattle.mtas.specs.LawTest.{lawful_words}
use Rattle.mtas.proofs.LawTest.{view-lawful, lawful_words-sound, lawful_words-complete}
use Rattle.hierarchy.specs.Links.{linked}
use Rattle.hierarchy.proofs.Links.{attachment_words, linked-attachments}
use Rattle.sessions.specs.Lesser.{stranger, lesser, InOrder, Plain}
use Rattle.sessions.proofs.Reached.{held_reached}
use Rattle.law.specs.Stray.{issuer_doubt}
use Rattle.law.specs.Supported.{Surveyed}
use Rattle.law.proofs.Ordered.{reached, all_fit, all_supported, in_order}

module _ (ws : List ℕ) (long : length ws ≡ state_length) (wide : (k : ℕ) → get_or ws k 0 < 65536) {stray doubt : ℕ} (S : Surveyed ws stray doubt) where
  none_doubtful : (doubt ≡ 0) ↔ Plain ws
  unfolding issuer_doubt
  none_doubtful = (
    λ z. let each : (i s : ℕ) → i < 16 → s < 16 → (stranger ws i s ≡ 0) × (lesser ws i s ≡ 0) = λ i s li ls. (or-zero _ _).0 ((gather-zero 16 _).0 ((gather-zero 16 (issuer_doubt ws)).0 (sym S.doubtful ∙ z) i li) s ls) in
        record { users = λ i s li ls. (each i s li ls).0; roles = λ i s li ls. (each i s li ls).1 },
    λ p. S.doubtful ∙ (gather-zero 16 (issuer_doubt ws)).1 (λ i li. (gather-zero 16 _).1 (λ s ls. (or-zero (stranger ws i s) (lesser ws i s)).1 (p.users i s li ls, p.roles i s li ls))),
  )

  -- where nothing is doubtful, there is no stranger, and all active roles are held
  pub plainly : (eqb doubt 0 ≡ true) ↔ Plain ws
  plainly = (λ e. none_doubtful.0 (eqb-true doubt 0 e), λ p. eq-eqb doubt 0 (none_doubtful.1 p))

  ordered : Plain ws → InOrder ws
  ordered p = record {
    users = p.users;
    roles = λ i s n li ls ln b. held_reached ws wide li s n ln (ap (λ w. bit w n) (p.roles i s li ls) ∙ bit_0 n) b;
  }

  pub stray_found : (stray ≡ 0 → ⊥) → false ≡ lawful_words ws
  stray_found n = sym (untrue _ (λ t. n (S.none_stray.1 (record { supported = λ f g w n p. (lawful_words-sound ws t).lawful.supported f g }))))

  module _ {q : Bool} {links : List ℕ} (same : links ≡ attachment_words ws) (a : (q ≡ true) ↔ Acyclic (linked links)) where
    told : (q ≡ true) ↔ Acyclic (attachments (view ws))
    told = rw (same, linked-attachments ws) at a

    pub circle_found : q ≡ false → false ≡ lawful_words ws
    circle_found n = sym (untrue _ (λ t. clash (told.1 (lawful_words-sound ws t).lawful.acyclic) n))

    lawful_is : stray ≡ 0 → q ≡ true → InOrder ws → lawful_words ws ≡ true
    lawful_is z t O =
        lawful_words-complete ws record {
          long = long;
          wide = wide;
          fit = all_fit ws wide O;
          lawful = view-lawful ws (all_supported ws wide O (S.none_stray.0 z)) (told.0 t) (reached ws wide O);
        }

    pub none_found : stray ≡ 0 → q ≡ true → doubt ≡ 0 → true ≡ lawful_words ws
    none_found z t e = sym (lawful_is z t (ordered (none_doubtful.0 e)))

    pub looked_at : {b : Bool} → stray ≡ 0 → q ≡ true → (b ≡ true) ↔ InOrder ws → b ≡ lawful_words ws
    looked_at z t r = same_test _ _ (λ e. lawful_is z t (r.0 e)) (λ e. r.1 (in_order ws (lawful_words-sound ws e)))
