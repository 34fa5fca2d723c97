-- Each word written as starting has it: the words of starting.
use mathlib.Core.Path.{◌≡◌, refl, ap, sym, ◌∙◌}
use mathlib.Core.List.{List}
use Prim.Native.Nat.{ℕ, ◌-◌, ◌/◌, ◌%◌, ◌<◌, ◌≤◌}
use native.Mathlib.Omega.{arith}
use lib.ListN.{length}
use lib.Seq.{ext_get_or}
use borrow.Author.Tests.{eq-eqb, ne_eqb}
use Rattle.bits.specs.Update.{Updated}
use Rattle.bits.specs.Stride.{in_run}
use Rattle.bits.proofs.Stride.{run_in}
use Rattle.std.proofs.Math.Option.{none}
use Rattle.bits.proofs.Below.{length-tabulate, get_d_tabulate}
use Rattle.mtas.specs.Layout.{session_user, Cell, sixteen, its_user, in_session, cell, sessions_at, public_at, state_length, address, word_at}
use Rattle.mtas.specs.Answer.{Answer, accepts, refuses}
use Rattle.mtas.specs.Monitor.{initial, initial_words, start}
use Rattle.mtas.proofs.Address.{word_at-address, address-word_at, word_at-numbered}
use Rattle.mtas.proofs.Cells.{Placed, placed}
use Rattle.monitor.specs.Contract.{Gives}

-- a word is 65535 at starting exactly where it is a session's user, and those are two apart
module _ (k : ℕ) (l : k < state_length) where
  pub a_user : sessions_at ≤ k → k < public_at → (k - sessions_at) % 2 ≡ 0 → 65535 ≡ initial (cell (word_at k))
  a_user a c b =
      let m = (k - sessions_at) / 2 in
      let e : k ≡ address (session_user (m / 16) (m % 16)) = omega arith in
      sym (ap (λ w. initial (cell w)) (ap word_at e ∙ word_at-address (session_user (m / 16) (m % 16)) (omega arith)))

  pub no_user : (sessions_at ≤ k → k < public_at → (k - sessions_at) % 2 ≡ 0 → ⊥) → 0 ≡ initial (cell (word_at k))
  no_user n = go (cell (word_at k)) (placed (word_at k))
    where
      go : (c : Cell) → Placed (word_at k) c → 0 ≡ initial c
      go (sixteen f) p = refl
      go (its_user i s) p =
          let e : k ≡ address (session_user i s) = sym (address-word_at k l) ∙ ap address p in
          let b = rw p at (word_at-numbered k l) in
          absurd (n (omega arith) (omega arith) (omega arith))
      go (in_session i s f) p = refl

pub started : (ws : List ℕ) {vs : List ℕ} {x : Answer} → length ws ≡ state_length → Updated (in_run 0 state_length) (λ k x. initial (cell (word_at k))) ws vs → x ≡ accepts none → Gives (start ws) x vs
unfolding start initial_words
started ws {vs} long u e = rw (eq-eqb (length ws) state_length long, start) (record { same_answer = e; same_words = words })
  where
    words : vs ≡ initial_words
    words =
        ext_get_or 0 vs initial_words (u.len ∙ long ∙ sym (length-tabulate state_length (λ k. initial (cell (word_at k)))))
        (λ k l. let b : k < state_length = omega (arith, u.len) in u.each k ∙ rw (run_in 0 state_length k (omega arith) (omega arith)) (sym (get_d_tabulate state_length (λ j. initial (cell (word_at j))) k b)))

pub not_started : (ws : List ℕ) {x : Answer} → (length ws ≡ state_length → ⊥) → x ≡ refuses 1 → Gives (start ws) x ws
unfolding start
not_started ws n e = rw (ne_eqb (length ws) state_length n, start) (record { same_answer = e; same_words = refl })
