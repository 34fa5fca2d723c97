-- The buffer at exit, and the records in it.
use mathlib.Core.Path.{◌≡◌, refl, ap, ◌∙◌}
use mathlib.Core.Bool.{Bool, true, false}
use mathlib.Core.List.{List, [], map}
use Prim.Native.Nat.{ℕ, ◌≤◌}
use native.Mathlib.Omega.{arith}
use lib.Dec.{ltb}
use lib.ListN.{length, take, drop, length-append, length-drop}
use lib.Seq.{drop-append_seam, take_at}
use borrow.Author.Tests.{ltb-false}
use Rattle.mtas.specs.Call.{Call}
use Rattle.mtas.specs.Record.{decode}
use Rattle.mtas.specs.Journal.{read_journal}
use Rattle.sheet.specs.Form.{Sheet}
use Rattle.sheet.specs.Reading.{Rows, calls, wrong_at, rows}
use Rattle.sheet.specs.Exact.{Lines}
use Rattle.sheet.specs.Converted.{Result, records, given, converted}
use Rattle.sheet.specs.Laws.{BufferLaws, ComesBack}
use Rattle.sheet.proofs.Laws.{all_sheet_laws}

abbrev Kept : List ℕ → Result → Type 0
Kept out r = (length r.out ≡ length out) × (drop r.answer.bytes r.out ≡ drop r.answer.bytes out)

kept-given : (c : ℕ) (out : List ℕ) (r : Rows) → Kept out (given c out r)
kept-given c out (wrong_at line) = (refl, refl)
kept-given c out (calls ks) = go (ltb (length out) (length (records c ks))) refl
  where
    go : (b : Bool) → ltb (length out) (length (records c ks)) ≡ b → Kept out (given c out (calls ks))
    go true e = rw (e, given) (refl, refl)
    go false e =
        rw (e, given) (omega (arith, ltb-false (length out) (length (records c ks)) e, length-append (records c ks) (drop (length (records c ks)) out), length-drop (length (records c ks)) out), drop-append_seam (records c ks) (drop (length (records c ks)) out))

kept : (csv out : List ℕ) (c : ℕ) → Kept out (converted csv c out)
unfolding converted
kept csv out c = go (ltb 15 c) refl
  where
    go : (b : Bool) → ltb 15 c ≡ b → Kept out (converted csv c out)
    go true e = rw (e, converted) (refl, refl)
    go false e = rw (e, converted) (kept-given c out (rows csv))

in_front : (csv out : List ℕ) (c : ℕ) → c ≤ 15 → (ks : List Call) → Sheet csv ks → length (records c ks) ≤ length out → take (length (records c ks)) (converted csv c out).out ≡ records c ks
unfolding records
in_front csv out c h ks w room =
    ap (λ r. take (length (records c ks)) r.out) ((all_sheet_laws c h).behind_lines [] csv [] ks Lines.no_more w out room)
    ∙ take_at (records c ks) (drop (length (records c ks)) out) (length (records c ks)) refl

pub buffer_laws : (csv out : List ℕ) (c : ℕ) → BufferLaws csv out c
buffer_laws csv out c = let (n, r) = kept csv out c in record { as_long = n; rest_stays = r; front = in_front csv out c }

pub comes_back : ComesBack
unfolding records
comes_back csv out c h ks w room =
    ap (λ r. map decode (read_journal (take r.answer.bytes r.out)).records) ((all_sheet_laws c h).behind_lines [] csv [] ks Lines.no_more w out room)
    ∙ ap (λ b. map decode (read_journal b).records) (take_at (records c ks) (drop (length (records c ks)) out) (length (records c ks)) refl)
    ∙ ap (λ r. map decode r.records) ((all_sheet_laws c h).journal ks) ∙ (all_sheet_laws c h).decoded ks
