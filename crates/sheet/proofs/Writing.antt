-- A sheet's records written up to a byte place: what stands in the buffer and what is to come make up all of them.
use mathlib.Core.Path.{◌≡◌, refl, sym, ap, ap₂, ◌∙◌}
use Rattle.std.specs.Prelude.{Option, Some, None, IsSome}
use mathlib.Core.List.{List, [], ◌∷◌, ◌++◌, append_assoc, append-nil}
use Prim.Native.Nat.{ℕ, suc, ◌+◌, ◌-◌, ◌≤◌, ◌<◌}
use native.Mathlib.Omega.{arith}
use lib.ListN.{length, take, drop, length-drop, length-append, take-append-drop, drop_of_length-le}
use lib.Seq.{length-take-le, drop-drop}
use borrow.Rule.Slice.PartMut.{put_mid, same_len_mid}
use Rattle.std.proofs.lemmas.Slice.{take-put_mid, drop-put_mid}
use Rattle.mtas.specs.Call.{Call}
use Rattle.mtas.specs.Record.{record_of, encode_call}
use Rattle.record.specs.Encoded.{Holds}
use Rattle.record.proofs.Within.{as_long}
use Rattle.record.specs.declared.encoded.Encoded.{Encoded}
use Rattle.sheet.specs.Reading.{row, Rows, calls, wrong_at, one_call, rows_from, rows}
use Rattle.sheet.specs.Found.{slots_of, Sound, RowIs, records_in}
use Rattle.sheet.specs.Converted.{records, over}
use Rattle.sheet.specs.declared.reading.Call.{Call as Called}
use Rattle.sheet.proofs.Sizing.{Got, no_call, a_call, place}
use Rattle.sheet.proofs.Sheets.{rows_read, rows_wrong, rows_none}

-- the calls that are to come from a place on, and the bytes before used
pub record Writing (c : ℕ) (csv out₀ out : List ℕ) (at used : ℕ) : Type 0 where
  pub fuel : ℕ
  pub line : ℕ
  pub left : List Call
  pub inside : at ≤ length csv
  pub enough : length csv < at + fuel
  pub to_come : rows_from fuel line (drop at csv) ≡ calls left
  pub used_so : used + length (records c left) ≡ length (records_in c (rows csv))
  pub written : take used out ++ records c left ≡ records_in c (rows csv)
  pub behind : drop used out ≡ drop used out₀
  pub size : length out ≡ length out₀
  pub room : length (records_in c (rows csv)) ≤ length out₀

-- ---- the rows to come
more-calls : (k : Call) (s : Rows) (ls : List Call) → one_call k s ≡ calls ls → (ms : List Call) × (s ≡ calls ms) × (ls ≡ k ∷ ms)
more-calls k (calls ks) ls e = (ks, refl, cc)
more-calls k (wrong_at line) ls e = let z : ◌≡◌ {A = ℕ} 0 1 = cc in absurd (omega arith)

module _ {c : ℕ} {csv out₀ out : List ℕ} {at used : ℕ} (g : Writing c csv out₀ out at used) where
  enough : length (drop at csv) < g.fuel
  enough = omega (arith, g.enough, g.inside, length-drop at csv)

  pub used_inside : used ≤ length out
  used_inside = omega (arith, g.used_so, g.room, g.size)

  pub writing_end : length csv ≤ at → out ≡ over (records_in c (rows csv)) out₀
  unfolding records
  writing_end h =
      let e : g.left ≡ [] = no_calls (sym g.to_come ∙ ap (rows_from g.fuel g.line) (drop_of_length-le csv h) ∙ rows_none g.fuel g.line (omega (arith, enough))) in
      let w : take used out ≡ records_in c (rows csv) = sym (append-nil (take used out)) ∙ (rw e at g.written) in
      let n : used ≡ length (records_in c (rows csv)) = omega (arith, ap length w, length-take-le used out used_inside) in
      sym (take-append-drop used out) ∙ ap₂ ◌++◌ w (g.behind ∙ ap (λ k. drop k out₀) n)
    where
      no_calls : {ls : List Call} → calls ls ≡ calls [] → ls ≡ []
      no_calls e = cc

  module _ (more : at < length csv) {r : Option (Called × ℕ)} (i : RowIs (take (length csv - at) (drop at csv)) r) where
    some : 0 < length (drop at csv)
    some = omega (arith, length-drop at csv)

    -- a good sheet has no wrong row
    pub writing_some : IsSome r
    writing_some = go r refl
      where
        go : (q : Option (Called × ℕ)) → r ≡ q → IsSome q
        go (Some x) e = refl
        go None e =
            let w : calls g.left ≡ wrong_at g.line = sym g.to_come ∙ rows_wrong g.fuel g.line (drop at csv) some enough (no_call csv at i e) in
            let z : ◌≡◌ {A = ℕ} 0 1 = cc in absurd (omega arith)

    module _ {k : Called} {next : ℕ} (e : r ≡ Some (k, next)) where
      its : Sound (drop at csv) k next
      its = place csv at i e

      -- the call here, and those behind it
      the_call : Got c (row (drop at csv)) (record_of k.kind c (slots_of k)) (drop (at + next) csv)
      the_call = a_call csv at i c e

      the_others : (ms : List Call) × (rows_from (g.fuel - 1) (suc g.line) (drop (at + next) csv) ≡ calls ms) × (g.left ≡ the_call.call ∷ ms)
      the_others =
          more-calls the_call.call (rows_from (g.fuel - 1) (suc g.line) (drop (at + next) csv)) g.left
          (sym (rows_read g.fuel g.line (drop at csv) some enough the_call.was) ∙ g.to_come)

      -- there is room for its bytes behind the others
      pub room_for : {len : ℕ} → len ≡ length (record_of k.kind c (slots_of k)) → used + len ≤ length out
      unfolding records
      room_for e =
          let all = ap (λ ks. length (records c ks)) the_others.2 in
          omega (arith, g.used_so, g.room, g.size, e, all, ap length the_call.bytes, length-append (encode_call c the_call.call) (records c the_others.0))

      module _ {made : Encoded} (h : Holds made (record_of k.kind c (slots_of k))) where
        abbrev src : List ℕ
        src = take made.len made.bytes

        its_bytes : src ≡ encode_call c the_call.call
        its_bytes = h.text ∙ sym the_call.bytes

        -- its bytes and those of the others
        split : records c g.left ≡ src ++ records c the_others.0
        unfolding records
        split = ap (records c) the_others.2 ∙ ap (λ b. b ++ records c the_others.0) (sym its_bytes)

        pub writing_next : {ys : List ℕ} → ys ≡ src → Writing c csv out₀ (put_mid used (used + made.len - used) out ys) (at + next) (used + made.len)
        writing_next {ys} copied = rw copied (record {
          fuel = g.fuel - 1;
          line = suc g.line;
          left = the_others.0;
          inside = omega (arith, its.inside, length-drop at csv);
          enough = omega (arith, g.enough, its.shorter);
          to_come = the_others.1;
          used_so = omega (arith, g.used_so, as_long h, ap length split, length-append src (records c the_others.0));
          written = ap (λ b. b ++ records c the_others.0) put_taken ∙ append_assoc (take used out) src (records c the_others.0) ∙ ap (λ b. take used out ++ b) (sym split) ∙ g.written;
          behind = put_behind ∙ sym (drop-drop made.len used out) ∙ ap (drop made.len) g.behind ∙ drop-drop made.len used out₀;
          size = put_length ∙ g.size;
          room = g.room;
        })
          where
            long : length src ≡ used + made.len - used
            long = omega (arith, as_long h)

            put_taken : take (used + made.len) (put_mid used (used + made.len - used) out src) ≡ take used out ++ src
            put_taken = take-put_mid used (used + made.len - used) out src (used + made.len) (omega (arith, long)) used_inside

            put_behind : drop (used + made.len) (put_mid used (used + made.len - used) out src) ≡ drop (used + made.len) out
            put_behind = drop-put_mid used (used + made.len - used) out src (used + made.len) (omega arith) used_inside long

            put_length : length (put_mid used (used + made.len - used) out src) ≡ length out
            put_length =
                same_len_mid used (used + made.len - used) out src
                (omega (arith, long, room_for h.len, length-take-le (used + made.len - used) (drop used out) (omega (arith, room_for h.len, length-drop used out))))
