-- `effects::strips::clear_public` meets its contract.
use Rattle.std.proofs.Common.{◌≡◌, ◌+◌, arith}
use Rattle.mtas.specs.Layout.{address, holders, seniors}
use Rattle.effects.proofs.Masking.{strip_by_strip}
use Rattle.effects.proofs.strips.clear_public.Goals as goal

-- behind the words of i's last permission, or role, stand those of the next issuer's first
pub returns : goal.returns
returns c =
    let p : c.holders-2.result + 16 ≡ address (holders (c.args.i + 1) 0 c.args.i) = omega arith in
    let q : c.seniors-2.result + 16 ≡ address (seniors (c.args.i + 1) 0 c.args.i) = omega arith in
    search strip_by_strip depth 30
