use Rattle.std.proofs.Common.{◌≡◌, sym, ◌∙◌, arith}
use Rattle.law.proofs.Support.{supported_zero}
use Rattle.law.proofs.survey.Goals as goal

pub returns : goal.returns
returns c =
    let end : c.loop-i.i ≡ 16 = omega arith in
    let found = rw end at c.loop-i.invariant.0 in
    let zero = supported_zero _ c.fits-state in
    record { none_stray = (λ h. zero.0 (sym found ∙ h), λ h. found ∙ zero.1 h); doubtful = rw end at c.loop-i.invariant.1 }
