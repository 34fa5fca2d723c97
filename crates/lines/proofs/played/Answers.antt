-- `lines::played` meets its contract: four numbers with a space behind each, a fifth, and the line's end.
use native.Mathlib.Omega.{arith}
use Rattle.lines.proofs.Decimal.{few, few-field}
use Rattle.lines.proofs.played.Goals as goal

pub returns-clause-len_bound : goal.returns-clause-len_bound
returns-clause-len_bound c h =
    omega (
      arith,
      few-field 4 c.args.place h,
      few-field 4 c.args.kind (omega arith),
      few-field 2 c.args.caller (omega arith),
      few-field 4 c.args.refusal (omega arith),
      few 4 c.args.verdict (omega arith),
      c.field.ensures.extends.len,
      c.field-2.ensures.extends.len,
      c.field-3.ensures.extends.len,
      c.field-4.ensures.extends.len,
      c.number.ensures.extends.len,
    )
