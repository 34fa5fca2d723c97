-- `sheet::form::all_digits` meets its contract: `all` tests each byte.
use Rattle.std.proofs.Common.{rules, ◌&&◌, refl}
use lib.Dec.{leb}
use Rattle.std.proofs.lemmas.List.Recursion.{and_is}
use Rattle.sheet.specs.Caller.{all_digits}
use Rattle.sheet.proofs.form.all_digits.Goals as goal

pub returns : goal.returns
unfolding all_digits
returns c = and_is all_digits (λ x. leb 48 x && leb x 57) refl (λ _ _. refl) c.args.text.now 0 _ (search rules) (search rules)
