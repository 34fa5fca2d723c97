-- `sheet::form::call_named` meets its contract: the word that the text is. That it is none is found from `no_word`.
use mathlib.Core.Path.{refl}
use native.Mathlib.Omega.{arith}
use Rattle.sheet.specs.Form.{user, role, perm, trust, give, grant, attach}
use Rattle.sheet.specs.Reading.{kind_named, same}
use Rattle.sheet.proofs.Words.{the_word}
use Rattle.sheet.proofs.form.call_named.Goals as goal

pub returns-in-user : goal.returns-in-user
unfolding kind_named same
returns-in-user c = the_word user _ _ refl refl (omega arith) (omega arith) c.args.text.now (omega arith) (omega arith, (omega arith, (omega arith, (omega arith, tt))))

pub returns-in-role : goal.returns-in-role
unfolding kind_named same
returns-in-role c = the_word role _ _ refl refl (omega arith) (omega arith) c.args.text.now (omega arith) (omega arith, (omega arith, (omega arith, (omega arith, tt))))

pub returns-in-perm : goal.returns-in-perm
unfolding kind_named same
returns-in-perm c = the_word perm _ _ refl refl (omega arith) (omega arith) c.args.text.now (omega arith) (omega arith, (omega arith, (omega arith, (omega arith, tt))))

pub returns-in-trust : goal.returns-in-trust
unfolding kind_named same
returns-in-trust c = the_word trust _ _ refl refl (omega arith) (omega arith) c.args.text.now (omega arith) (omega arith, (omega arith, (omega arith, (omega arith, (omega arith, tt)))))

pub returns-in-give : goal.returns-in-give
unfolding kind_named same
returns-in-give c = the_word give _ _ refl refl (omega arith) (omega arith) c.args.text.now (omega arith) (omega arith, (omega arith, (omega arith, (omega arith, tt))))

pub returns-in-grant : goal.returns-in-grant
unfolding kind_named same
returns-in-grant c = the_word grant _ _ refl refl (omega arith) (omega arith) c.args.text.now (omega arith) (omega arith, (omega arith, (omega arith, (omega arith, (omega arith, tt)))))

pub returns-in-attach : goal.returns-in-attach
unfolding kind_named same
returns-in-attach c = the_word attach _ _ refl refl (omega arith) (omega arith) c.args.text.now (omega arith) (omega arith, (omega arith, (omega arith, (omega arith, (omega arith, (omega arith, tt))))))
