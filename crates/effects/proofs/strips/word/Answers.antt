use Rattle.std.proofs.Common.{rules}
use Rattle.effects.proofs.Masking.{word_masked}
use Rattle.effects.proofs.strips.word.Goals as goal

pub returns : goal.returns
returns c = word_masked c.args.state.now (search rules)
