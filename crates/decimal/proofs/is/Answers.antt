use Rattle.std.proofs.Common.{◌∙◌}
use Rattle.decimal.proofs.Same.{same_slices}
use Rattle.decimal.proofs.is.Goals as goal

pub returns : goal.returns
returns c = c.eq.ensures ∙ same_slices c.args.word.now c.args.this.now
