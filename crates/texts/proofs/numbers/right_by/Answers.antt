use Rattle.std.proofs.Common.{◌∙◌}
use Rattle.texts.proofs.Said.{right_listed, right_long, right_said}
use Rattle.texts.proofs.numbers.right_by.Goals as goal

pub returns-then-not-decimals : goal.returns-then-not-decimals
returns-then-not-decimals c = right_listed c.args.decimals c.args.line.now c.if-not-decimals.true c.right.ensures

pub returns-then-line-gt80 : goal.returns-then-line-gt80
returns-then-line-gt80 c = right_long c.args.decimals c.args.line.now c.if-not-decimals.false c.if-line-gt80.true

pub returns : goal.returns
returns c = c.is_some.ensures ∙ right_said c.args.decimals c.args.line.now c.word_in.result c.if-not-decimals.false c.if-line-gt80.false c.word_in.ensures
