use Rattle.std.proofs.Common.{◌∙◌}
use Rattle.texts.proofs.Said.{word_listed, word_said_lem}
use Rattle.texts.proofs.numbers.word_by.Goals as goal

pub returns-then-not-decimals : goal.returns-then-not-decimals
returns-then-not-decimals c = word_listed c.args.decimals c.args.line.now c.if-not-decimals.true c.candidate.ensures

pub returns : goal.returns
returns c = c.unwrap_or.ensures ∙ word_said_lem c.args.decimals c.args.line.now c.word_in.result c.if-not-decimals.false c.word_in.ensures
