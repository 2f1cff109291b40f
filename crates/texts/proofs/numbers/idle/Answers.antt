use Rattle.decimal.specs.Texts.{ascii}
use Rattle.texts.proofs.Said.{idle_listed, idle_other, idle_zero, idle_minus}
use Rattle.texts.proofs.numbers.idle.Goals as goal

pub returns-then-not-decimals : goal.returns-then-not-decimals
returns-then-not-decimals c = idle_listed c.args.decimals c.args.line.now c.args.b c.if-not-decimals.true

pub returns-then-b-ne48 : goal.returns-then-b-ne48
returns-then-b-ne48 c = idle_other c.args.decimals c.args.line.now c.args.b c.if-not-decimals.false c.if-b-ne48.true

pub returns-then-is : goal.returns-then-is
unfolding ascii
returns-then-is c = idle_zero c.args.decimals c.args.line.now c.args.b c.if-not-decimals.false c.if-b-ne48.false c.is.ensures c.if-is.true

pub returns : goal.returns
unfolding ascii
returns c = idle_minus c.args.decimals c.args.line.now c.args.b c.if-not-decimals.false c.if-b-ne48.false c.is.ensures c.if-is.false c.is-2.ensures
