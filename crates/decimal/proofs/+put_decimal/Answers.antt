use Rattle.decimal.proofs.Texts.{decimal_one, decimal_more}
use Rattle.decimal.proofs.+put_decimal.Goals as goal

pub returns-then-n-lt10 : goal.returns-then-n-lt10
returns-then-n-lt10 t c = decimal_one _ c.args.n c.if-n-lt10.true c.put_digit.ensures

pub returns : goal.returns
returns t c = decimal_more _ c.args.n c.if-n-lt10.false c.put_decimal-last.ensures c.put_digit-2.ensures
