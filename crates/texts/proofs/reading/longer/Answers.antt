use Rattle.texts.proofs.Pieces.{longer_not, longer_is, longer_fits}
use Rattle.texts.proofs.reading.longer.Goals as goal

pub returns-then-place-ge81 : goal.returns-then-place-ge81
returns-then-place-ge81 c = record { by_index = longer_not c.args.a c.args.line.now c.args.b c.requires c.if-place-ge81.true; fits = c.requires }

pub returns : goal.returns
returns c = record { by_index = longer_is c.args.a c.args.line.now c.args.b c.requires c.if-place-ge81.false; fits = longer_fits c.args.a c.args.line.now c.args.b c.requires c.if-place-ge81.false }
