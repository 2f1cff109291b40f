use Rattle.std.proofs.Common.{sym}
use Rattle.texts.proofs.Pieces.{finished_wrong, finished_none, finished_line}
use Rattle.texts.proofs.reading.finished.Goals as goal

pub returns-then-is_some : goal.returns-then-is_some
returns-then-is_some c = record { words_after = finished_wrong c.args.decimals c.args.a c.args.line.now c.args.words.now c.requires (sym c.if-is_some.ensures); fits = c.requires }

pub returns-then-a-eq0 : goal.returns-then-a-eq0
returns-then-a-eq0 c = record { words_after = finished_none c.args.decimals c.args.a c.args.line.now c.args.words.now c.requires (sym c.if-is_some.ensures) c.if-a-eq0.true; fits = c.requires }

pub returns : goal.returns
returns c = record { words_after = finished_line c.args.decimals c.args.a c.args.line.now c.args.words.now c.requires (sym c.if-is_some.ensures) c.if-a-eq0.false c.ended.ensures.words_after; fits = c.ended.ensures.fits }
