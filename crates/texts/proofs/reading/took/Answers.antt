use Rattle.std.proofs.Common.{sym}
use Rattle.texts.proofs.Pieces.{took_wrong, took_end, took_idle, took_more}
use Rattle.texts.proofs.reading.took.Goals as goal

pub returns-then-is_some : goal.returns-then-is_some
returns-then-is_some c = record { words_after = took_wrong c.args.decimals _ c.args.b (sym c.if-is_some.ensures); fits = c.requires }

pub returns-then-b-eq10 : goal.returns-then-b-eq10
returns-then-b-eq10 c = record { words_after = took_end c.args.decimals _ c.args.b (sym c.if-is_some.ensures) c.if-b-eq10.true c.ended.ensures.words_after; fits = c.ended.ensures.fits }

pub returns-then-idle_behind : goal.returns-then-idle_behind
returns-then-idle_behind c = record { words_after = took_idle c.args.decimals _ c.args.b (sym c.if-is_some.ensures) c.if-b-eq10.false (c.idle_behind.ensures c.args.words.now) c.if-idle_behind.true; fits = c.requires }

pub returns : goal.returns
returns c = record { words_after = took_more c.args.decimals _ c.args.b (sym c.if-is_some.ensures) c.if-b-eq10.false (c.idle_behind.ensures c.args.words.now) c.if-idle_behind.false (c.longer.ensures.by_index c.args.words.now); fits = c.longer.ensures.fits }
