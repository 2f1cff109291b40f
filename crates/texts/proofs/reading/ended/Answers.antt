use Rattle.std.proofs.Common.{sym, refl}
use Rattle.texts.proofs.Pieces.{held_length, ended_wrong, ended_right, fits_same, fits_none}
use Rattle.texts.proofs.reading.ended.Goals as goal

pub slice_bounds-right_by-end : goal.slice_bounds-right_by-end
slice_bounds-right_by-end c = sym (held_length c.args.a c.args.line.now 0 c.requires)

pub returns-then-not-right_by : goal.returns-then-not-right_by
returns-then-not-right_by c = record { words_after = ended_wrong c.args.decimals c.args.a c.args.line.now c.args.words.now c.requires refl c.right_by.ensures c.if-not-right_by.true; fits = fits_same c.args.a c.args.line.now _ _ c.requires }

pub slice_bounds-word_by-end : goal.slice_bounds-word_by-end
slice_bounds-word_by-end c = sym (held_length c.args.a c.args.line.now 0 c.requires)

pub returns : goal.returns
returns c = record { words_after = ended_right c.args.decimals c.args.a c.args.line.now c.args.words.now c.requires refl c.right_by.ensures c.if-not-right_by.false c.word_by-w.ensures c.put_word.ensures; fits = fits_none c.args.a c.args.line.now _ _ c.requires }
