use Rattle.std.proofs.Common.{sym, arith}
use Rattle.texts.proofs.Pieces.{held_length, told_wrong, told_short, told_done}
use Rattle.texts.proofs.answer.Goals as goal

pub refuse-requires : goal.refuse-requires
refuse-requires c = told_wrong c.args.decimals _ c.requires.whole _ c.in-Some.is

pub slice_bounds-say_line-end : goal.slice_bounds-say_line-end
slice_bounds-say_line-end c = sym (held_length c.args.at c.args.line.now 0 c.requires.fits)

pub refuse-requires-then-at-gt262144 : goal.refuse-requires-then-at-gt262144
refuse-requires-then-at-gt262144 c = told_short c.args.decimals _ c.requires.whole c.in_default.is c.if-at-gt262144.true

pub write_words-requires : goal.write_words-requires
write_words-requires c = record { told = told_done c.args.decimals _ c.requires.whole c.in_default.is c.if-at-gt262144.false; words_room = omega (arith, c.requires.words_length, c.if-at-gt262144.false) }
