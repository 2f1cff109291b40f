use Rattle.std.proofs.Common.{length, sym, ap, ◌∙◌}
use Rattle.texts.proofs.Pieces.{raw_in}
use Rattle.texts.proofs.write_some.Goals as goal

pub slice_bounds-out-end : goal.slice_bounds-out-end
slice_bounds-out-end c = (raw_in c.args.words.now _ _ _ (sym c.buffer-out.ensures) c.requires c.put_words-n.ensures).2

pub slice_bounds-show-end : goal.slice_bounds-show-end
slice_bounds-show-end c = let p = raw_in c.args.words.now _ _ _ (sym c.buffer-out.ensures) c.requires c.put_words-n.ensures in p.0 ∙ ap length (sym p.1)

pub show-requires : goal.show-requires
show-requires c = (raw_in c.args.words.now _ _ _ (sym c.buffer-out.ensures) c.requires c.put_words-n.ensures).1
