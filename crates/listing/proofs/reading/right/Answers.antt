use Rattle.listing.proofs.Pieces.{line_in, right_long, right_is}
use mathlib.Core.Path.{refl, sym, ap, ◌∙◌}
use lib.ListN.{length}
use Rattle.listing.proofs.reading.right.Goals as goal

pub returns-then-line-gt80 : goal.returns-then-line-gt80
returns-then-line-gt80 c = right_long c.args.line.now c.if-line-gt80.true

pub slice_bounds-buffer-end : goal.slice_bounds-buffer-end
slice_bounds-buffer-end c = (line_in _ _ _ _ refl c.put_line-end.ensures).2

pub slice_bounds-is-end : goal.slice_bounds-is-end
slice_bounds-is-end c = let p = line_in _ _ _ _ refl c.put_line-end.ensures in p.0 ∙ ap length (sym p.1)

pub returns : goal.returns
returns c = right_is c.args.line.now c.if-line-gt80.false c.candidate-w.ensures (line_in _ _ _ _ refl c.put_line-end.ensures).1 c.is.ensures
