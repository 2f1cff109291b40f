use mathlib.Core.Path.{refl, sym, ap, ◌∙◌}
use native.Mathlib.Omega.{arith}
use lib.ListN.{length}
use Rattle.list.proofs.Pieces.{lines_in, told}
use Rattle.list.proofs.list_piece.Goals as goal

pub slice_bounds-out-end : goal.slice_bounds-out-end
slice_bounds-out-end c = (lines_in _ _ _ _ _ refl c.requires.piece_length c.put_words-p.ensures.end_after).2

pub slice_bounds-show-end : goal.slice_bounds-show-end
slice_bounds-show-end c = let p = lines_in _ _ _ _ _ refl c.requires.piece_length c.put_words-p.ensures.end_after in p.0 ∙ ap length (sym p.1)

pub show-requires : goal.show-requires
show-requires c = told c.args.r c.args.piece.now _ c.requires.behind (λ i. omega (arith, c.type_inv.piece i)) (lines_in _ _ _ _ _ refl c.requires.piece_length c.put_words-p.ensures.end_after).1
