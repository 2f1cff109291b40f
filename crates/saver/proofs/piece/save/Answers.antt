use mathlib.Core.Path.{sym, ◌∙◌}
use native.Mathlib.Omega.{arith}
use Rattle.saver.proofs.Pieces.{head_fits, piece_fits, save_none, save_some}
use borrow.Author.Rules.{rules}
use Rattle.saver.proofs.piece.save.Goals as goal

pub put_head-n-requires : goal.put_head-n-requires
put_head-n-requires c = head_fits c.args.house (sym c.damaged.ensures ∙ c.if-damaged.false)

pub returns-then-count-eq0 : goal.returns-then-count-eq0
returns-then-count-eq0 c = let a = c.args in let h = c.put_head-n.ensures in save_none a.house a.memory.now a.at a.out.now (sym c.damaged.ensures ∙ c.if-damaged.false) (c.if-memory-wide.false ∙ c.wide.ensures) _ c.put_head-n.result h.3 h.0 h.1 h.2 _ c.piece_length-count.ensures c.if-count-eq0.true

pub slice_bounds-put_piece-end : goal.slice_bounds-put_piece-end
slice_bounds-put_piece-end c = search (rules, c.put_head-n.ensures.3)

pub put_piece-requires : goal.put_piece-requires
put_piece-requires c = let a = c.args in let h = c.put_head-n.ensures in record { piece_fits = piece_fits a.house a.memory.now a.at a.out.now (sym c.damaged.ensures ∙ c.if-damaged.false) (c.if-memory-wide.false ∙ c.wide.ensures) _ c.put_head-n.result h.3 h.0 h.1 h.2; out_room = omega (arith, c.piece_length-count.ensures); count_bound = omega (arith, c.piece_length-count.ensures, c.if-count-eq0.false) }

pub returns : goal.returns
returns c = let a = c.args in let h = c.put_head-n.ensures in save_some a.house a.memory.now a.at a.out.now (sym c.damaged.ensures ∙ c.if-damaged.false) (c.if-memory-wide.false ∙ c.wide.ensures) _ c.put_head-n.result h.3 h.0 h.1 h.2 _ c.piece_length-count.ensures _ c.put_piece.ensures
