use Rattle.std.proofs.Common.{◌≡◌, [], length, take, sym, refl, ap, ◌∙◌, arith, length-take-le}
use Rattle.decimal.proofs.Texts.{roomy}
use Rattle.restore.specs.Standing.{reading_at}
use Rattle.drill.specs.Told.{most_read}
use Rattle.drill.specs.Player.{more_of}
use Rattle.drill.specs.Saving.{save_text_of}
use Rattle.drill.proofs.Commands.{plays_sixteen, plays_inside, plays_save, plays_piece, more_length}
use Rattle.drill.proofs.Keeps.{kept_save, kept_piece, kept_finish, named}
use Rattle.drill.proofs.saving.play.Goals as goal

pub slice_bounds-save-end : goal.slice_bounds-save-end
slice_bounds-save-end c = omega (arith, c.requires.plays.lent)

pub slice_bounds-save-end-in-Save : goal.slice_bounds-save-end-in-Save
slice_bounds-save-end-in-Save c = sym (length-take-le _ _ c.requires.plays.lent)

pub slice_bounds-save-end-in-Save-2 : goal.slice_bounds-save-end-in-Save-2
slice_bounds-save-end-in-Save-2 c = omega (arith, c.wide-n.ensures, plays_save c.requires.plays c.in-Save.is, c.requires.output_room)

pub slice_bounds-save-end-in-Save-3 : goal.slice_bounds-save-end-in-Save-3
slice_bounds-save-end-in-Save-3 c = sym (length-take-le c.wide-n.result c.args.output.now (omega (arith, c.wide-n.ensures, plays_save c.requires.plays c.in-Save.is, c.requires.output_room)))

pub returns-in-Save : goal.returns-in-Save
returns-in-Save c = let a = c.args in let k = kept_save a.c (more_of a.r a.c a.input.now) a.r.lent a.h a.memory.now (reading_at a.s.reader a.s.house a.held.now []) c.in-Save.is in let n : length (take c.wide-n.result a.output.now) ≡ a.c.c = length-take-le c.wide-n.result a.output.now (omega (arith, c.wide-n.ensures, plays_save c.requires.plays c.in-Save.is, c.requires.output_room)) ∙ c.wide-n.ensures in (k.0, named (ap (save_text_of a.c a.h (take a.r.lent a.memory.now)) n ∙ k.1) c.save-end.ensures)

pub slice_bounds-piece-count : goal.slice_bounds-piece-count
slice_bounds-piece-count c = omega (arith, plays_sixteen c.requires.plays)

pub slice_bounds-piece-start : goal.slice_bounds-piece-start
slice_bounds-piece-start c = omega (arith, plays_sixteen c.requires.plays)

pub slice_bounds-piece-end : goal.slice_bounds-piece-end
slice_bounds-piece-end c = omega (arith, plays_inside c.requires.plays)

pub slice_bounds-piece-end-in-Piece : goal.slice_bounds-piece-end-in-Piece
slice_bounds-piece-end-in-Piece c = omega (arith, c.requires.plays.lent)

pub slice_bounds-piece-end-in-Piece-2 : goal.slice_bounds-piece-end-in-Piece-2
slice_bounds-piece-end-in-Piece-2 c = sym (length-take-le _ _ c.requires.plays.lent)

pub piece-p-requires : goal.piece-p-requires
piece-p-requires c = plays_piece c.requires.plays _ (more_length c.requires.plays c.args.input.now refl) c.in-Piece.is

pub returns-in-Piece : goal.returns-in-Piece
returns-in-Piece c = let a = c.args in let k = kept_piece a.c (more_of a.r a.c a.input.now) a.r.lent a.h a.memory.now (reading_at a.s.reader a.s.house a.held.now []) c.in-Piece.is c.piece-p.result.restoring.reader c.piece-p.result.restoring.house _ _ c.piece-p.ensures.0 in (k.0, named k.1 (roomy most_read c.piece-p.ensures.1 (omega arith)))

pub slice_bounds-finish-end : goal.slice_bounds-finish-end
slice_bounds-finish-end c = omega (arith, c.requires.plays.lent)

pub slice_bounds-finish-end-in_default : goal.slice_bounds-finish-end-in_default
slice_bounds-finish-end-in_default c = sym (length-take-le _ _ c.requires.plays.lent)

pub returns-in_default : goal.returns-in_default
returns-in_default c = let a = c.args in let f = c.finish-d.ensures a.held.now in let k = kept_finish a.c (more_of a.r a.c a.input.now) a.r.lent a.h a.memory.now (reading_at a.s.reader a.s.house a.held.now []) c.in_default.not-Save c.in_default.not-Piece _ _ f.0 (c.begin.ensures a.held.now []) in (k.0, named k.1 (roomy most_read f.1 (omega arith)))
