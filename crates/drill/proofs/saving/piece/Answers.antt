use Rattle.std.proofs.Common.{[]}
use Rattle.restore.specs.Standing.{reading_at}
use Rattle.drill.proofs.Keeps.{piece_told}
use Rattle.drill.proofs.saving.piece.Goals as goal

pub returns : goal.returns
returns c = let a = c.args in (c.taken-x.ensures, piece_told a.c a.more.now a.h (reading_at a.r.reader a.r.house a.held.now []) a.memory.now c.taken-x.result.reader c.taken-x.result.house _ _ _ c.taken-x.ensures (c.detail-detail.ensures c.taken-x.result.house _) c.call-end.ensures)
