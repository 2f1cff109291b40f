use Rattle.std.proofs.Common.{[], sym, arith, length-take-le}
use Rattle.restore.specs.Standing.{reading_at}
use Rattle.drill.proofs.Keeps.{taken_is}
use Rattle.drill.proofs.saving.taken.Goals as goal

pub slice_bounds-read-end : goal.slice_bounds-read-end
slice_bounds-read-end c = sym (length-take-le c.wide-n.result c.args.more.now (omega (arith, c.wide-n.ensures, c.requires)))

pub returns : goal.returns
returns c = let a = c.args in taken_is a.c a.more.now a.held.now a.memory.now c.wide-n.result c.begins-here.result.reader c.begins-here.result.house (reading_at a.r.reader a.r.house a.held.now []) _ c.wide-n.ensures (c.begins-here.ensures a.held.now) c.read.ensures
