use Rattle.std.proofs.Common.{sym}
use Rattle.texts.proofs.Pieces.{held_length}
use Rattle.texts.proofs.reading.idle_behind.Goals as goal

pub slice_bounds-idle-end : goal.slice_bounds-idle-end
slice_bounds-idle-end c = sym (held_length c.args.a c.args.line.now 0 c.requires)

pub returns : goal.returns
returns c = λ words. c.idle.ensures
