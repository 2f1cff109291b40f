use Rattle.std.proofs.Common.{◌+◌, ◌*◌, ap, ◌∙◌}
use Rattle.house.specs.Turns.{world}
use Rattle.save.specs.Calls.{save_call}
use Rattle.drill.specs.Saving.{saved_of}
use Rattle.drill.proofs.saving.saved.Goals as goal

pub returns : goal.returns
unfolding saved_of
returns c = let a = c.args in c.save.ensures ∙ ap (save_call (world a.h a.memory.now) (a.c.a + a.c.b * 4294967296)) c.mark.ensures
