use mathlib.Core.Path.{◌∙◌, sym}
use Rattle.damage.proofs.Marks.{within}
use Rattle.damage.proofs.damaged.Goals as goal

pub inside_wrong-requires : goal.inside_wrong-requires
inside_wrong-requires c = let h = c.args.h in within h.count h.q h.words h.parts h.frames (sym c.outside_limits.ensures ∙ c.if-outside_limits.false)
