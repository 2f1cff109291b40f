use mathlib.Core.Bool.{false}
use mathlib.Core.Path.{◌≡◌}
use Rattle.house.specs.Lists.{any}
use Rattle.damage.specs.Marks.{shadow_marked}
use Rattle.damage.proofs.shadows_wrong.Given as goal

abbrev pub invariant-loop-i : goal.invariant-loop-i
invariant-loop-i l = any (shadow_marked l.owners l.h.shadows) l.i ≡ false
