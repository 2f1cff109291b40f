use mathlib.Core.Bool.{false}
use mathlib.Core.Path.{◌≡◌}
use Rattle.house.specs.Lists.{any}
use Rattle.damage.specs.Marks.{owners_of, twice_in}
use Rattle.damage.proofs.mark_all.Given as goal

abbrev pub invariant-loop-i : goal.invariant-loop-i
invariant-loop-i l = (any (twice_in l.h.parts l.h.frames) l.i ≡ false) × (l.owners ≡ owners_of l.h.parts l.h.frames l.i)
