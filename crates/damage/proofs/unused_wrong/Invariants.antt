use lib.ListN.{get_or}
use mathlib.Core.Bool.{false}
use mathlib.Core.Path.{◌≡◌}
use Rattle.house.specs.Lists.{any}
use Rattle.house.specs.House.{no_partition}
use Rattle.damage.specs.Marks.{room_wrong}
use Rattle.damage.proofs.unused_wrong.Given as goal

abbrev pub invariant-loop-i : goal.invariant-loop-i
invariant-loop-i l = any (λ j. room_wrong l.h.count j (get_or l.h.running j false) (get_or l.h.parts j no_partition) l.h.regs l.h.frames l.h.shadows) l.i ≡ false
