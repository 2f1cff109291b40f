use mathlib.Core.Bool.{false}
use mathlib.Core.Path.{◌≡◌}
use Rattle.house.specs.Lists.{any}
use Rattle.damage.specs.Marks.{queue_at}
use Rattle.damage.proofs.queues_wrong.Given as goal

abbrev pub invariant-loop-j : goal.invariant-loop-j
invariant-loop-j l = any (queue_at l.h.count l.h.tickets l.h.waiting) l.j ≡ false
