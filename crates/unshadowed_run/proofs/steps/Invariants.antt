use Rattle.std.proofs.Common.{◌≡◌, ◌-◌, ◌≤◌, length}
use Rattle.unshadowed_run.specs.Steady.{Steady}
use Rattle.unshadowed.specs.Turns.{unshadowed_steps, all_empty}
use Rattle.house.specs.Turns.{world, house_at}
use Rattle.house.specs.House.{with_queues}
use Rattle.tickets.specs.Queues.{queues}
use Rattle.unshadowed_run.proofs.steps.Given as goal

abbrev pub invariant-loop-made : goal.invariant-loop-made
invariant-loop-made l =
    (all_empty (world (with_queues (house_at l.h l.current l.left l.parts l.regs l.h.shadows) (queues l.tickets l.waiting)) l.memory) ≡ all_empty (unshadowed_steps l.made (world l.h l.initial.memory)))
    × Steady (all_empty (world (with_queues (house_at l.h l.current l.left l.parts l.regs l.h.shadows) (queues l.tickets l.waiting)) l.memory))
    × (l.made ≤ l.k)
    × (length l.memory ≡ length l.initial.memory)

abbrev pub decreases-loop-made : goal.decreases-loop-made
decreases-loop-made l = l.k - l.made
