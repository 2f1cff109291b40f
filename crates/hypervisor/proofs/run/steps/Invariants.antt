use Rattle.std.proofs.Common.{◌≡◌, ◌-◌, ◌≤◌, true, length}
use Rattle.house.specs.Sound.{Sound}
use Rattle.house.specs.Turns.{world, next_of, host_steps, house_at}
use Rattle.tickets.specs.Queues.{queues}
use Rattle.house.specs.House.{with_queues}
use Rattle.hypervisor.proofs.run.steps.Given as goal

abbrev pub invariant-loop-made : goal.invariant-loop-made
invariant-loop-made l =
    (world (with_queues (house_at l.h l.current l.left l.parts l.regs l.shadows) (queues l.tickets l.waiting)) l.memory ≡ host_steps l.made (world l.h l.initial.memory))
    × Sound (world (with_queues (house_at l.h l.current l.left l.parts l.regs l.shadows) (queues l.tickets l.waiting)) l.memory)
    × (l.made ≤ l.k)
    × (length l.memory ≡ length l.initial.memory)
    × (l.alone ≡ true → next_of l.h.running l.h.count l.current ≡ l.current)

abbrev pub decreases-loop-made : goal.decreases-loop-made
decreases-loop-made l = l.k - l.made
