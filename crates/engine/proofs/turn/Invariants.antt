use Rattle.engine.specs.Answers.{processor_at, table_at, timer_at}
use Rattle.addresses.proofs.Steps.{Whole}
use Rattle.addresses.specs.Memory.{host, host_memory}
use Rattle.tickets.specs.Queues.{queues, desk, Seated}
use Rattle.dlx.specs.Machine.{core, stretch_from}
use Rattle.std.proofs.Common.{◌≡◌, ◌-◌, ◌≤◌, length}
use Rattle.engine.proofs.turn.Given as goal

abbrev pub invariant-loop-rest : goal.invariant-loop-rest
invariant-loop-rest l =
    (stretch_from (host_memory l.frames l.pages) (desk l.count l.i) l.rest (l.n - l.rest) (core (processor_at l.state) l.regs l.latest (timer_at l.state), host (table_at l.state) l.words l.shadow) (queues l.tickets l.waiting) ≡ stretch_from (host_memory l.frames l.pages) (desk l.count l.i) l.initial.rest (l.n - l.initial.rest) (core (processor_at l.initial.state) l.initial.regs l.initial.latest (timer_at l.initial.state), host (table_at l.initial.state) l.initial.words l.initial.shadow) (queues l.initial.tickets l.initial.waiting))
    × (l.rest ≤ l.n)
    × (length l.regs ≡ length l.initial.regs)
    × (length l.shadow ≡ length l.initial.shadow)
    × Whole l.frames l.pages (length l.initial.words) (host (table_at l.state) l.words l.shadow)
    × Seated l.count l.i (queues l.tickets l.waiting)
    × Seated l.count l.i (queues l.initial.tickets l.initial.waiting)
    × (length l.state ≡ 14)

abbrev pub decreases-loop-rest : goal.decreases-loop-rest
decreases-loop-rest l = l.rest
