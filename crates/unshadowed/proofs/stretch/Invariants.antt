use Rattle.unshadowed.specs.Memory.{unshadowed, unshadowed_memory}
use Rattle.tickets.specs.Queues.{queues, desk, Seated}
use Rattle.dlx.specs.Machine.{core, stretch_from}
use Rattle.std.proofs.Common.{◌≡◌, ◌-◌, length}
use Rattle.unshadowed.proofs.stretch.Given as goal

abbrev pub invariant-loop-left : goal.invariant-loop-left
invariant-loop-left l =
    (stretch_from (unshadowed_memory l.frames l.pages) (desk l.count l.i) l.left (l.n - l.left) (core l.processor l.regs l.latest l.timer, unshadowed l.table l.words) (queues l.tickets l.waiting) ≡ stretch_from (unshadowed_memory l.frames l.pages) (desk l.count l.i) l.n 0 (core l.initial.processor l.initial.regs l.initial.latest l.initial.timer, unshadowed l.initial.table l.initial.words) (queues l.initial.tickets l.initial.waiting))
    × (length l.regs ≡ length l.initial.regs)
    × (length l.words ≡ length l.initial.words)
    × Seated l.count l.i (queues l.tickets l.waiting)
    × Seated l.count l.i (queues l.initial.tickets l.initial.waiting)
