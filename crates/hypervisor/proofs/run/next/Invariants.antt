use Rattle.house.specs.Turns.{next_from}
use Rattle.std.proofs.Common.{◌≡◌, ◌-◌, ◌<◌}
use Rattle.hypervisor.proofs.run.next.Given as goal

abbrev pub invariant-loop : goal.invariant-loop
invariant-loop l = (next_from l.running l.n l.at (l.n - l.counter) ≡ next_from l.running l.n l.i l.n) × (l.at < l.n)
