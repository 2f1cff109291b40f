use Rattle.std.proofs.Common.{◌≡◌, ◌≤◌}
use Rattle.staleness.specs.Audit.{stale_in, count_of}
use Rattle.staleness.proofs.count_stale.Given as goal

abbrev pub invariant-loop-px : goal.invariant-loop-px
invariant-loop-px l = (l.n ≡ count_of (stale_in l.frames l.pages l.t l.words l.shadow) l.px) × (l.n ≤ l.px)
