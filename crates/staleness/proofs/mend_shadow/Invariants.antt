use Rattle.std.proofs.Common.{◌≡◌, get_or}
use Rattle.addresses.specs.Walk.{entries}
use Rattle.staleness.proofs.SoFar.{so_far}
use Rattle.staleness.specs.Audit.{kept_in}
use Rattle.staleness.proofs.mend_shadow.Given as goal

abbrev pub invariant-loop-px : goal.invariant-loop-px
invariant-loop-px l = l.shadow ≡ so_far (kept_in l.frames l.pages l.t l.words l.initial.shadow) (λ k. get_or l.initial.shadow k 0) entries l.px
