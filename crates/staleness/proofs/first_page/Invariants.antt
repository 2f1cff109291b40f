use Rattle.std.proofs.Common.{◌≡◌, false}
use Rattle.house.specs.Lists.{any}
use Rattle.staleness.specs.Audit.{stale_in}
use Rattle.staleness.proofs.first_page.Given as goal

abbrev pub invariant-loop-px : goal.invariant-loop-px
invariant-loop-px l = any (stale_in l.frames l.pages l.t l.words l.shadow) l.px ≡ false
