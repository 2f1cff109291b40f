use mathlib.Core.Path.{◌≡◌}
use lib.ListN.{get_or}
use Rattle.dlx.specs.Processor.{fresh_of}
use Rattle.house.specs.House.{no_partition}
use Rattle.boot.specs.Places.{filled}
use Rattle.boot.proofs.fresh_parts.Given as goal

abbrev pub invariant-loop-i : goal.invariant-loop-i
invariant-loop-i l = (l.parts ≡ filled (λ j. fresh_of (get_or l.pages j 0)) no_partition 8 l.i)
