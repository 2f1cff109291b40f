use mathlib.Core.Path.{◌≡◌}
use native.Mathlib.Omega.{arith}
use lib.ListN.{get_or}
use Rattle.dlx.specs.Processor.{fresh_of}
use Rattle.house.specs.House.{no_partition}
use Rattle.boot.proofs.Places.{filled_none, filled_more}
use lib.ListN.{length}
use Rattle.boot.proofs.fresh_parts.Goals as goal

pub loop-i-init : goal.loop-i-init
loop-i-init c = rw c.none.ensures (filled_none (λ j. fresh_of (get_or c.args.pages.now j 0)) no_partition 8)

pub loop-i-preserved : goal.loop-i-preserved
loop-i-preserved c = rw (c.loop-i.invariant, c.fresh.ensures) (filled_more (λ j. fresh_of (get_or c.args.pages.now j 0)) no_partition 8 c.loop-i.i (omega arith))

pub returns : goal.returns
returns c = let end : c.loop-i.i ≡ length c.args.pages.now = omega arith in rw (← end) c.loop-i.invariant
