use lib.Dec.{eqb}
use mathlib.Core.Bool.{not}
use mathlib.Core.Path.{◌≡◌}
use Rattle.house.specs.Damage.{not_zero}
use Rattle.damage.proofs.not_zero.Given as goal

-- the gathered bits are 0 exactly where all places so far are
abbrev pub invariant-loop-x : goal.invariant-loop-x
invariant-loop-x l = not (eqb l.bits 0) ≡ not_zero l.places 0 l.x-index
