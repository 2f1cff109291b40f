use lib.ListN.{get_or}
use mathlib.Core.Bool.{false}
use mathlib.Core.Path.{◌≡◌}
use Prim.Native.Nat.{◌%◌, ◌≤◌}
use Rattle.addresses.specs.Walk.{entries}
use Rattle.house.specs.Lists.{any}
use Rattle.damage.specs.Marks.{entry_marked}
use Rattle.damage.proofs.shadow_wrong.Given as goal

-- whole groups are looked through
abbrev pub invariant-loop-base : goal.invariant-loop-base
invariant-loop-base l = (any (λ x. entry_marked l.owners l.tag (get_or l.shadow x 0)) l.base ≡ false) × (l.base ≤ entries) × (l.base % 32 ≡ 0)
