use Rattle.std.proofs.Common.{◌≡◌, length, arith, rules}
use Rattle.house.specs.House.{all_entries}
use Rattle.house.specs.Calls.{emptied_house}
use Rattle.dlx.specs.Parts.{outer}
use native.Mathlib.Nat.{add-sub_cancel_left}
use Rattle.hypervisor.proofs.single.empty.Goals as goal

pub slice_bounds-shadows-end : goal.slice_bounds-shadows-end
slice_bounds-shadows-end c = let l : length c.args.h.shadows ≡ all_entries = search rules in omega (arith, c.wide-a.ensures, c.requires)

pub returns : goal.returns
unfolding emptied_house outer
returns c = simp (c.clear.ensures, c.wide-a.ensures, add-sub_cancel_left)
