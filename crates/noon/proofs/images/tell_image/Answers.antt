use mathlib.Core.Path.{◌∙◌}
use Prim.Native.Nat.{ℕ}
use lib.ListN.{length-replicate}
use Rattle.noon.proofs.Steps.{counts, counts_front, slip_there}
use Rattle.noon.proofs.images.tell_image.Goals as goal

-- src/images.rt:167:34
pub slice_bounds-out-end : goal.slice_bounds-out-end
slice_bounds-out-end c = (slip_there _ c.put_slip-end.new.out c.put_slip-end.result _ (length-replicate {A = ℕ} 80 0) c.put_slip-end.ensures).1

-- src/images.rt:167:34
pub slice_bounds-show-end : goal.slice_bounds-show-end
slice_bounds-show-end c = counts c.put_slip-end.result c.put_slip-end.new.out (slip_there _ c.put_slip-end.new.out c.put_slip-end.result _ (length-replicate {A = ℕ} 80 0) c.put_slip-end.ensures).1

-- src/images.rt:167:47
pub slice_bounds-show-end-2 : goal.slice_bounds-show-end-2
slice_bounds-show-end-2 c = counts_front c.name_length-n.result c.word-length.result _ c.name_length-n.ensures.upper_bound

-- src/images.rt:167:5
pub show-requires : goal.show-requires
show-requires c = (slip_there _ c.put_slip-end.new.out c.put_slip-end.result _ (length-replicate {A = ℕ} 80 0) c.put_slip-end.ensures).0 ∙ rw c.wide-i.ensures
