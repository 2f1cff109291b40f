use Rattle.std.proofs.Common.{arith}
use Rattle.addresses.specs.Walk.{entries}
use Rattle.drill_text.proofs.Lent.{lent_part, lent_length}
use Rattle.drill_text.proofs.partitions.nth.Goals as goal

pub slice_bounds-partition-end : goal.slice_bounds-partition-end
slice_bounds-partition-end c = omega (arith, c.requires)

pub slice_bounds-partition-end-2 : goal.slice_bounds-partition-end-2
slice_bounds-partition-end-2 c = omega (arith, c.requires)

pub slice_bounds-partition-end-3 : goal.slice_bounds-partition-end-3
slice_bounds-partition-end-3 c = omega (arith, c.requires)

pub partition-requires : goal.partition-requires
partition-requires c =
    let a = c.args in
    let p = c.requires in record { registers_length = lent_length a.i 32 a.registers.now (omega (arith, p)); frames_length = lent_length a.i 256 a.frames.now (omega (arith, p)); entries_length = lent_length a.i entries a.shadows.now (omega (arith, p)) }

pub returns : goal.returns
returns c =
    let a = c.args in
    rw (lent_part a.i 32 a.registers.now, lent_part a.i 256 a.frames.now, lent_part a.i entries a.shadows.now) at c.partition.ensures
