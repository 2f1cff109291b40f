use Rattle.std.proofs.Common.{arith}
use Rattle.keep.proofs.Pieces.{part_long, part_within, count_of, part_of, whole_at, within_on}
use Rattle.keep.proofs.keep_pieces.Goals as goal

pub returns-then-n-eq0 : goal.returns-then-n-eq0
returns-then-n-eq0 c =
    whole_at _ _ _ _ c.pieces.invariant (count_of _ _ _ _ _ _ c.in-Ok.ensures _ c.count.ensures) (omega (arith, c.large_buffer-buffer.ensures)) (omega (arith, c.if-n-eq0.true))

pub slice_bounds-buffer-end : goal.slice_bounds-buffer-end
slice_bounds-buffer-end c = part_within _ _ _ _ _ _ c.in-Ok.ensures

pub slice_bounds-put_part-end : goal.slice_bounds-put_part-end
slice_bounds-put_part-end c = part_long _ _ _ _ _ _ c.in-Ok.ensures

pub put_part-requires : goal.put_part-requires
put_part-requires c = part_of _ _ _ _ _ _ c.in-Ok.ensures _ c.count.ensures

pub pieces-preserved : goal.pieces-preserved
pieces-preserved c =
    within_on _ _ _ _ _ _ c.pieces.invariant (count_of _ _ _ _ _ _ c.in-Ok.ensures _ c.count.ensures) (part_long _ _ _ _ _ _ c.in-Ok.ensures) c.in_ok-w.ensures
