use borrow.Author.Rules.{rules}
use Rattle.night_run.proofs.Pieces.{going_at}
use Rattle.night_run.proofs.Files.{from_saved, lent_zeros, front_long, front_count, room_fits}
use Rattle.night_run.proofs.restore_in.Goals as goal

pub slice_bounds-head-end : goal.slice_bounds-head-end
slice_bounds-head-end c = c.in_head-n.ensures.prefix_len.0

pub slice_bounds-room-end : goal.slice_bounds-room-end
slice_bounds-room-end c = c.in_head-n.ensures.prefix_len.1

pub slice_bounds-head-end-2 : goal.slice_bounds-head-end-2
slice_bounds-head-end-2 c = c.in_head-n.ensures.prefix_len.0

pub slice_bounds-restore_from-end : goal.slice_bounds-restore_from-end
slice_bounds-restore_from-end c = c.in_head-n.ensures.prefix_len.1

pub slice_bounds-restore_from-end-2 : goal.slice_bounds-restore_from-end-2
slice_bounds-restore_from-end-2 c = front_long _ _ c.requires (room_fits _ _ c.room-words.ensures)

pub slice_bounds-restore_from-end-3 : goal.slice_bounds-restore_from-end-3
slice_bounds-restore_from-end-3 c = front_count _ _ c.requires (room_fits _ _ c.room-words.ensures)

pub restore_from-requires : goal.restore_from-requires
restore_from-requires c = going_at _ _ _ _ c.take_head-t.ensures.bytes_bound (search rules) c.in_head-n.ensures.value (c.take_head-t.ensures.by_index _)

pub returns : goal.returns
returns c = let q = from_saved _ _ (lent_zeros _ _ _ c.requires c.room-words.ensures) _ _ _ c.restore_from.ensures.words_in_bounds c.restore_from.ensures.handed_from in record { handed = q.0; words_in_bounds = q.1 }
