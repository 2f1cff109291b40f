use mathlib.Core.Path.{sym, ◌∙◌}
use native.Mathlib.Omega.{arith}
use borrow.Author.Rules.{rules}
use Rattle.night_run.proofs.Pieces.{going_at}
use Rattle.night_run.proofs.Files.{either_saved, either_house, lent_zeros, front_long, front_count, room_fits, zeros}
use Rattle.night_run.specs.Ran.{held_of}
use Rattle.night_run.proofs.hold_in.Goals as goal

pub slice_bounds-head-end : goal.slice_bounds-head-end
slice_bounds-head-end c = c.in_head-n.ensures.prefix_len.0

pub slice_bounds-is_saved-end : goal.slice_bounds-is_saved-end
slice_bounds-is_saved-end c = c.in_head-n.ensures.prefix_len.1

pub slice_bounds-head-end-then-is_saved : goal.slice_bounds-head-end-then-is_saved
slice_bounds-head-end-then-is_saved c = c.in_head-n.ensures.prefix_len.0

pub slice_bounds-room-end : goal.slice_bounds-room-end
slice_bounds-room-end c = c.in_head-n.ensures.prefix_len.1

pub slice_bounds-head-end-then-is_saved-2 : goal.slice_bounds-head-end-then-is_saved-2
slice_bounds-head-end-then-is_saved-2 c = c.in_head-n.ensures.prefix_len.0

pub slice_bounds-restore_from-end : goal.slice_bounds-restore_from-end
slice_bounds-restore_from-end c = c.in_head-n.ensures.prefix_len.1

pub slice_bounds-restore_from-end-then-is_saved : goal.slice_bounds-restore_from-end-then-is_saved
slice_bounds-restore_from-end-then-is_saved c = front_long _ _ c.requires (room_fits _ _ c.room-words.ensures)

pub slice_bounds-restore_from-end-then-is_saved-2 : goal.slice_bounds-restore_from-end-then-is_saved-2
slice_bounds-restore_from-end-then-is_saved-2 c = front_count _ _ c.requires (room_fits _ _ c.room-words.ensures)

pub restore_from-requires : goal.restore_from-requires
restore_from-requires c = going_at _ _ _ _ c.take_head-t.ensures.bytes_bound (search rules) c.in_head-n.ensures.value (c.take_head-t.ensures.by_index _)

pub returns-then-is_saved : goal.returns-then-is_saved
returns-then-is_saved c = let q = either_saved _ _ (lent_zeros _ _ _ c.requires c.room-words.ensures) held_of _ _ _ (sym c.is_saved.ensures ∙ c.if-is_saved.true) c.restore_from.ensures.words_in_bounds c.restore_from.ensures.handed_from in record { handed = q.0; words_in_bounds = q.1 }

pub slice_bounds-head-end-2 : goal.slice_bounds-head-end-2
slice_bounds-head-end-2 c = c.in_head-n.ensures.prefix_len.0

pub slice_bounds-hold_from-end : goal.slice_bounds-hold_from-end
slice_bounds-hold_from-end c = c.in_head-n.ensures.prefix_len.1

pub slice_bounds-hold_from-end-2 : goal.slice_bounds-hold_from-end-2
slice_bounds-hold_from-end-2 c = front_long 16384 _ c.requires (omega arith)

pub slice_bounds-hold_from-end-3 : goal.slice_bounds-hold_from-end-3
slice_bounds-hold_from-end-3 c = front_count 16384 _ c.requires (omega arith)

pub hold_from-requires : goal.hold_from-requires
hold_from-requires c = record { going = going_at _ _ _ _ c.take_head-t.ensures.bytes_bound (search rules) c.in_head-n.ensures.value (c.take_head-t.ensures.by_index _); memory_zeros = zeros 16384 _ c.requires (omega arith) }

pub returns : goal.returns
returns c = let q = either_house held_of _ _ _ _ (sym c.is_saved.ensures ∙ c.if-is_saved.false) c.hold_from.ensures.words_in_bounds c.hold_from.ensures.handed_from in record { handed = q.0; words_in_bounds = q.1 }
