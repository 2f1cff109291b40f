use native.Mathlib.Omega.{arith}
use borrow.Author.Rules.{rules}
use Rattle.night_run.proofs.Pieces.{going_at}
use Rattle.night_run.proofs.Files.{from_house, front_long, front_count, zeros}
use Rattle.night_run.specs.Ran.{ran_by}
use Rattle.night_run.proofs.run_in.Goals as goal

pub slice_bounds-head-end : goal.slice_bounds-head-end
slice_bounds-head-end c = c.in_head-n.ensures.prefix_len.0

pub slice_bounds-boot_from-end : goal.slice_bounds-boot_from-end
slice_bounds-boot_from-end c = c.in_head-n.ensures.prefix_len.1

pub slice_bounds-boot_from-end-2 : goal.slice_bounds-boot_from-end-2
slice_bounds-boot_from-end-2 c = front_long 16384 _ c.requires (omega arith)

pub slice_bounds-boot_from-end-3 : goal.slice_bounds-boot_from-end-3
slice_bounds-boot_from-end-3 c = front_count 16384 _ c.requires (omega arith)

pub boot_from-requires : goal.boot_from-requires
boot_from-requires c = record { going = going_at _ _ _ _ c.take_head-t.ensures.bytes_bound (search rules) c.in_head-n.ensures.value (c.take_head-t.ensures.by_index _); memory_zeros = zeros 16384 _ c.requires (omega arith) }

pub returns : goal.returns
returns c = let q = from_house (ran_by _) _ _ _ _ c.boot_from.ensures.words_in_bounds c.boot_from.ensures.handed_from in record { handed = q.0; words_in_bounds = q.1 }
