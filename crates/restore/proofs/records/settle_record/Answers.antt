use Rattle.std.proofs.Common.{◌-◌, length, drop, refl, ap, arith, length-drop, length-take}
use Rattle.restore.specs.Standing.{number_of, progress_at}
use Rattle.restore.proofs.Settled.{fits_all, fits_5, fits_6, fits_7, fits_3, set_5, set_6, set_7, set_3, set_4, wrong_6, wrong_3}
use Rattle.restore.proofs.records.settle_record.Goals as goal

pub behind-requires : goal.behind-requires
behind-requires c = fits_all (progress_at c.args.r c.args.house c.args.memory.now) (number_of c.args.kind) (length c.args.words.now) c.requires.may_come

pub turned-house-requires : goal.turned-house-requires
turned-house-requires c = fits_5 (progress_at c.args.r c.args.house c.args.memory.now) (number_of c.args.kind) (length c.args.words.now) c.requires.may_come (ap number_of c.in-Turn.is)

pub returns-in-Turn : goal.returns-in-Turn
returns-in-Turn c = record { memory_after = set_5 c.args.r c.args.house c.args.memory.now c.args.words.now (number_of c.args.kind) _ c.behind.ensures (ap number_of c.in-Turn.is) _ _ c.turned-house.ensures c.other_size-refusal.ensures; held_value = refl }

pub bounds-words-47 : goal.bounds-words-47
bounds-words-47 c = let f = fits_6 (progress_at c.args.r c.args.house c.args.memory.now) (number_of c.args.kind) (length c.args.words.now) c.requires.may_come (ap number_of c.in-Guest.is) in omega (arith, f.1)

pub returns-then-words-gt1 : goal.returns-then-words-gt1
returns-then-words-gt1 c = let q = wrong_6 c.args.r _ c.args.house c.args.memory.now c.args.words.now (number_of c.args.kind) c.wrong-reader.ensures (ap number_of c.in-Guest.is) c.if-words-gt1.true in record { memory_after = q.0; held_value = q.1 }

pub with_guest-house-requires : goal.with_guest-house-requires
with_guest-house-requires c = let f = fits_6 (progress_at c.args.r c.args.house c.args.memory.now) (number_of c.args.kind) (length c.args.words.now) c.requires.may_come (ap number_of c.in-Guest.is) in record { count_bound = f.0; words_room = f.1; words_length = f.2 }

pub returns-else-words-gt1 : goal.returns-else-words-gt1
returns-else-words-gt1 c = record { memory_after = set_6 c.args.r c.args.house c.args.memory.now c.args.words.now (number_of c.args.kind) _ c.behind.ensures (ap number_of c.in-Guest.is) _ c.with_guest-house.ensures c.if-words-gt1.false; held_value = refl }

pub with_tickets-house-requires : goal.with_tickets-house-requires
with_tickets-house-requires c = let f = fits_7 (progress_at c.args.r c.args.house c.args.memory.now) (number_of c.args.kind) (length c.args.words.now) c.requires.may_come (ap number_of c.in-Tickets.is) in record { j_bound = omega (arith, f.0, c.wide.ensures); words_length = f.1 }

pub overflow_add-reader : goal.overflow_add-reader
overflow_add-reader c = let f = fits_7 (progress_at c.args.r c.args.house c.args.memory.now) (number_of c.args.kind) (length c.args.words.now) c.requires.may_come (ap number_of c.in-Tickets.is) in omega (arith, f.0)

pub returns-in-Tickets : goal.returns-in-Tickets
returns-in-Tickets c = record { memory_after = set_7 c.args.r c.args.house c.args.memory.now c.args.words.now (number_of c.args.kind) _ c.behind.ensures (ap number_of c.in-Tickets.is) _ _ c.wide.ensures c.with_tickets-house.ensures; held_value = refl }

pub bounds-words-0 : goal.bounds-words-0
bounds-words-0 c = let f = fits_3 (progress_at c.args.r c.args.house c.args.memory.now) (number_of c.args.kind) (length c.args.words.now) c.requires.may_come (ap number_of c.in-Frame.is) in omega (arith, f.2)

pub returns-then-words-r : goal.returns-then-words-r
returns-then-words-r c = let q = wrong_3 c.args.r _ c.args.house c.args.memory.now c.args.words.now (number_of c.args.kind) c.wrong-reader-then-words-r.ensures (ap number_of c.in-Frame.is) c.if-words-r.true in record { memory_after = q.0; held_value = q.1 }

pub overflow_mul-wide : goal.overflow_mul-wide
overflow_mul-wide c = let f = fits_3 (progress_at c.args.r c.args.house c.args.memory.now) (number_of c.args.kind) (length c.args.words.now) c.requires.may_come (ap number_of c.in-Frame.is) in omega (arith, f.1, f.2, c.wide-in-Frame.ensures)

pub slice_bounds-put_part-count : goal.slice_bounds-put_part-count
slice_bounds-put_part-count c = let f = fits_3 (progress_at c.args.r c.args.house c.args.memory.now) (number_of c.args.kind) (length c.args.words.now) c.requires.may_come (ap number_of c.in-Frame.is) in omega (arith, f.1, f.2, c.wide-in-Frame.ensures)

pub slice_bounds-put_part-start : goal.slice_bounds-put_part-start
slice_bounds-put_part-start c = let f = fits_3 (progress_at c.args.r c.args.house c.args.memory.now) (number_of c.args.kind) (length c.args.words.now) c.requires.may_come (ap number_of c.in-Frame.is) in omega (arith, f.1, f.2, c.wide-in-Frame.ensures)

pub slice_bounds-put_part-end : goal.slice_bounds-put_part-end
slice_bounds-put_part-end c = let f = fits_3 (progress_at c.args.r c.args.house c.args.memory.now) (number_of c.args.kind) (length c.args.words.now) c.requires.may_come (ap number_of c.in-Frame.is) in omega (arith, f.1, f.2, c.wide-in-Frame.ensures)

pub put_part-requires : goal.put_part-requires
put_part-requires c = let f = fits_3 (progress_at c.args.r c.args.house c.args.memory.now) (number_of c.args.kind) (length c.args.words.now) c.requires.may_come (ap number_of c.in-Frame.is) in let w = c.args.words.now in record { list_room = omega (arith, f.1, c.requires.sized f.0, c.wide-in-Frame.ensures); words_length = omega (arith, f.2, length-take (length w - 1) (drop 1 w), length-drop 1 w) }

pub overflow_add-reader-in-Frame : goal.overflow_add-reader-in-Frame
overflow_add-reader-in-Frame c = let f = fits_3 (progress_at c.args.r c.args.house c.args.memory.now) (number_of c.args.kind) (length c.args.words.now) c.requires.may_come (ap number_of c.in-Frame.is) in omega (arith, f.1)

pub returns-else-words-r : goal.returns-else-words-r
returns-else-words-r c = let f = fits_3 (progress_at c.args.r c.args.house c.args.memory.now) (number_of c.args.kind) (length c.args.words.now) c.requires.may_come (ap number_of c.in-Frame.is) in record { memory_after = set_3 c.args.r c.args.house c.args.memory.now c.args.words.now (number_of c.args.kind) _ c.behind.ensures (ap number_of c.in-Frame.is) _ _ c.wide-in-Frame.ensures f.2 c.if-words-r.false c.put_part.ensures; held_value = refl }

pub returns-in-End : goal.returns-in-End
returns-in-End c = record { memory_after = set_4 c.args.r c.args.house c.args.memory.now c.args.words.now (number_of c.args.kind) _ c.behind.ensures (ap number_of c.in-End.is); held_value = refl }
