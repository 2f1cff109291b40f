use Rattle.std.proofs.Common.{sym, ◌∙◌, arith, length-take-le}
use Rattle.restore.specs.Standing.{progress_at}
use Rattle.restore.proofs.Settled.{known, room_held, may_held, settled_held}
use Rattle.restore.proofs.Whole.{held_sized}
use Rattle.restore.proofs.records.settle.Goals as goal

pub unwrap-kind-requires : goal.unwrap-kind-requires
unwrap-kind-requires c = known c.of.result (progress_at c.args.r c.args.house c.args.memory.now) c.args.held.now c.pair.result c.requires.held_length c.requires.may_come c.pair.ensures.value c.of.ensures

pub words_of-requires : goal.words_of-requires
words_of-requires c =
    let k = rw c.unwrap-kind.ensures at c.of.ensures ∙ c.pair.ensures.value in
    let q = room_held (progress_at c.args.r c.args.house c.args.memory.now) c.args.held.now c.requires.held_length c.requires.may_come _ _ _ c.word-size.ensures k c.wide-n.ensures in
    record { held_room = omega (arith, q, c.requires.held_length); words_room = omega (arith, q) }

pub slice_bounds-words-end : goal.slice_bounds-words-end
slice_bounds-words-end c =
    let k = rw c.unwrap-kind.ensures at c.of.ensures ∙ c.pair.ensures.value in
    let q = room_held (progress_at c.args.r c.args.house c.args.memory.now) c.args.held.now c.requires.held_length c.requires.may_come _ _ _ c.word-size.ensures k c.wide-n.ensures in
    omega (arith, q, c.words_of.auto.words)

pub slice_bounds-settle_record-end : goal.slice_bounds-settle_record-end
slice_bounds-settle_record-end c =
    let k = rw c.unwrap-kind.ensures at c.of.ensures ∙ c.pair.ensures.value in
    let q = room_held (progress_at c.args.r c.args.house c.args.memory.now) c.args.held.now c.requires.held_length c.requires.may_come _ _ _ c.word-size.ensures k c.wide-n.ensures in
    sym (length-take-le c.wide-n.result c.words_of.new.words (omega (arith, q, c.words_of.auto.words)))

pub settle_record-requires : goal.settle_record-requires
settle_record-requires c =
    let p = progress_at c.args.r c.args.house c.args.memory.now in
    let k = rw c.unwrap-kind.ensures at c.of.ensures ∙ c.pair.ensures.value in
    let q = room_held p c.args.held.now c.requires.held_length c.requires.may_come _ _ _ c.word-size.ensures k c.wide-n.ensures in
    let e = length-take-le c.wide-n.result c.words_of.new.words (omega (arith, q, c.words_of.auto.words)) in
    record { may_come = rw e (may_held p c.args.held.now c.requires.held_length c.requires.may_come _ _ _ c.word-size.ensures k c.wide-n.ensures); sized = c.requires.sized }

pub returns : goal.returns
returns c =
    let p = progress_at c.args.r c.args.house c.args.memory.now in
    let k = rw c.unwrap-kind.ensures at c.of.ensures ∙ c.pair.ensures.value in
    let e = settled_held p c.args.held.now c.requires.held_length c.requires.may_come _ _ _ c.word-size.ensures k c.wide-n.ensures _ _ c.settle_record.ensures.memory_after c.words_of.ensures in
    record { memory_after = e; held_value = c.settle_record.ensures.held_value; sized = held_sized p _ c.args.held.now c.requires.may_come c.requires.sized e }
