use mathlib.Core.Path.{refl}
use Prim.Native.Nat.{◌+◌, ◌-◌, ◌≤◌}
use lib.ListN.{length, drop, length-take}
use native.Mathlib.Omega.{arith}
use borrow.Author.Rules.{rules}
use Rattle.decimal.proofs.Texts.{parts_begin, parts_on, parts_end}
use Rattle.house.specs.Boot.{offset}
use Rattle.house.proofs.Boot.Offsets.{offset_more, offset_in}
use Rattle.contents.specs.Contents.{list_record}
use Rattle.contents.proofs.Put.{list_put}
use Rattle.contents.proofs.put_lists.Goals as goal

-- src/lib.rt:27:5
pub loop-count-init : goal.loop-count-init
loop-count-init c = (parts_begin (list_record c.args.pages.now c.args.frames.now) 1030, unfold offset in refl, refl)

-- src/lib.rt:28:18
pub overflow_add-to : goal.overflow_add-to
overflow_add-to c = omega (arith, c.wide.ensures, c.loop-count.invariant.1, c.requires.pages c.loop-count.count-index, c.requires.lists, offset_in c.args.pages.now c.loop-count.count-index)

-- src/lib.rt:29:39
pub offset_bounds-frames-from : goal.offset_bounds-frames-from
offset_bounds-frames-from c = let l : c.loop-count.from ≤ length c.args.frames.now = omega (arith, c.loop-count.invariant.1, c.requires.lists, offset_in c.args.pages.now c.loop-count.count-index) in search (rules, l)

-- src/lib.rt:29:39
pub slice_bounds-put_record-end : goal.slice_bounds-put_record-end
slice_bounds-put_record-end c = omega (arith, c.wide.ensures, c.loop-count.invariant.1, c.requires.lists, offset_in c.args.pages.now c.loop-count.count-index)

-- src/lib.rt:29:9
pub put_record-end-requires : goal.put_record-end-requires
put_record-end-requires c = let from = c.loop-count.from in let to = from + c.wide.result in omega (arith, c.wide.ensures, c.requires.pages c.loop-count.count-index, length-take (to - from) (drop from c.args.frames.now))

-- src/lib.rt:27:5
pub loop-count-preserved : goal.loop-count-preserved
loop-count-preserved c =
    let a = c.args in
    let i = c.loop-count.count-index in
    let e = c.loop-count.invariant.1 in
    (parts_on (list_record a.pages.now a.frames.now) 1030 i c.loop-count.invariant.0 (list_put a.pages.now a.frames.now i _ (c.loop-count.from + c.wide.result) e (omega (arith, c.wide.ensures)) (c.requires.pages i) c.requires.lists c.put_record-end.ensures), omega (arith, e, c.wide.ensures, offset_more a.pages.now i), omega arith)

-- src/lib.rt:20:1
pub returns : goal.returns
returns c = parts_end (list_record c.args.pages.now c.args.frames.now) 1030 c.loop-count.count-index (length c.args.pages.now) (omega arith) c.loop-count-test.false c.loop-count.invariant.0
