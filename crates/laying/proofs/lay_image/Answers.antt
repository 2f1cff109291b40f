use Rattle.std.proofs.Common.{◌≤◌, length, ◌∙◌, arith, rules}
use Rattle.house.proofs.Boot.Offsets.{offset_in}
use Rattle.laying.proofs.Words.{image_laid}
use Rattle.laying.proofs.lay_image.Goals as goal

-- src/lib.rt:125:9
pub offset_of-from-requires : goal.offset_of-from-requires
offset_of-from-requires c = c.requires.pages

-- src/lib.rt:126:14
pub overflow_add-to : goal.overflow_add-to
overflow_add-to c = omega (arith, c.wide.ensures, c.pages_of.ensures, c.offset_of-from.ensures, c.requires.lists, offset_in c.args.pages.now c.args.owner)

-- src/lib.rt:128:9
pub offset_bounds-frames-from : goal.offset_bounds-frames-from
offset_bounds-frames-from c = let l : c.offset_of-from.result ≤ length c.args.frames.now = omega (arith, c.offset_of-from.ensures, c.requires.lists, offset_in c.args.pages.now c.args.owner) in search (rules, l)

-- src/lib.rt:128:9
pub slice_bounds-lay-end : goal.slice_bounds-lay-end
slice_bounds-lay-end c = omega (arith, c.wide.ensures, c.pages_of.ensures, c.offset_of-from.ensures, c.requires.lists, offset_in c.args.pages.now c.args.owner)

-- src/lib.rt:128:5
pub lay-requires : goal.lay-requires
lay-requires c = omega (arith, c.wide-first.ensures)

-- src/lib.rt:113:1
pub returns : goal.returns
returns c = let a = c.args in record { memory_after = c.lay.ensures.memory_after ∙ image_laid a.pages.now a.frames.now a.owner a.address a.bytes.now a.memory.now _ _ _ _ c.offset_of-from.ensures c.pages_of.ensures c.wide.ensures c.wide-first.ensures; value = c.lay.ensures.value }
