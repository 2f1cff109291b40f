use Rattle.std.proofs.Common.{arith}
use Rattle.house.specs.Turns.{world}
use Rattle.house.proofs.Damage.Undamaged.{count_within, sound_partition}
use Rattle.house.proofs.Calls.Verdicts.{read_done}
use Rattle.hypervisor.proofs.Read.{lent_placed, within_pages, read_words}
use Rattle.hypervisor.proofs.Refusals.{shaped}
use Rattle.hypervisor.proofs.single.read_pages.Goals as goal

pub slice_bounds-read-end : goal.slice_bounds-read-end
slice_bounds-read-end c = let a = c.args in
    let d = read_done (world a.h a.memory.now) a.i a.address a.count a.out.now c.requires in
    let l = (shaped a.h c.well_formed.0).frames in
    omega (arith, c.wide-a.ensures, d.there, (count_within a.h d.whole).1, l)

pub pages_of-requires : goal.pages_of-requires
pages_of-requires c = let a = c.args in
    let d = read_done (world a.h a.memory.now) a.i a.address a.count a.out.now c.requires in
    omega (arith, d.there, (count_within a.h d.whole).1)

pub read-requires : goal.read-requires
read-requires c = let a = c.args in
    let d = read_done (world a.h a.memory.now) a.i a.address a.count a.out.now c.requires in
    let s = sound_partition a.h d.whole a.memory.now (shaped a.h c.well_formed.0) d.size a.i d.there in record { placed = lent_placed a.h _ a.i _ _ c.wide-a.ensures c.pages_of.ensures s.placed; count_bound = within_pages a.h a.memory.now a.i a.address a.count a.out.now d _ _ c.pages_of.ensures c.wide.ensures; out_room = d.room }

pub returns : goal.returns
returns c = let a = c.args in
    read_words a.h a.memory.now a.i a.address a.count a.out.now (read_done (world a.h a.memory.now) a.i a.address a.count a.out.now c.requires) _ _ _ c.wide-a.ensures c.wide.ensures c.read.ensures
