use Rattle.laying.proofs.Meeting.{fault_part, fault_beyond, fault_meets, fault_none, room_there}
use Rattle.laying.proofs.fault_of.Goals as goal

-- src/lib.rt:205:9
pub returns-then-size-ne0 : goal.returns-then-size-ne0
returns-then-size-ne0 c = let a = c.args in fault_part a.pages.now a.table.now a.counts.now a.k a.size c.if-size-ne0.true

-- src/lib.rt:210:9
pub returns-then-beyond : goal.returns-then-beyond
returns-then-beyond c = let a = c.args in fault_beyond a.pages.now a.table.now a.counts.now a.k a.size c.if-size-ne0.false c.beyond.result (room_there a.pages.now a.table.now a.k a.size c.wide-at.result c.pages_of-room.result c.wide-at.ensures c.pages_of-room.ensures c.beyond.ensures) c.if-beyond.true

-- src/lib.rt:213:9
pub returns-then-meets_any : goal.returns-then-meets_any
returns-then-meets_any c = let a = c.args in fault_meets a.pages.now a.table.now a.counts.now a.k a.size c.if-size-ne0.false c.beyond.result (room_there a.pages.now a.table.now a.k a.size c.wide-at.result c.pages_of-room.result c.wide-at.ensures c.pages_of-room.ensures c.beyond.ensures) c.if-beyond.false c.meets_any.result c.meets_any.ensures c.if-meets_any.true

-- src/lib.rt:200:1
pub returns : goal.returns
returns c = let a = c.args in fault_none a.pages.now a.table.now a.counts.now a.k a.size c.if-size-ne0.false c.beyond.result (room_there a.pages.now a.table.now a.k a.size c.wide-at.result c.pages_of-room.result c.wide-at.ensures c.pages_of-room.ensures c.beyond.ensures) c.if-beyond.false c.meets_any.result c.meets_any.ensures c.if-meets_any.false
