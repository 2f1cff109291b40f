use Rattle.engine.proofs.Leads.{advanced}
use Rattle.engine.proofs.advance.Goals as goal

pub processor_of-requires : goal.processor_of-requires
processor_of-requires c = c.requires

pub table_of-t-requires : goal.table_of-t-requires
table_of-t-requires c = c.requires

pub timer_of-requires : goal.timer_of-requires
timer_of-requires c = c.requires

pub fill-requires : goal.fill-requires
fill-requires c = c.requires

pub returns : goal.returns
returns c = advanced _ _ _ _ _ _ _ _ _ c.processor_of.ensures c.at-p.ensures c.table_of-t.ensures c.timer_of.ensures _ c.sink-k.ensures c.fill.ensures
