use Rattle.engine.proofs.Leads.{still, falls, fires, masked}
use Rattle.engine.proofs.arrive.Goals as goal

pub processor_of-requires : goal.processor_of-requires
processor_of-requires c = c.requires.s_length

pub table_of-t-requires : goal.table_of-t-requires
table_of-t-requires c = c.requires.s_length

pub timer_of-k-requires : goal.timer_of-k-requires
timer_of-k-requires c = c.requires.s_length

pub fill-requires : goal.fill-requires
fill-requires c = c.requires.s_length

pub returns-then-k-eq0 : goal.returns-then-k-eq0
returns-then-k-eq0 c = still _ _ _ _ _ _ _ _ _ c.processor_of.ensures c.at-p.ensures c.table_of-t.ensures c.timer_of-k.ensures c.if-k-eq0.true c.fill.ensures

pub fill-requires-then-made-k : goal.fill-requires-then-made-k
fill-requires-then-made-k c = c.requires.s_length

pub returns-then-made-k : goal.returns-then-made-k
returns-then-made-k c = falls _ _ _ _ _ _ _ _ _ c.processor_of.ensures c.at-p.ensures c.table_of-t.ensures c.timer_of-k.ensures c.requires.fits.0 c.if-made-k.true _ c.sink.ensures c.fill-then-made-k.ensures

pub fill-requires-then-p-eq1 : goal.fill-requires-then-p-eq1
fill-requires-then-p-eq1 c = c.requires.s_length

pub returns-then-p-eq1 : goal.returns-then-p-eq1
returns-then-p-eq1 c = fires _ _ _ _ _ _ _ _ _ c.processor_of.ensures c.at-p.ensures c.table_of-t.ensures c.timer_of-k.ensures c.requires.fits c.if-k-eq0.false c.if-made-k.false c.if-p-eq1.true _ c.interrupt-e.ensures c.fill-then-p-eq1.ensures

pub fill-requires-2 : goal.fill-requires-2
fill-requires-2 c = c.requires.s_length

pub returns : goal.returns
returns c = masked _ _ _ _ _ _ _ _ _ c.processor_of.ensures c.at-p.ensures c.table_of-t.ensures c.timer_of-k.ensures c.requires.fits c.if-k-eq0.false c.if-made-k.false c.if-p-eq1.false c.fill-2.ensures
