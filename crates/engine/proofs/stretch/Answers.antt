use Rattle.tickets.specs.Queues.{queues}
use Rattle.engine.proofs.Leads.{list_long, stretched_is}
use Rattle.std.proofs.Common.{refl}
use Rattle.engine.proofs.stretch.Goals as goal

pub fill-requires : goal.fill-requires
fill-requires c = refl

pub turn-s-requires : goal.turn-s-requires
turn-s-requires c = record { lengths = (list_long _ _ _ _ c.fill.ensures, c.requires.regs_length); placed = c.requires.placed; shadowed = c.requires.shadowed; seated = c.requires.seated }

pub processor_of-requires : goal.processor_of-requires
processor_of-requires c = c.turn-s.ensures.state_length

pub table_of-requires : goal.table_of-requires
table_of-requires c = c.turn-s.ensures.state_length

pub timer_of-requires : goal.timer_of-requires
timer_of-requires c = c.turn-s.ensures.state_length

pub returns : goal.returns
returns c = stretched_is c.args.frames.now c.args.pages c.args.count c.args.i _ _ _ _ _ _ _ _ _ _ _ _ _ _ _ _ _ _ (queues c.args.tickets.now c.args.waiting.now) _ c.fill.ensures c.processor_of.ensures c.table_of.ensures c.timer_of.ensures c.turn-s.ensures.turned
