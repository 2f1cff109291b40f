use Rattle.engine.proofs.Leads.{returning, trapping}
use Rattle.std.proofs.Common.{refl, true≢false, arith}
use mathlib.Core.Bool.{false≢true}
use Rattle.engine.proofs.event.Goals as goal

pub processor_of-p-requires : goal.processor_of-p-requires
processor_of-p-requires c = c.requires.s_length

pub table_of-t-requires : goal.table_of-t-requires
table_of-t-requires c = c.requires.s_length

pub returns-then-p-eq1 : goal.returns-then-p-eq1
returns-then-p-eq1 c = (λ e. absurd (false≢true e), λ _. refl)

pub timer_of-requires : goal.timer_of-requires
timer_of-requires c = c.requires.s_length

pub fill-requires : goal.fill-requires
fill-requires c = c.requires.s_length

pub returns-then-opcode-eq63 : goal.returns-then-opcode-eq63
returns-then-opcode-eq63 c = (λ _. returning _ _ _ _ _ _ _ _ c.processor_of-p.ensures c.table_of-t.ensures c.timer_of.ensures c.sink-k.ensures c.return_from_exception-e.ensures c.fill.ensures c.requires.no_zero_reached c.if-opcode-eq63.true c.if-p-eq1.false, λ e. absurd (true≢false e))

pub extend-imm-requires : goal.extend-imm-requires
extend-imm-requires c = (25, omega arith, refl)

pub timer_of-requires-then-p-eq1-2 : goal.timer_of-requires-then-p-eq1-2
timer_of-requires-then-p-eq1-2 c = c.requires.s_length

pub fill-requires-then-p-eq1-2 : goal.fill-requires-then-p-eq1-2
fill-requires-then-p-eq1-2 c = c.requires.s_length

pub returns-then-p-eq1-2 : goal.returns-then-p-eq1-2
returns-then-p-eq1-2 c = (λ _. trapping _ _ _ _ _ _ _ _ c.processor_of-p.ensures c.table_of-t.ensures c.timer_of-then-p-eq1-2.ensures c.sink-k-then-p-eq1-2.ensures _ c.extend-imm.ensures c.interrupt-e.ensures c.fill-then-p-eq1-2.ensures c.requires.no_zero_reached c.if-opcode-eq62.true c.if-p-eq1-2.true, λ e. absurd (true≢false e))

pub returns-then-opcode-eq62 : goal.returns-then-opcode-eq62
returns-then-opcode-eq62 c = (λ e. absurd (false≢true e), λ _. refl)

pub returns : goal.returns
returns c = (λ e. absurd (false≢true e), λ _. refl)
