-- What the engine's answers stand for, with the arrays beside them.
use Rattle.std.specs.Prelude.{ℕ, List}
use Rattle.dlx.specs.Machine.{Outcome, outcome, core, Stretch}
use Rattle.tickets.specs.Queues.{Queues}
use Rattle.unshadowed.specs.Memory.{Unshadowed, unshadowed}
use Rattle.unshadowed.specs.declared.Stepped.{Stepped}
use Rattle.unshadowed.specs.declared.Stretched.{Stretched}

-- a step's answer, with the registers, the latest fault, the host's words and the queues at exit
abbrev pub step_of : Stepped → List ℕ → ℕ → List ℕ → Queues → (Outcome × Unshadowed) × Queues
step_of r regs latest words q = ((outcome (core r.processor regs latest r.timer) r.calls, unshadowed r.table words), q)

-- a stretch's
abbrev pub stretch_of : Stretched → List ℕ → ℕ → List ℕ → Queues → Stretch Unshadowed Queues
stretch_of r regs latest words q = record {
  made = r.made;
  called = r.called;
  core = core r.processor regs latest r.timer;
  memory = unshadowed r.table words;
  desk = q;
}
