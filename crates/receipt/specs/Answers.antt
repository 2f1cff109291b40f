-- What a take's answer stands for, with the registers and the queues beside it, and a send's.
use Rattle.std.specs.Prelude.{List, ℕ}
use Rattle.dlx.specs.Machine.{Reply, received}
use Rattle.tickets.specs.Queues.{Queues}

-- the registers with the ticket, the code, and the queues after it
abbrev pub received_of : List ℕ → Reply × Queues → (List ℕ × ℕ) × Queues
received_of regs g = ((received regs g.0, g.0.code), g.1)

-- a send's: the code, and the queues after it
abbrev pub sent_of : Reply × Queues → ℕ × Queues
sent_of g = (g.0.code, g.1)
