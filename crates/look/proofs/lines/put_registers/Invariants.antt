use Rattle.std.proofs.Common.{◌+◌, ◌*◌, get_or}
use Rattle.decimal.specs.Texts.{Puts, joined}
use Rattle.look.specs.Look.{register_of}
use Rattle.look.proofs.lines.put_registers.Given as goal

abbrev pub invariant-loop-j : goal.invariant-loop-j
invariant-loop-j l = Puts l.initial.out l.at l.out l.end (joined (λ k. register_of k (get_or l.regs (l.i * 32 + k) 0)) l.j) (46 * l.j)
