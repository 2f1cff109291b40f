use Rattle.std.proofs.Common.{◌*◌}
use Rattle.decimal.specs.Texts.{Puts, joined}
use Rattle.saver.specs.Heads.{guest_record}
use Rattle.saver.proofs.head.put_guests.Given as goal

abbrev pub invariant-loop-k : goal.invariant-loop-k
invariant-loop-k l = Puts l.initial.out l.at l.out l.end (joined (guest_record l.parts l.running l.regs l.frames) l.k) (1230 * l.k)
