use Rattle.std.proofs.Common.{◌*◌}
use Rattle.decimal.specs.Texts.{Puts}
use Rattle.audit.specs.Printed.{lines_to}
use Rattle.audit.proofs.put_counts.Given as goal

abbrev pub invariant-loop-i : goal.invariant-loop-i
invariant-loop-i l = Puts l.initial.out l.at l.out l.end (lines_to l.each l.i) (22 * l.i)
