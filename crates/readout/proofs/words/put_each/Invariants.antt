use Rattle.std.proofs.Common.{◌+◌, ◌*◌, get_or}
use Rattle.decimal.specs.Texts.{Puts, joined}
use Rattle.readout.specs.Printed.{word_text}
use Rattle.readout.proofs.words.put_each.Given as goal

abbrev pub invariant-loop-w : goal.invariant-loop-w
invariant-loop-w l = Puts l.initial.out 0 l.out l.end (joined (λ k. word_text l.want (get_or l.words (l.from + k) 0)) l.w-index) (12 * l.w-index)
