use Rattle.std.proofs.Common.{◌*◌, get_or}
use Rattle.decimal.specs.Texts.{Puts, joined}
use Rattle.drill_text.specs.Numbers.{number_of}
use Rattle.drill_text.proofs.numbers.numbers.Given as goal

abbrev pub invariant-loop-w : goal.invariant-loop-w
invariant-loop-w l = Puts l.initial.text l.used l.text l.end (joined (λ k. number_of (get_or l.words k 0)) l.w-index) (21 * l.w-index)
