use Rattle.std.proofs.Common.{◌*◌, get_or}
use Rattle.decimal.specs.Texts.{Puts, joined}
use Rattle.drill_text.specs.Partitions.{entry_of}
use Rattle.drill_text.proofs.partitions.entries.Given as goal

abbrev pub invariant-loop-px : goal.invariant-loop-px
invariant-loop-px l = Puts l.initial.text l.used l.text l.end (joined (λ k. entry_of k (get_or l.shadow k 0)) l.px) (42 * l.px)
