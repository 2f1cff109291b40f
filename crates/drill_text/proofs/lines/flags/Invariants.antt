use Rattle.std.proofs.Common.{◌*◌, false, get_or}
use Rattle.dlx.specs.Choice.{when◌then◌else◌}
use Rattle.decimal.specs.Texts.{Puts, joined}
use Rattle.drill_text.specs.Numbers.{number_of}
use Rattle.drill_text.proofs.lines.flags.Given as goal

abbrev pub invariant-loop-r : goal.invariant-loop-r
invariant-loop-r l = Puts l.initial.text l.used l.text l.end (joined (λ k. number_of (when get_or l.running k false then 1 else 0)) l.r-index) (21 * l.r-index)
