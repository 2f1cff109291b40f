-- The examples hold: the single claim about the rules.
use mathlib.Core.Path.{◌≡◌, refl}
use mathlib.Core.Bool.{true}
use mathlib.Core.List.{◌++◌}
use lib.Count.{count_trailing_zeros}
use Rattle.dlx.specs.Interrupts.{level_of}
use Rattle.house.specs.Boot.{offset, laid, booted_house}
use Rattle.house.specs.Lists.{list_from}
use Rattle.decimal.specs.Decimals.{decimal_in, decimal}
use Rattle.decimal.specs.Texts.{ascii, same, joined}
use Rattle.decimal.specs.Examples.{all}
use Rattle.report.specs.Report.{field, line, refused_text}
use Rattle.look.specs.Look.{named, cause_of, fault_of, state_of, mode_of, head_of, interrupt_of, fault_line_of, saved_of, specials_of, register_of, registers_from, block_of, turn_of, look_of, printed}
use Rattle.look.specs.Examples.{interrupts, guest, pair, lines}

pub checked : all (interrupts ++ lines) ≡ true
unfolding all same interrupts guest pair lines ascii joined decimal_in decimal field line refused_text level_of count_trailing_zeros booted_house laid offset list_from named cause_of fault_of state_of mode_of head_of interrupt_of fault_line_of saved_of specials_of register_of registers_from block_of turn_of look_of printed
checked = refl
