-- The examples hold: the single claim about the rules.
use mathlib.Core.Path.{◌≡◌, refl}
use mathlib.Core.Bool.{true}
use mathlib.Core.List.{◌++◌}
use lib.Count.{count_trailing_zeros}
use Rattle.dlx.specs.Words.{extended_by, read_in, holds}
use Rattle.dlx.specs.Instructions.{register_type, part_type, instruction_of}
use Rattle.dlx.specs.Fields.{field as word_field, put, width, brought, placed}
use Rattle.dlx.specs.Processor.{special_of, with_special, with_count}
use Rattle.dlx.specs.Interrupts.{level_of, interrupted}
use Rattle.dlx.specs.Timer.{ticked, raised}
use Rattle.dlx.specs.Execute.{written, value_of, overflows_of, operated, reached, loads, stores, moved_to, trap_of, effect_of}
use Rattle.dlx.specs.Machine.{executed, fetched, loaded, stored, accessed, received, after_read, after_write, left, handled, changed, settled, retabled, step, request_of, asked}
use Rattle.addresses.specs.Entries.{judged}
use Rattle.addresses.specs.Walk.{walked, direct}
use Rattle.addresses.specs.Memory.{hosted, given, filled, looked, served, host_read, emptied, host_written, host_reads, host_writes}
use Rattle.dlx.specs.Parts.{inner, outer}
use Rattle.house.specs.Lists.{list_from}
use Rattle.house.specs.Boot.{offset, laid, booted_house}
use Rattle.tickets.specs.Queues.{sending, taking, desk}
use Rattle.house.specs.Turns.{next_from, turn_of, request_now, reply_now, queues_next, guest_step, settled_house, step_with, host_step, host_steps}
use Rattle.decimal.specs.Decimals.{decimal_in, decimal}
use Rattle.decimal.specs.Texts.{ascii, same}
use Rattle.decimal.specs.Examples.{all}
use Rattle.report.specs.Report.{field, line, header, line_of, lines_from, report_of, refused_text}
use Rattle.report.specs.Examples.{refusals, first, eight, by_hand, reports}

pub checked : all (refusals ++ reports) ≡ true
unfolding all same refusals first eight by_hand reports ascii decimal_in decimal field line header line_of lines_from report_of refused_text host_steps host_step step_with settled_house guest_step request_now reply_now queues_next desk sending taking asked request_of turn_of next_from booted_house laid offset list_from inner outer judged walked direct hosted given filled looked served host_read emptied host_written host_reads host_writes step fetched executed loaded stored accessed received after_read after_write left handled changed settled ticked raised retabled instruction_of register_type part_type word_field put width brought placed effect_of written value_of overflows_of operated reached loads stores moved_to trap_of special_of with_special with_count interrupted level_of count_trailing_zeros extended_by read_in holds
checked = refl
