-- The examples hold: the single claim about the rules.
use Rattle.std.proofs.Common.{◌≡◌, true, ◌++◌, refl}
use lib.Count.{count_trailing_zeros}
use Rattle.dlx.specs.Words.{extended_by, read_in, holds}
use Rattle.dlx.specs.Instructions.{register_type, part_type, instruction_of}
use Rattle.dlx.specs.Fields.{field, put, width, brought, placed}
use Rattle.dlx.specs.Processor.{special_of, with_special, with_count}
use Rattle.dlx.specs.Interrupts.{level_of, interrupted}
use Rattle.dlx.specs.Timer.{ticked, raised}
use Rattle.dlx.specs.Execute.{written, value_of, overflows_of, operated, reached, loads, stores, moved_to, trap_of, effect_of}
use Rattle.dlx.specs.Machine.{executed, fetched, loaded, stored, accessed, received, after_read, after_write, left, handled, changed, settled, retabled, step, steps, asked, request_of}
use Rattle.dlx.specs.Parts.{inner, outer}
use Rattle.dlx.specs.Examples.{same}
use Rattle.addresses.specs.Entries.{judged}
use Rattle.addresses.specs.Walk.{walked, direct}
use Rattle.addresses.specs.Memory.{hosted, given, filled, looked, served, host_read, emptied, host_written, host_reads, host_writes}
use Rattle.addresses.specs.Examples.{words_from, answer, told, numbers, all}
use Rattle.tickets.specs.Queues.{sending, taking, desk}
use Rattle.house.specs.Lists.{list_from}
use Rattle.house.specs.House.{fresh_shadows}
use Rattle.house.specs.Turns.{next_from, turn_of, request_now, reply_now, queues_next, guest_step, settled_house, step_with, host_step}
use Rattle.unshadowed.specs.Memory.{sought, sought_read, sought_written}
use Rattle.unshadowed.specs.Turns.{bare_request, bare_reply, bare_queues, bare_step, unshadowed_step, unshadowed_steps}
use Rattle.unshadowed.specs.Examples.{same_memory, gives, refuses, faults, writes, walks, chains, once, leaves, goes_on, fails, single, hosts}

pub checked : all (walks ++ (chains ++ (single ++ hosts))) ≡ true
unfolding all same walks chains single hosts words_from answer told numbers same_memory gives refuses faults writes once leaves goes_on fails sought sought_read sought_written bare_request bare_reply bare_queues bare_step unshadowed_step unshadowed_steps fresh_shadows inner outer list_from next_from turn_of request_now reply_now queues_next guest_step settled_house step_with host_step desk sending taking asked request_of judged walked direct hosted given filled looked served host_read emptied host_written host_reads host_writes step steps fetched executed loaded stored accessed received after_read after_write left handled changed settled ticked raised retabled instruction_of register_type part_type field put width brought placed effect_of written value_of overflows_of operated reached loads stores moved_to trap_of special_of with_special with_count interrupted level_of count_trailing_zeros extended_by read_in holds
checked = refl
