-- The examples hold: the single claim about the rules.
use mathlib.Core.Path.{◌≡◌, refl}
use mathlib.Core.Bool.{true}
use mathlib.Core.List.{◌++◌}
use lib.Count.{count_trailing_zeros}
use Rattle.dlx.specs.Words.{extended_by, read_in, holds}
use Rattle.dlx.specs.Instructions.{register_type, part_type, instruction_of}
use Rattle.dlx.specs.Fields.{field, put, width, brought, placed}
use Rattle.dlx.specs.Processor.{special_of, with_special, with_count}
use Rattle.dlx.specs.Interrupts.{level_of, interrupted}
use Rattle.dlx.specs.Timer.{ticked, raised}
use Rattle.dlx.specs.Execute.{written, value_of, overflows_of, operated, reached, loads, stores, moved_to, trap_of, effect_of}
use Rattle.dlx.specs.Machine.{executed, fetched, loaded, stored, accessed, received, after_read, after_write, left, handled, changed, settled, retabled, step, steps}
use Rattle.addresses.specs.Entries.{judged, composed}
use Rattle.addresses.specs.Walk.{walked, direct}
use Rattle.addresses.specs.Memory.{lone_found, lone_read, lone_written, hosted, given, stale, filled, looked, served, host_read, emptied, host_written, host_reads, host_writes}
use Rattle.dlx.specs.Examples.{same}
use Rattle.addresses.specs.Examples.{compositions, words_from, same_host, answer, told, gives, faults, refuses, writes, walks, hits, emptyings, stales, same_lone, lone_loads, lone_stores, alone, booted, stepped, once, system, user, numbers, leaves, goes_on, interrupt, fails, single, parts, struck, rings, ringing, all}

pub checked : all (compositions ++ (walks ++ (hits ++ (emptyings ++ (stales ++ (alone ++ (stepped ++ (single ++ (parts ++ ringing))))))))) ≡ true
unfolding all same compositions walks hits emptyings stales alone stepped single parts struck rings ringing words_from same_host answer told gives faults refuses writes same_lone lone_loads lone_stores booted once system user numbers leaves goes_on interrupt fails judged composed walked direct lone_found lone_read lone_written hosted given stale filled looked served host_read emptied host_written host_reads host_writes step steps fetched executed loaded stored accessed received after_read after_write left handled changed settled ticked raised retabled instruction_of register_type part_type field put width brought placed effect_of written value_of overflows_of operated reached loads stores moved_to trap_of special_of with_special with_count interrupted level_of count_trailing_zeros extended_by read_in holds
checked = refl
