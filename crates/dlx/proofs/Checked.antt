-- The examples hold: the single claim about the rules.
use mathlib.Core.Path.{◌≡◌, refl}
use mathlib.Core.Bool.{Bool, true, false}
use mathlib.Core.List.{List, [], ◌∷◌, ◌++◌}
use Prim.Native.Nat.{ℕ}
use lib.Count.{count_trailing_zeros}
use Rattle.dlx.specs.Words.{extended_by, read_in, holds}
use Rattle.dlx.specs.Instructions.{register_type, part_type, instruction_of}
use Rattle.dlx.specs.Fields.{field, put, width, brought, placed}
use Rattle.dlx.specs.Processor.{special_of, with_special, with_count}
use Rattle.dlx.specs.Interrupts.{level_of, interrupted}
use Rattle.dlx.specs.Timer.{ticked, raised}
use Rattle.dlx.specs.Execute.{written, value_of, overflows_of, operated, reached, loads, stores, moved_to, trap_of, effect_of}
use Rattle.dlx.specs.Machine.{executed, fetched, loaded, stored, accessed, received, after_read, after_write, left, handled, changed, settled, retabled, step, steps, asked, request_of, stretch_from}
use Rattle.dlx.specs.Examples.{once, booted, r, interrupt, same, pair, is_ill, answered, goes_on, ordinary, asking, tried, leaves_timed, leaves, plain, goes, by_opcode, by_function, opcode_orders, function_orders, opcode_in, function_in, jumps, links, reaches, gets, puts, enters, refuses, each, reads, moves, becomes, counts, behind_it, overflows, wraps, stretched, ends, fed, packing, brings, lays, papers, immediates, immediate_tests, functions, function_tests, jumping, edges, ill_opcodes, ill_functions, ill_specials, specials, causes, overflowing, bytes, halves, fields, field_causes, latest, latests, tickets, counting, passing, sets, causing, calling, later, falling, timing, ringing, joining, stretches, all}

joined : (a b : List Bool) → all a ≡ true → all b ≡ true → all (a ++ b) ≡ true
unfolding all
joined [] b e f = f
joined (true ∷ a) b e f = joined a b e f
joined (false ∷ a) b e f = cc

-- all that the examples compute with
computing : ℕ
unfolding all papers immediates immediate_tests functions function_tests jumping edges ill_opcodes ill_functions ill_specials specials causes overflowing bytes halves fields field_causes latest latests packing brings lays tickets counting passing sets causing calling later falling timing ringing joining stretches tried leaves_timed leaves plain goes by_opcode by_function opcode_orders function_orders opcode_in function_in jumps links reaches gets puts enters refuses each reads moves becomes counts behind_it overflows wraps stretched ends fed r interrupt same pair is_ill once answered goes_on ordinary asking booted step steps asked request_of stretch_from fetched executed loaded stored accessed received after_read after_write left handled changed settled ticked raised retabled instruction_of register_type part_type field put width brought placed effect_of written value_of overflows_of operated reached loads stores moved_to trap_of special_of with_special with_count interrupted level_of count_trailing_zeros extended_by read_in holds
computing = 0

pub checked : all (papers ++ (immediates ++ (immediate_tests ++ (functions ++ (function_tests ++ (jumping ++ (edges ++ (ill_opcodes ++ (ill_functions ++ (ill_specials ++ (specials ++ (causes ++ (overflowing ++ (bytes ++ (halves ++ (fields ++ (field_causes ++ (latests ++ (tickets ++ (falling ++ (timing ++ (ringing ++ (joining ++ stretches))))))))))))))))))))))) ≡ true
checked =
    joined papers _ of_papers (joined immediates _ of_immediates (joined immediate_tests _ of_immediate_tests (joined functions _ of_functions
    (joined function_tests _ of_function_tests (joined jumping _ of_jumping (joined edges _ of_edges
    (joined ill_opcodes _ of_ill_opcodes (joined ill_functions _ of_ill_functions (joined ill_specials _ of_ill_specials (joined specials _ of_specials
    (joined causes _ of_causes (joined overflowing _ of_overflowing
    (joined bytes _ of_bytes (joined halves _ of_halves (joined fields _ of_fields (joined field_causes _ of_field_causes
    (joined latests _ of_latests (joined tickets _ of_tickets
    (joined falling _ of_falling (joined timing _ of_timing (joined ringing _ of_ringing (joined joining _ of_joining of_stretches))))))))))))))))))))))
  where
    of_papers : all papers ≡ true
    of_papers = unfold computing in refl

    of_immediates : all immediates ≡ true
    of_immediates = unfold computing in refl

    of_immediate_tests : all immediate_tests ≡ true
    of_immediate_tests = unfold computing in refl

    of_functions : all functions ≡ true
    of_functions = unfold computing in refl

    of_function_tests : all function_tests ≡ true
    of_function_tests = unfold computing in refl

    of_jumping : all jumping ≡ true
    of_jumping = unfold computing in refl

    of_edges : all edges ≡ true
    of_edges = unfold computing in refl

    of_ill_opcodes : all ill_opcodes ≡ true
    of_ill_opcodes = unfold computing in refl

    of_ill_functions : all ill_functions ≡ true
    of_ill_functions = unfold computing in refl

    of_ill_specials : all ill_specials ≡ true
    of_ill_specials = unfold computing in refl

    of_specials : all specials ≡ true
    of_specials = unfold computing in refl

    of_causes : all causes ≡ true
    of_causes = unfold computing in refl

    of_overflowing : all overflowing ≡ true
    of_overflowing = unfold computing in refl

    of_bytes : all bytes ≡ true
    of_bytes = unfold computing in refl

    of_halves : all halves ≡ true
    of_halves = unfold computing in refl

    of_fields : all fields ≡ true
    of_fields = unfold computing in refl

    of_field_causes : all field_causes ≡ true
    of_field_causes = unfold computing in refl

    of_latests : all latests ≡ true
    of_latests = unfold computing in refl

    of_tickets : all tickets ≡ true
    of_tickets = unfold computing in refl

    of_falling : all falling ≡ true
    of_falling = unfold computing in refl

    of_timing : all timing ≡ true
    of_timing = unfold computing in refl

    of_ringing : all ringing ≡ true
    of_ringing = unfold computing in refl

    of_joining : all joining ≡ true
    of_joining = unfold computing in refl

    of_stretches : all stretches ≡ true
    of_stretches = unfold computing in refl
