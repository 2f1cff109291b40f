-- The examples hold: the single claim about the rules.
use mathlib.Core.Path.{◌≡◌, refl, sym, ◌∙◌}
use mathlib.Core.Bool.{Bool, true, false, ◌&&◌}
use mathlib.Core.List.{List, [], ◌∷◌, ◌++◌}
use Prim.Native.Nat.{ℕ, ◌+◌}
use native.Mathlib.Omega.{arith}
use borrow.Author.Tests.{ltb-true, ltb-false, eq-eqb, ne_eqb}
use lib.Count.{count_trailing_zeros}
use lib.Dec.{ltb, eqb}
use lib.ListN.{length, get_or, set, take, drop, length-take, length-set, get_or-eq_default}
use lib.Seq.{get_or-take, get_or-drop, get_or-set_same, get_or-set_other}
use Rattle.dlx.specs.Choice.{when◌then◌else◌}
use Rattle.dlx.specs.Words.{extended_by, read_in, holds}
use Rattle.dlx.specs.Instructions.{register_type, part_type, instruction_of}
use Rattle.dlx.specs.Fields.{field, put, width, brought, placed}
use Rattle.dlx.specs.Processor.{special_of, with_special, with_count}
use Rattle.dlx.specs.Interrupts.{level_of, interrupted}
use Rattle.dlx.specs.Timer.{ticked, raised}
use Rattle.dlx.specs.Execute.{written, value_of, overflows_of, operated, reached, loads, stores, moved_to, trap_of, effect_of}
use Rattle.dlx.specs.Machine.{executed, fetched, loaded, stored, accessed, received, after_read, after_write, left, handled, changed, settled, retabled, step, request_of, asked}
use Rattle.dlx.specs.Examples.{all, same}
use Rattle.addresses.specs.Entries.{judged, composed}
use Rattle.addresses.specs.Walk.{walked, direct}
use Rattle.addresses.specs.Memory.{hosted, given, filled, looked, served, host_read, emptied, host_written, host_reads, host_writes}
use Rattle.dlx.proofs.Tests.{by_test, by_eq, and_left, get_or_replicate_same}
use Rattle.dlx.specs.Parts.{inner, outer}
use Rattle.house.specs.Lists.{list_from, any, first_from}
use Rattle.house.specs.House.{fresh_shadows, no_house}
use Rattle.tickets.specs.Queues.{sending, taking, desk}
use Rattle.house.specs.Damage.{outside_limits, frame_twice, turn_wrong, registers_wrong, shadow_wrong, unused_wrong, partition_used, queues_wrong, damaged}
use Rattle.house.specs.Boot.{first_of, sum, boot_verdict, laid, offset, booted_house}
use Rattle.house.specs.Turns.{next_from, turn_of, request_now, reply_now, queues_next, guest_step, settled_house, step_with, host_step, host_steps}
use Rattle.house.specs.Calls.{boot_call, run_verdict, run_call, one_verdict, started, stopped, emptied_house, start_call, stop_call, empty_call, read_verdict, read_out, read_call}
use Rattle.house.specs.Examples.{alone, two, idle, three, uneven, seven, busy, pair, interrupt, current, answers, flags, fields, numbers, same_house, same_world, ran, once, mapped, papers, plain, unbooted, boots, widest, after, trapped, six, counts, stepping, comes, timing, tolls, turns, shares, missized, refuses, does, reading, gives, calls, beyond, within, twice, once_each, out_of_turn, in_turn, misset, set_right, astray, used, damages, places, leaves, across, exchanges, whole}
use Rattle.house.proofs.Damage.Updates.{fresh_long, fresh_at}
use Rattle.house.proofs.Lists.Bounded.{and_right}
use Rattle.house.proofs.Lists.ByRule.{get_or_list_from, length_list_from}

-- ---- what stands at a place of a list, without walking there

rule_at : (f : ℕ → ℕ) (n i : ℕ) → get_or (list_from f 0 n) i 0 ≡ (when ltb i n then f i else 0)
rule_at f n i =
    by_test (ltb i n)
    (λ e. let z : 0 + i ≡ i = omega arith in rw (e, get_or_list_from f 0 0 n i (ltb-true i n e), z))
    (λ e. rw (e, get_or-eq_default (list_from f 0 n) 0 {n = i} (omega (arith, ltb-false i n e, length_list_from f 0 n))))

part_at : (a s : ℕ) (m : List ℕ) (i : ℕ) → get_or (inner a s m) i 0 ≡ (when ltb i s then get_or m (a + i) 0 else 0)
unfolding inner
part_at a s m i =
    by_test (ltb i s)
    (λ e. rw (e, get_or-take s (drop a m) i 0 (ltb-true i s e), get_or-drop a m i 0))
    (λ e. rw (e, get_or-eq_default (take s (drop a m)) 0 {n = i} (omega (arith, ltb-false i s e, length-take s (drop a m)))))

set_at : (l : List ℕ) (i x j : ℕ) → get_or (set l i x) j 0 ≡ (when eqb j i && ltb j (length l) then x else get_or l j 0)
set_at l i x j =
    by_eq j i
    (λ e. by_test (ltb j (length l))
    (λ f. rw (eq-eqb j i e, f, e) (get_or-set_same l i x 0 (omega (arith, ltb-true j (length l) f, e))))
    (λ f. rw (eq-eqb j i e, f) (get_or-eq_default (set l i x) 0 {n = j} (omega (arith, ltb-false j (length l) f, length-set l i x)) ∙ sym (get_or-eq_default l 0 {n = j} (omega (arith, ltb-false j (length l) f))))))
    (λ e. rw (ne_eqb j i e) (get_or-set_other l i j x 0 e))

joined : (a b : List Bool) → all a ≡ true → all b ≡ true → all (a ++ b) ≡ true
unfolding all
joined [] b e f = f
joined (x ∷ a) b e f = rw (and_left x (all a) e) (joined a b (and_right x (all a) e) f)

-- ---- names to open together

-- all that the examples compute with, but damage
computing : ℕ
unfolding fresh_shadows all papers boots widest turns shares calls whole damages places exchanges leaves across alone two idle three uneven seven busy pair interrupt current answers same flags fields numbers same_house same_world ran once mapped plain unbooted after trapped six counts stepping comes timing tolls missized refuses does reading gives beyond within twice once_each out_of_turn in_turn misset set_right astray used inner outer list_from any first_from first_of sum boot_verdict laid offset booted_house next_from turn_of request_now reply_now queues_next desk sending taking asked request_of guest_step settled_house step_with host_step host_steps boot_call run_verdict run_call one_verdict started stopped emptied_house start_call stop_call empty_call read_verdict read_out read_call judged composed walked direct hosted given filled looked served host_read emptied host_written host_reads host_writes step fetched executed loaded stored accessed received after_read after_write left handled changed settled ticked raised retabled instruction_of register_type effect_of written value_of overflows_of operated reached loads stores moved_to trap_of special_of with_special with_count interrupted level_of count_trailing_zeros extended_by read_in holds part_type field put width brought placed
computing = 0

-- how a call comes to its answer
answering : ℕ
unfolding all calls refuses does reading gives answers run_verdict run_call one_verdict start_call stop_call empty_call read_verdict read_call first_of
answering = 0

-- damage, and the houses in which it is looked for
damaging : ℕ
unfolding all places damaged outside_limits frame_twice turn_wrong registers_wrong shadow_wrong unused_wrong queues_wrong partition_used two idle uneven seven missized busy stopped booted_house
damaging = 0

-- ---- the claim

-- the frames 1 to 256 stand once each
apart : any (λ i. any (λ j. eqb (get_or (list_from (λ i. i + 1) 0 256) j 0) (get_or (list_from (λ i. i + 1) 0 256) i 0)) i) 256 ≡ false
apart = simp rule_at (unfold any in refl)

pub checked : all (papers ++ (boots ++ (widest ++ (turns ++ (shares ++ (calls ++ (damages ++ (places ++ (exchanges ++ whole))))))))) ≡ true
checked =
    joined papers _ of_papers (joined boots _ of_boots (joined widest _ of_widest (joined turns _ of_turns
    (joined shares _ of_shares (joined calls _ of_calls (joined damages _ of_damages (joined places _ of_places (joined exchanges whole of_exchanges of_whole))))))))
  where
    of_papers : all papers ≡ true
    of_papers = unfold computing in refl

    of_boots : all boots ≡ true
    of_boots = unfold computing in refl

    of_widest : all widest ≡ true
    of_widest = unfold all widest answers boot_verdict first_of list_from in rw apart (unfold computing in refl)

    of_turns : all turns ≡ true
    of_turns = unfold computing in refl

    -- Damage reads thousands of places: first each is turned into what stands there, then all is computed.
    two_whole : damaged two ≡ false
    two_whole = unfold damaging in simp (part_at, rule_at, get_or_replicate_same, fresh_at) (unfold computing in refl)

    idle_whole : damaged idle ≡ false
    idle_whole = unfold damaging in simp (part_at, rule_at, get_or_replicate_same, fresh_at) (unfold computing in refl)

    uneven_whole : damaged uneven ≡ false
    uneven_whole = unfold damaging in simp (part_at, rule_at, get_or_replicate_same, fresh_at) (unfold computing in refl)

    missized_damaged : damaged missized ≡ true
    missized_damaged = unfold damaging computing in refl

    none_damaged : damaged no_house ≡ true
    none_damaged = unfold damaging in refl

    of_shares : all shares ≡ true
    of_shares = unfold computing in refl

    of_calls : all calls ≡ true
    of_calls = unfold answering in simp (two_whole, idle_whole, uneven_whole, missized_damaged, none_damaged) (unfold computing damaged in refl)

    of_damages : all damages ≡ true
    of_damages = unfold damaging computing in refl

    of_places : all places ≡ true
    of_places = unfold damaging in simp (set_at, part_at, rule_at, get_or_replicate_same, fresh_at, fresh_long) (unfold computing in refl)

    of_exchanges : all exchanges ≡ true
    of_exchanges = unfold damaging computing in refl

    of_whole : all whole ≡ true
    of_whole = unfold all whole in simp (two_whole, idle_whole, none_damaged)
