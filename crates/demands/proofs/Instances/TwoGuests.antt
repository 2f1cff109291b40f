-- Every premise of the demands holds somewhere, so that nothing is proved of nothing: a boot of two guests, calls under which a shadow is filled and
-- emptied, and each demand's theorem applied to them.
use mathlib.Core.Path.{◌≡◌, refl, sym, ap, subst, ◌∙◌}
use mathlib.Core.Bool.{true, false}
use mathlib.Core.List.{List, [], ◌∷◌, ◌++◌}
use Prim.Native.Nat.{ℕ, zero, suc, ◌+◌, ◌-◌, ◌*◌, ◌%◌, ◌^◌, ◌<◌, ◌≤◌}
use native.Mathlib.Omega.{arith}
use borrow.Author.Tests.{eq-eqb}
use lib.Count.{count_trailing_zeros}
use lib.Dec.{eqb}
use lib.ListN.{length, get_or, set, replicate, length-set}
use lib.Seq.{get_or-set_other}
use Rattle.dlx.specs.Choice.{when◌then◌else◌}
use Rattle.dlx.specs.Words.{extended_by, read_in, holds}
use Rattle.dlx.specs.Instructions.{register_type, part_type, instruction_of}
use Rattle.dlx.specs.Fields.{field, put, width, brought, placed}
use Rattle.dlx.specs.Processor.{special_of, with_special, with_count}
use Rattle.dlx.specs.Interrupts.{level_of, interrupted}
use Rattle.dlx.specs.Timer.{ticked, raised}
use Rattle.dlx.specs.Execute.{written, value_of, overflows_of, operated, reached, loads, stores, moved_to, trap_of, effect_of}
use Rattle.dlx.specs.Machine.{Reply, executed, fetched, loaded, stored, accessed, received, after_read, after_write, left as left_by, handled, changed as changed_by, settled, retabled, step, steps, asked, request_of as effect_request, reply}
use Rattle.addresses.specs.Entries.{entry_of, judged}
use Rattle.addresses.specs.Walk.{entries, walked, direct}
use Rattle.addresses.specs.Memory.{lone_memory, lone_found, lone_read, hosted, given, filled, looked, served, host_read, emptied, host_written, host_reads, host_writes, stale}
use Rattle.dlx.specs.Parts.{inner, outer}
use Rattle.dlx.proofs.Parts.{part_at}
use Rattle.dlx.proofs.Kept.{get_or_set_elim}
use Rattle.house.specs.Lists.{list_from, any, first_from}
use Rattle.house.specs.House.{fresh_shadows, no_house, partition, pages_of, runs, frames_of, shadow_of, turn}
use Rattle.tickets.specs.Queues.{sending, taking, desk, queue_of, oldest, ruled}
use Rattle.house.specs.Damage.{damaged}
use Rattle.house.specs.Boot.{Verdict, verdict, sum, first_of, boot_verdict, laid, offset, booted_house}
use Rattle.house.specs.Turns.{World, world, next_from, turn_of, request_now, reply_now, queues_next, guest_step, settled_house, step_with, host_step, host_steps, stale_at}
use Rattle.house.specs.Calls.{boot_call, run_verdict, run_call, started, stopped, emptied_house, start_call, stop_call, empty_call, read_verdict, read_call}
use Rattle.house.specs.Sound.{Proper, Stays, Ready}
use Rattle.demands.specs.Histories.{Boot, booted, Call, run, start, stop, empty, read_out, after, history, Grown, turns_in, steps_of, steps_made, turns_made, StaysRunning, lone_of, lone_at_boot, lone_asks, lone_answer, event_of, log_in, log_of, each, answers_to, feed_of}
use Rattle.demands.specs.Demands.{AgreeOn, MayStep, SameFor, ApartInFrame0, StepOf, SameAnswers, fails, word, by_shadow, listed, by_table}
use Rattle.house.specs.declared.House.{House}
use Rattle.house.proofs.Lists.Bounded.{one_way}
use Rattle.demands.proofs.Instances.ClosedCalls.{below, below_at, Fit, fit_after, run_verdict_lem, no_verdict, after_run, after_start, after_stop, after_empty, after_refused, runs_at_end, runs_onward}
use Rattle.demands.proofs.Booted.FreshHouse.{booted_whole, booted_ready}
use Rattle.house.proofs.Turns.SameLayout.{changed}
use Rattle.house.proofs.Damage.Changed.{ShadowsRight, same_flags, changed_stays}
use Rattle.house.proofs.Damage.Undamaged.{undamaged_gives}
use Rattle.demands.proofs.Isolation.Isolated.{same_for}
use Rattle.demands.proofs.Demands.{refused_means_untouched, isolation_demand, every_step, run_isolation, frame_0_demand, never_damaged, step_demand, within_runs, reach_demand, histories_demand, equal_guests, equal_counters, reads_those_pages, fairness_demand}

-- ---- the boot

abbrev zeros : ℕ → List ℕ
zeros n = replicate n 0

-- Partition 0: PTO = 1, PTL = 2, user mode; a load through entry 1, a store into entry 1 of the table, a trap.
abbrev pub first_guest : List ℕ
first_guest = 0x20010001 ∷ 0x002001D1 ∷ 0x20020002 ∷ 0x00400211 ∷ 0x00200191 ∷ 0x8C031000 ∷ 0xAC031004 ∷ 0xF8000007 ∷ []

-- its table, in its page 1: pages 0 and 1 as they are
abbrev pub its_table : List ℕ
its_table = 0x00000800 ∷ 0x00001800 ∷ []

-- partition 1: register 1 = 5, a trap
abbrev second_guest : List ℕ
second_guest = 0x20010005 ∷ 0xF8000007 ∷ []

-- frame 0 is the house's, and frame 2 is no partition's
abbrev memory : List ℕ
memory = zeros 1024 ++ (its_table ++ (zeros 2046 ++ (second_guest ++ (zeros 1022 ++ (first_guest ++ zeros 1016)))))

unfoldable pub two_guests : Boot
unfolding boot_verdict first_of any first_from sum
two_guests = record { pages = 2 ∷ 1 ∷ []; q = 3; frames = 4 ∷ 1 ∷ 3 ∷ []; memory = memory; done = refl }

pub memory_words : (i : ℕ) → get_or two_guests.memory i 0 < 2 ^ 32
unfolding two_guests below
memory_words = below_at memory refl

pub ready : Ready (booted two_guests)
ready = booted_ready two_guests memory_words

-- ---- the history

abbrev pub filling : List Call
filling = run 4 ∷ stop 1 ∷ run 3 ∷ []

abbrev pub emptying : List Call
emptying = read_out 0 4096 2 (0 ∷ 0 ∷ []) ∷ run 1 ∷ start 1 ∷ empty 0 ∷ start 9 ∷ run 4 ∷ []

-- The worlds between: partition 1 has the turn; partition 0 is alone; it has filled its shadow; a store has emptied entry 1; both run; the call has
-- emptied the shadow; it was filled again, and emptied by a change of PTO.

abbrev begun : World
begun = booted two_guests

abbrev ran : World
ran = host_steps 4 begun

abbrev alone : World
alone = world (stopped ran.house 1) ran.memory

abbrev pub full : World
full = host_steps 3 alone

abbrev pub bare : World
bare = host_steps 1 full

abbrev joined : World
joined = world (started bare.house 1) bare.memory

abbrev cleared : World
cleared = world (emptied_house joined.house 0) joined.memory

abbrev pub ended : World
ended = host_steps 4 cleared

-- ---- shadows filled and emptied

-- all that a step computes with
computing : ℕ
unfolding fresh_shadows two_guests inner outer list_from any laid offset booted_house next_from turn_of request_now reply_now queues_next desk sending taking asked effect_request guest_step settled_house step_with host_step host_steps started stopped emptied_house judged walked direct hosted given filled looked served host_read emptied host_written host_reads host_writes step fetched executed loaded stored accessed received after_read after_write left_by handled changed_by settled retabled instruction_of register_type effect_of written value_of overflows_of operated reached loads stores moved_to trap_of special_of with_special with_count ticked raised interrupted level_of count_trailing_zeros extended_by read_in holds turns_in part_type field put width brought placed
computing = 0

-- entry px of partition 0's shadow
abbrev entry : World → ℕ → ℕ
entry w px = get_or (shadow_of w.house 0) px 0

pub by_store : (entry full 1 ≡ entry_of 1 0) × (entry bare 1 ≡ 0)
by_store = unfold computing in (refl, refl)

pub by_call : (entry joined 0 ≡ entry_of 4 0) × (entry cleared 0 ≡ 0)
by_call = unfold computing in (refl, refl)

pub by_table_lem : (entry (host_steps 1 cleared) 0 ≡ entry_of 4 0) × (entry ended 0 ≡ 0)
by_table_lem = unfold computing in (refl, refl)

-- ---- the history is done

some : {n : ℕ} (k : ℕ) → n ≡ suc k → n ≡ 0 → ⊥
some k e z = omega arith

begun_left : begun.house.left ≡ 3
begun_left = unfold computing in refl

alone_left : alone.house.left ≡ 3
alone_left = unfold computing in refl

full_left : full.house.left ≡ 3
full_left = unfold computing in refl

cleared_left : cleared.house.left ≡ 2
cleared_left = unfold computing in refl

ended_left : ended.house.left ≡ 2
ended_left = unfold computing in refl

fit_begun : Fit 2 begun
unfolding booted_house two_guests
fit_begun = record { typed = ready.typed; whole = booted_whole two_guests; size = refl; count = refl }

to_ran : (after (run 4) begun ≡ ran) × (steps_of (run 4) begun ≡ 4)
to_ran = after_run begun fit_begun 4 (omega arith) (some 2 begun_left)

fit_ran : Fit 2 ran
fit_ran = fit_after begun fit_begun (run 4) to_ran.0

to_alone : after (stop 1) ran ≡ alone
to_alone = after_stop ran fit_ran 1 (omega arith)

fit_alone : Fit 2 alone
fit_alone = fit_after ran fit_ran (stop 1) to_alone

to_full : (after (run 3) alone ≡ full) × (steps_of (run 3) alone ≡ 3)
to_full = after_run alone fit_alone 3 (omega arith) (some 2 alone_left)

pub fit_full : Fit 2 full
fit_full = fit_after alone fit_alone (run 3) to_full.0

to_bare : (after (run 1) full ≡ bare) × (steps_of (run 1) full ≡ 1)
to_bare = after_run full fit_full 1 (omega arith) (some 2 full_left)

fit_bare : Fit 2 bare
fit_bare = fit_after full fit_full (run 1) to_bare.0

to_joined : after (start 1) bare ≡ joined
to_joined = after_start bare fit_bare 1 (omega arith)

fit_joined : Fit 2 joined
fit_joined = fit_after bare fit_bare (start 1) to_joined

to_cleared : after (empty 0) joined ≡ cleared
to_cleared = after_empty joined fit_joined 0 (omega arith)

fit_cleared : Fit 2 cleared
fit_cleared = fit_after joined fit_joined (empty 0) to_cleared

to_none : after (start 9) cleared ≡ cleared
to_none = after_refused cleared fit_cleared 9 (omega arith)

to_ended : (after (run 4) cleared ≡ ended) × (steps_of (run 4) cleared ≡ 4)
to_ended = after_run cleared fit_cleared 4 (omega arith) (some 1 cleared_left)

to_read : (i a n : ℕ) (out : List ℕ) (w : World) → after (read_out i a n out) w ≡ w
unfolding after read_call
to_read i a n out w = refl

-- another history, in which partition 0 makes as many steps

abbrev pub aside : List Call
aside = stop 1 ∷ run 10 ∷ []

abbrev pub lonely : World
lonely = world (stopped begun.house 1) begun.memory

abbrev pub far : World
far = host_steps 10 lonely

to_lonely : after (stop 1) begun ≡ lonely
to_lonely = after_stop begun fit_begun 1 (omega arith)

pub fit_lonely : Fit 2 lonely
fit_lonely = fit_after begun fit_begun (stop 1) to_lonely

pub lonely_left : lonely.house.left ≡ 3
lonely_left = unfold computing in refl

to_far : (after (run 10) lonely ≡ far) × (steps_of (run 10) lonely ≡ 10)
to_far = after_run lonely fit_lonely 10 (omega arith) (some 2 lonely_left)

full_is : full ≡ history filling begun
unfolding history
full_is = simp (to_ran.0, to_alone, to_full.0)

ended_is : ended ≡ history (filling ++ emptying) begun
unfolding history
ended_is = simp (to_ran.0, to_alone, to_full.0, to_read, to_bare.0, to_joined, to_cleared, to_none, to_ended.0)

far_is : far ≡ history aside begun
unfolding history
far_is = simp (to_lonely, to_far.0)

pub grown_begun : Grown two_guests begun
unfolding history
grown_begun = ([], refl)

pub grown_full : Grown two_guests full
grown_full = (filling, full_is)

pub grown_ended : Grown two_guests ended
grown_ended = (filling ++ emptying, ended_is)

ten_turns : turns_made (filling ++ emptying) begun 0 ≡ 10
unfolding turns_made
ten_turns = simp (to_ran.0, to_alone, to_full.0, to_read, to_bare.0, to_joined, to_cleared, to_none, to_ran.1, to_full.1, to_bare.1, to_ended.1) (unfold computing steps_of in refl)

ten_aside : turns_made aside begun 0 ≡ 10
unfolding turns_made
ten_aside = simp (to_lonely, to_far.1) (unfold computing steps_of in refl)

-- ---- demand 1

numbered : {v : Verdict} (n d : ℕ) → v ≡ verdict n d → v.number ≡ n
numbered n d e = ap (λ (v : Verdict). v.number) e

-- refused: no partitions, too long a run, no such partition, a word behind the last page
pub untouched_boot : (boot_call [] 3 [] (0 ∷ [])).world ≡ world no_house (0 ∷ [])
unfolding boot_call boot_verdict first_of
untouched_boot = refused_means_untouched.boot [] [] (0 ∷ []) 3 (some 0 refl)

pub untouched_run : (run_call full 1000001).world ≡ full
unfolding run_call run_verdict first_of
untouched_run = refused_means_untouched.run full 1000001 (some 13 (simp (fit_full.whole, eq-eqb (length full.memory) full.house.words fit_full.size)))

pub untouched_start : (start_call full 9).world ≡ full
unfolding start_call
untouched_start = refused_means_untouched.start full 9 (some 9 (numbered 10 0 (no_verdict full fit_full 9 (omega arith))))

pub untouched_stop : (stop_call full 9).world ≡ full
unfolding stop_call
untouched_stop = refused_means_untouched.stop full 9 (some 9 (numbered 10 0 (no_verdict full fit_full 9 (omega arith))))

pub untouched_empty : (empty_call full 9).world ≡ full
unfolding empty_call
untouched_empty = refused_means_untouched.empty full 9 (some 9 (numbered 10 0 (no_verdict full fit_full 9 (omega arith))))

pub untouched_house : (read_call full 0 8192 1 (0 ∷ [])).house ≡ full.house
unfolding read_call read_verdict first_of
untouched_house =
    (refused_means_untouched.read full 0 8192 1 (0 ∷ [])
    (some 11 (simp (fit_full.whole, eq-eqb (length full.memory) full.house.words fit_full.size, fit_full.count) (unfold computing in refl)))).0

pub untouched_read : (read_call full 0 8192 1 (0 ∷ [])).output ≡ 0 ∷ []
unfolding read_call read_verdict first_of
untouched_read =
    (refused_means_untouched.read full 0 8192 1 (0 ∷ [])
    (some 11 (simp (fit_full.whole, eq-eqb (length full.memory) full.house.words fit_full.size, fit_full.count) (unfold computing in refl)))).1

-- a memory that differs in one word: 3072 is partition 1's, 2048 is no partition's. Isolation between two houses is used in TwoHouses
abbrev elsewhere : ℕ → List ℕ
elsewhere x = set full.memory x 7

pub differ : (full.memory ≡ elsewhere 3072 → ⊥) × (full.memory ≡ elsewhere 2048 → ⊥)
differ = (λ e. theirs (ap (λ (m : List ℕ). get_or m 3072 0) e), λ e. none's (ap (λ (m : List ℕ). get_or m 2048 0) e))
  where
    theirs : get_or full.memory 3072 0 ≡ get_or (elsewhere 3072) 3072 0 → ⊥
    theirs = unfold computing in λ e. omega (arith, e)

    none's : get_or full.memory 2048 0 ≡ get_or (elsewhere 2048) 2048 0 → ⊥
    none's = unfold computing in λ e. omega (arith, e)

apart_in_frame_0 : ApartInFrame0 full.house full.memory (elsewhere 1023) 4
apart_in_frame_0 = frame_0_demand full.house full.memory (elsewhere 1023) 4 fit_full.typed.shaped (sym (length-set full.memory 1023 7)) (λ x l. sym (get_or-set_other full.memory 1023 x 7 0 (λ e. omega arith)))

-- a property of both frames of partition 0, and of partition 1's
both : (P : ℕ → Type 0) → P 4 → P 1 → (k : ℕ) → k < pages_of full.house 0 → P (get_or (frames_of full.house 0) k 0)
both P a b zero l = unfold computing in a
both P a b (suc zero) l = unfold computing in b
both P a b (suc (suc k)) l = absurd (unfold computing in omega (arith, l))

only : (P : ℕ → Type 0) → P 3 → (k : ℕ) → k < pages_of full.house 1 → P (get_or (frames_of full.house 1) k 0)
only P a zero l = unfold computing in a
only P a (suc k) l = absurd (unfold computing in omega (arith, l))

abbrev Same : ℕ → ℕ → ℕ → Type 0
Same x j f = get_or full.memory (f * 1024 + j) 0 ≡ get_or (elsewhere x) (f * 1024 + j) 0

same : (x j f : ℕ) → (f * 1024 + j ≡ x → ⊥) → Same x j f
same x j f d = sym (get_or-set_other full.memory x (f * 1024 + j) 7 0 d)

pub full_current : full.house.current ≡ 0
full_current = unfold computing in refl

agree : AgreeOn full.house 0 full.memory (elsewhere 3072)
agree k j l m = both (Same 3072 j) (same 3072 j 4 (λ e. omega arith)) (same 3072 j 1 (λ e. omega arith)) k l

-- ---- a shadow that is wrong: entry 0 of partition 0 names its frame 1, and the table gives frame 4

abbrev astray : List ℕ
astray = set full.house.shadows 0 (entry_of 1 0)

abbrev pub misled : House
misled = changed full.house full.house.running (turn full.house.current full.house.left) astray

pub misled_wrong : (by_shadow (world misled full.memory) 0 false true 4 ≡ word 1025) × (by_table (world misled full.memory) 0 false true 4 ≡ word 4097)
unfolding listed lone_found lone_of
misled_wrong = unfold computing in (refl, refl)

pub misled_stale : stale_at (world misled full.memory) 0 0 ≡ true
misled_stale = unfold computing stale in refl

pub misled_size : length full.memory ≡ misled.words
misled_size = fit_full.size

misled_right : ShadowsRight full.house astray
misled_right =
    let h = full.house in
    let u = undamaged_gives h fit_full.whole in
    record {
      long = length-set h.shadows 0 (entry_of 1 0) ∙ fit_full.typed.shaped.shadows;
      proper = λ i px l m.
          subst (Proper (frames_of h i) (pages_of h i)) (sym (part_at astray (i * entries) entries px m))
          (get_or_set_elim (Proper (frames_of h i) (pages_of h i)) h.shadows 0 (i * entries + px) (entry_of 1 0) 0
          (λ z. let e : i ≡ 0 = omega arith in subst (λ (x : ℕ). Proper (frames_of h x) (pages_of h x) (entry_of 1 0)) (sym e) other_frame)
          (subst (Proper (frames_of h i) (pages_of h i)) (part_at h.shadows (i * entries) entries px m) (u.proper i px l m)));
      none = λ i k l b m.
          part_at astray (i * entries) entries k m
          ∙ get_or-set_other h.shadows 0 (i * entries + k) (entry_of 1 0) 0 (λ z. omega (arith, fit_full.count))
          ∙ sym (part_at h.shadows (i * entries) entries k m)
          ∙ (u.unused i l b).shadows k m;
      words = λ k. get_or_set_elim (λ (x : ℕ). x < 2 ^ 32) h.shadows 0 k (entry_of 1 0) 0 (λ _. omega arith) (fit_full.typed.shadows k);
    }
  where
    other_frame : Proper (frames_of full.house 0) (pages_of full.house 0) (entry_of 1 0)
    other_frame = unfold computing in record { own = λ _. (1, omega arith, refl); bits = λ _. refl; empty = λ e. one_way true refl e }

pub misled_stays : Stays full (world misled full.memory)
misled_stays =
    let u = undamaged_gives full.house fit_full.whole in
    changed_stays full.house full.memory u fit_full.typed full.house.running (turn full.house.current full.house.left) astray
    (same_flags full.house full.memory u fit_full.typed) (record { idle = u.idle; busy = u.busy }) misled_right

-- of any house, grown or not: it steps alike in both memories
abbrev strayed : List ℕ → World
strayed m = world misled m

abbrev pub lost : World
lost = strayed full.memory

strayed_steps : (m : List ℕ) → length m ≡ full.house.words → MayStep (strayed m)
strayed_steps m l = record { shaped = misled_stays.typed.shaped; whole = misled_stays.whole; size = l; busy = some 2 full_left }

pub isolated_misled : SameFor (host_step lost).house (host_step (strayed (elsewhere 3072))).house misled.current
isolated_misled =
    (isolation_demand lost (strayed (elsewhere 3072)) (strayed_steps full.memory fit_full.size)
    (strayed_steps (elsewhere 3072) (length-set full.memory 3072 7 ∙ fit_full.size)) (same_for misled misled.current) (rw full_current agree)).same

fit_misled : Fit 2 lost
fit_misled = record { typed = misled_stays.typed; whole = misled_stays.whole; size = misled_size; count = fit_full.count }

-- before the last of four steps of it stands one that is not damaged, with one current
pub every : MayStep (host_steps 3 lost)
unfolding run_call
every = (every_step lost 4 3 misled_stays.typed (numbered 0 4 (run_verdict_lem lost fit_misled 4 (omega arith) (some 2 full_left))) (omega arith)).1

agree_all : (i : ℕ) → i < full.house.count → AgreeOn full.house i full.memory (elsewhere 2048)
agree_all zero n k j l m = both (Same 2048 j) (same 2048 j 4 (λ e. omega arith)) (same 2048 j 1 (λ e. omega arith)) k l
agree_all (suc zero) n k j l m = only (Same 2048 j) (same 2048 j 3 (λ e. omega arith)) k l
agree_all (suc (suc i)) n k j l m = absurd (omega (arith, fit_full.count))

pub run_isolated : (run_call full 4).world.house ≡ (run_call (world full.house (elsewhere 2048)) 4).world.house
run_isolated = (run_isolation full.house full.memory (elsewhere 2048) 4 fit_full.typed.shaped (sym (length-set full.memory 2048 7)) agree_all).1

-- word 1,023 is the house's own, the last: a run of the same calls neither reads it nor changes it
pub frame_0_verdict : (run_call (world full.house (elsewhere 1023)) 4).verdict ≡ verdict 0 4
unfolding run_call
frame_0_verdict = sym apart_in_frame_0.0 ∙ run_verdict_lem full fit_full 4 (omega arith) (some 2 full_left)

pub frame_0_unread : (run_call full 4).world.house ≡ (run_call (world full.house (elsewhere 1023)) 4).world.house
frame_0_unread = apart_in_frame_0.1

pub frame_0_kept : (get_or (run_call full 4).world.memory 1023 0 ≡ 0) × (get_or (run_call (world full.house (elsewhere 1023)) 4).world.memory 1023 0 ≡ 7)
frame_0_kept = (apart_in_frame_0.3 1023 (omega arith) ∙ (unfold computing in refl), apart_in_frame_0.4 1023 (omega arith) ∙ (unfold computing in refl))

-- every word behind it is the same in both
pub frames_agree : (x : ℕ) → 1024 ≤ x → get_or (run_call full 4).world.memory x 0 ≡ get_or (run_call (world full.house (elsewhere 1023)) 4).world.memory x 0
frames_agree = apart_in_frame_0.2

-- ---- demand 2

pub ended_whole : damaged ended.house ≡ false
ended_whole = never_damaged two_guests memory_words ended grown_ended

pub stepped : StepOf ended (host_step ended) ended.house.current
stepped = step_demand two_guests ended grown_ended (some 1 ended_left)

-- each part of it: partition 0 makes its eleventh step and keeps the turn, and nothing of partition 1's changes
ended_current : ended.house.current ≡ 0
ended_current = unfold computing in refl

pub stepped_own : lone_of (host_step ended) ended.house.current ≡ (let i = ended.house.current in let o = step (lone_memory (pages_of ended.house i)) (lone_answer ended i) (lone_of ended i) in (o.0.core, o.1))
stepped_own = stepped.own

pub stepped_other : lone_of (host_step ended) 1 ≡ lone_of ended 1
stepped_other = stepped.others 1 (unfold computing in omega arith) (λ e. omega (arith, ended_current))

abbrev counted : ℕ → ℕ
counted j = let n = (partition ended.house j).counter in when eqb j ended.house.current then (n + 1) % 2 ^ 64 else n

pub stepped_counters : ((partition (host_step ended).house 0).counter ≡ 11) × ((partition (host_step ended).house 1).counter ≡ 2)
stepped_counters =
    let by_rule : (counted 0 ≡ 11) × (counted 1 ≡ 2) = unfold computing in (refl, refl) in
    (stepped.counters 0 (unfold computing in omega arith) ∙ by_rule.0, stepped.counters 1 (unfold computing in omega arith) ∙ by_rule.1)

pub stepped_turn : turn (host_step ended).house.current (host_step ended).house.left ≡ turn 0 1
stepped_turn =
    let h = ended.house in
    let i = h.current in
    let by_rule : turn_of h.running h.count h.q i h.left 1 (step (lone_memory (pages_of h i)) (lone_answer ended i) (lone_of ended i)).0.calls ≡ turn 0 1 =
    unfold computing lone_answer lone_asks lone_of lone_read lone_found ruled in refl in
    stepped.turns ∙ by_rule

pub stepped_running : (host_step ended).house.running ≡ ended.house.running
stepped_running = stepped.running

pub within : Grown two_guests (host_steps 3 begun) × ((host_steps 3 begun).house.left ≡ 0 → ⊥)
unfolding run_call
within = within_runs two_guests begun grown_begun 4 3 (numbered 0 4 (run_verdict_lem begun fit_begun 4 (omega arith) (some 2 begun_left))) (omega arith)

-- a store to page 1 lands in frame 1, one from PTL on fails by that
pub lands : (by_table full 0 true true 4100 ≡ word 1025) × (by_table full 0 true true 8192 ≡ fails 1)
unfolding listed lone_found lone_of
lands = unfold computing in (refl, refl)

pub reached_page : by_shadow full 0 true true 4100 ≡ by_table full 0 true true 4100
reached_page = reach_demand two_guests full grown_full 0 (omega (arith, fit_full.count)) true true 4100

-- ---- demand 3

below_two : (i : ℕ) → i < 2 → i < length two_guests.pages
unfolding two_guests
below_two i l = l

pub history_of : lone_of (history (filling ++ emptying) begun) 0 ≡ steps (lone_memory (get_or two_guests.pages 0 0)) (feed_of (filling ++ emptying) begun 0) 10 (lone_at_boot two_guests 0)
history_of =
    (histories_demand two_guests (filling ++ emptying) 0 (below_two 0 (omega arith))).0
    ∙ ap (λ (n : ℕ). steps (lone_memory (get_or two_guests.pages 0 0)) (feed_of (filling ++ emptying) begun 0) n (lone_at_boot two_guests 0)) ten_turns

-- no ticket is asked for in either
logging : ℕ
unfolding computing steps_of log_in event_of lone_answer lone_asks lone_of lone_read lone_found ruled oldest queue_of each
logging = 0

answers_here : answers_to 0 (log_of (filling ++ emptying) begun) ≡ replicate 10 (reply 0 0)
unfolding log_of
answers_here = simp (to_ran.0, to_alone, to_full.0, to_read, to_bare.0, to_joined, to_cleared, to_none, to_ran.1, to_full.1, to_bare.1, to_ended.1) (unfold logging in refl)

answers_aside : answers_to 0 (log_of aside begun) ≡ replicate 10 (reply 0 0)
unfolding log_of
answers_aside = simp (to_lonely, to_far.1) (unfold logging in refl)

same_answers : SameAnswers two_guests (filling ++ emptying) aside 0
same_answers k l = ap (λ (x : List Reply). get_or x k (reply 0 0)) (answers_here ∙ sym answers_aside)

-- equal guests, by equal turns or by equal counters, in houses that differ
pub equal : lone_of (history (filling ++ emptying) begun) 0 ≡ lone_of (history aside begun) 0
equal = equal_guests two_guests (filling ++ emptying) aside 0 (below_two 0 (omega arith)) (ten_turns ∙ sym ten_aside) same_answers

pub equal_by_counter : lone_of (history (filling ++ emptying) begun) 0 ≡ lone_of (history aside begun) 0
equal_by_counter =
    let l = below_two 0 (omega arith) in
    equal_counters two_guests (filling ++ emptying) aside 0 l (omega (arith, ten_turns)) (omega (arith, ten_aside)) same_answers
    ((histories_demand two_guests (filling ++ emptying) 0 l).1 ∙ ap (λ (n : ℕ). n % 2 ^ 64) (ten_turns ∙ sym ten_aside) ∙ sym (histories_demand two_guests aside 0 l).1)

-- the counters tell up to the last step before they go round
pub counters_tell : (cs cs' : List Call) → turns_made cs begun 0 ≤ 2 ^ 64 - 1 → turns_made cs' begun 0 ≤ 2 ^ 64 - 1 → SameAnswers two_guests cs cs' 0
    → (partition (history cs begun).house 0).counter ≡ (partition (history cs' begun).house 0).counter
    → lone_of (history cs begun) 0 ≡ lone_of (history cs' begun) 0
counters_tell cs cs' l l' s e = equal_counters two_guests cs cs' 0 (below_two 0 (omega arith)) (omega arith) (omega arith) s e

pub unequal : ended ≡ far → ⊥
unequal e = one_way (runs far.house 1) (ap (λ (w : World). runs w.house 1) (sym e) ∙ again) never
  where
    again : runs ended.house 1 ≡ true
    again = unfold computing in refl

    never : runs far.house 1 ≡ false
    never = unfold computing in refl

-- partition 0's table, by the history's read-out
read_done : read_verdict full 0 4096 2 (0 ∷ 0 ∷ []) ≡ verdict 0 2
unfolding read_verdict first_of
read_done = simp (fit_full.whole, eq-eqb (length full.memory) full.house.words fit_full.size, fit_full.count) (unfold computing in refl)

pub table_read : (read_call full 0 4096 2 (0 ∷ 0 ∷ [])).output ≡ 0x00000800 ∷ 0x00001800 ∷ []
unfolding read_call
table_read = reads_those_pages two_guests full grown_full 0 4096 2 (0 ∷ 0 ∷ []) (numbered 0 2 read_done) ∙ (unfold computing lone_of in refl)

-- partition 0 over the second half; partition 1 by the last of (n-1)q+1 steps from boot

enough : steps_made emptying full ≡ 5
unfolding steps_made
enough = simp (to_read, to_bare.0, to_joined, to_cleared, to_none, to_bare.1, to_ended.1) (unfold steps_of in refl)

stays : StaysRunning emptying full 0
stays =
    runs_onward _ _ full full 0 at_full (to_read 0 4096 2 (0 ∷ 0 ∷ []) full)
    (runs_onward _ _ full bare 0 at_full to_bare.0
    (runs_onward _ _ bare joined 0 (unfold computing in refl) to_joined
    (runs_onward _ _ joined cleared 0 (unfold computing in refl) to_cleared
    (runs_onward _ _ cleared cleared 0 at_cleared to_none
    (runs_onward _ _ cleared ended 0 at_cleared to_ended.0
    (runs_at_end ended 0 (unfold computing in refl)))))))
  where
    at_full : runs full.house 0 ≡ true
    at_full = unfold computing in refl

    at_cleared : runs cleared.house 0 ≡ true
    at_cleared = unfold computing in refl

-- at the start, later, and where a shadow is wrong, so that the house is not grown
bound : (begun.house.count - 1) * begun.house.q + 1 ≡ 4
bound = unfold computing in refl

bound_full : (full.house.count - 1) * full.house.q + 1 ≡ 4
bound_full = unfold computing in refl

pub fair : 0 < turns_made emptying full 0
fair = fairness_demand full emptying 0 (omega (arith, fit_full.count)) stays (omega (arith, bound_full, enough))

pub just_fair : 0 < turns_made (run 4 ∷ []) begun 1
just_fair = fairness_demand begun (run 4 ∷ []) 1 (omega (arith, fit_begun.count)) runs_on (omega (arith, bound, four))
  where
    runs_on : StaysRunning (run 4 ∷ []) begun 1
    runs_on = runs_onward _ _ begun ran 1 (unfold computing in refl) to_ran.0 (runs_at_end ran 1 (unfold computing in refl))

    four : steps_made (run 4 ∷ []) begun ≡ 4
    four = unfold steps_made in simp to_ran.1 (unfold steps_of in refl)

pub fair_misled : 0 < turns_made (run 4 ∷ []) lost 0
fair_misled = fairness_demand lost (run 4 ∷ []) 0 (omega (arith, fit_full.count)) runs_on (omega (arith, bound_full, four))
  where
    to_late : (after (run 4) lost ≡ host_steps 4 lost) × (steps_of (run 4) lost ≡ 4)
    to_late = after_run lost fit_misled 4 (omega arith) (some 2 full_left)

    runs_on : StaysRunning (run 4 ∷ []) lost 0
    runs_on = runs_onward _ _ lost (host_steps 4 lost) 0 (unfold computing in refl) to_late.0 (runs_at_end (host_steps 4 lost) 0 (unfold computing in refl))

    four : steps_made (run 4 ∷ []) lost ≡ 4
    four = unfold steps_made in simp to_late.1 (unfold steps_of in refl)
