-- Two houses that have the same of partition 0, which is current, and differ in all else that they may: partition 1's pages, frames, registers, special
-- registers, table, timer, latest fault, counter and shadow, the size of the memory, frame 0, and the frames of others. A run of seven steps comes to the same
-- in both, step by step: what isolation says of two houses after a step is what it asks of them before the next.
use mathlib.Core.Path.{◌≡◌, refl, sym, ap, subst, ◌∙◌}
use mathlib.Core.Bool.{Bool, true, false}
use mathlib.Core.List.{List, [], ◌∷◌, ◌++◌}
use Prim.Native.Nat.{ℕ, zero, suc, ◌+◌, ◌*◌, ◌^◌, ◌<◌}
use native.Mathlib.Omega.{arith}
use lib.Count.{count_trailing_zeros}
use lib.ListN.{get_or, replicate}
use Rattle.dlx.specs.Words.{extended_by, read_in, holds}
use Rattle.dlx.specs.Instructions.{register_type, part_type, instruction_of}
use Rattle.dlx.specs.Fields.{field, put, width, brought, placed}
use Rattle.dlx.specs.Processor.{fresh_of, special_of, with_special, with_count}
use Rattle.dlx.specs.Interrupts.{level_of, interrupted}
use Rattle.dlx.specs.Timer.{ticked, raised}
use Rattle.dlx.specs.Execute.{written, value_of, overflows_of, operated, reached, loads, stores, moved_to, trap_of, effect_of}
use Rattle.dlx.specs.Machine.{executed, fetched, loaded, stored, accessed, received, after_read, after_write, left as left_by, handled, changed as changed_by, settled, retabled, step, asked, request_of as effect_request}
use Rattle.dlx.specs.Parts.{inner, outer}
use Rattle.dlx.proofs.Parts.{part_at}
use Rattle.addresses.specs.Entries.{entry_of, judged}
use Rattle.addresses.specs.Walk.{walked, direct}
use Rattle.addresses.specs.Memory.{hosted, given, filled, looked, served, host_read, emptied, host_written, host_reads, host_writes}
use Rattle.addresses.specs.Premises.{Own}
use Rattle.tickets.specs.Queues.{queues, sending, taking, desk}
use Rattle.house.specs.Lists.{list_from, any, first_from}
use Rattle.house.specs.House.{fresh_shadows, partition, pages_of, registers_of, frames_of, shadow_of, queues_of, turn_now, turn}
use Rattle.house.specs.Boot.{Verdict, sum, first_of, boot_verdict, laid, offset, booted_house}
use Rattle.house.specs.Turns.{World, world, next_from, turn_of, request_now, reply_now, queues_next, guest_step, settled_house, step_with, host_step, host_steps}
use Rattle.house.specs.Sound.{LaidOut}
use Rattle.house.specs.Calls.{run_call, started, stopped, emptied_house}
use Rattle.house.specs.declared.Turn.{Turn}
use Rattle.dlx.specs.declared.partition.Partition.{Partition}
use Rattle.demands.specs.Histories.{Boot, booted, run, start, stop}
use Rattle.demands.specs.Demands.{AgreeOn, MayStep, SameFor, OwnAlone}
use Rattle.demands.proofs.Booted.FreshHouse.{booted_whole, booted_ready}
use Rattle.house.proofs.Lists.Bounded.{one_way}
use Rattle.house.proofs.Damage.Undamaged.{undamaged_gives}
use Rattle.house.proofs.Turns.SameLayout.{steps_layout}
use Rattle.demands.proofs.Isolation.IsolatedRun.{own_of, agree_in}
use Rattle.demands.proofs.Instances.ClosedCalls.{below, below_at, Fit, fit_after, run_verdict_lem, after_run, after_start, after_stop}
use Rattle.demands.proofs.Instances.TwoGuests.{first_guest, its_table, two_guests, lonely, fit_lonely, lonely_left}
use Rattle.demands.proofs.Demands.{isolation_demand, every_step}

abbrev zeros : ℕ → List ℕ
zeros n = replicate n 0

-- Partition 1 here: PTO = 1, PTL = 2, TCOUNT = TLOAD = 100, user mode; a load through entry 1, and one beyond PTL, which fails by fault 1.
abbrev other_guest : List ℕ
other_guest = 0x20010001 ∷ 0x002001D1 ∷ 0x20020002 ∷ 0x00400211 ∷ 0x20040064 ∷ 0x00800291 ∷ 0x008002D1 ∷ 0x00200191 ∷ 0x8C031000 ∷ 0x8C032000 ∷ []

-- seven frames: partition 0 has 4 and 1, as in the other house, partition 1 has 5 and 2; nobody's words are 9 and 7
abbrev memory : List ℕ
memory = replicate 1024 9 ++ (its_table ++ (zeros 1022 ++ (its_table ++ (zeros 1022 ++ (replicate 1024 7 ++ (first_guest ++ (zeros 1016 ++ (other_guest ++ zeros 2038))))))))

pub other_guests : Boot
unfolding boot_verdict first_of any first_from sum
other_guests = record { pages = 2 ∷ 2 ∷ []; q = 3; frames = 4 ∷ 1 ∷ 5 ∷ 2 ∷ []; memory = memory; done = refl }

memory_words : (i : ℕ) → get_or other_guests.memory i 0 < 2 ^ 32
unfolding other_guests below
memory_words = below_at memory refl

-- all that a step computes with
computing : ℕ
unfolding fresh_shadows two_guests other_guests inner outer list_from any laid offset booted_house next_from turn_of request_now reply_now queues_next desk sending taking asked effect_request guest_step settled_house step_with host_step host_steps started stopped emptied_house judged walked direct hosted given filled looked served host_read emptied host_written host_reads host_writes step fetched executed loaded stored accessed received after_read after_write left_by handled changed_by settled retabled instruction_of register_type effect_of written value_of overflows_of operated reached loads stores moved_to trap_of special_of with_special with_count ticked raised interrupted level_of count_trailing_zeros extended_by read_in holds part_type field put width brought placed
computing = 0

-- ---- its history: partition 1 alone makes ten steps, and then partition 0 has the turn, alone, as in the house `lonely`

abbrev begun : World
begun = booted other_guests

abbrev theirs : World
theirs = world (stopped begun.house 0) begun.memory

abbrev ran : World
ran = host_steps 10 theirs

abbrev both_run : World
both_run = world (started ran.house 0) ran.memory

abbrev pub second : World
second = world (stopped both_run.house 1) both_run.memory

some : {n : ℕ} (k : ℕ) → n ≡ suc k → n ≡ 0 → ⊥
some k e z = omega arith

fit_begun : Fit 2 begun
unfolding booted_house other_guests
fit_begun = record { typed = (booted_ready other_guests memory_words).typed; whole = booted_whole other_guests; size = refl; count = refl }

fit_theirs : Fit 2 theirs
fit_theirs = fit_after begun fit_begun (stop 0) (after_stop begun fit_begun 0 (omega arith))

fit_ran : Fit 2 ran
fit_ran = fit_after theirs fit_theirs (run 10) (after_run theirs fit_theirs 10 (omega arith) (some 2 (unfold computing in refl))).0

fit_both : Fit 2 both_run
fit_both = fit_after ran fit_ran (start 0) (after_start ran fit_ran 0 (omega arith))

fit_second : Fit 2 second
fit_second = fit_after both_run fit_both (stop 1) (after_stop both_run fit_both 1 (omega arith))

-- ---- what they have in common, and what not

no_tickets : (queues_of lonely.house ≡ queues (zeros 256) (zeros 8)) × (queues_of second.house ≡ queues (zeros 256) (zeros 8))
no_tickets = (unfold computing in refl, unfold computing in refl)

fresh : (partition lonely.house 0 ≡ fresh_of 2) × (partition second.house 0 ≡ fresh_of 2)
fresh = (unfold computing in refl, unfold computing in refl)

registers_0 : (registers_of lonely.house 0 ≡ zeros 32) × (registers_of second.house 0 ≡ zeros 32)
registers_0 = (unfold computing in refl, unfold computing in refl)

frames_0 : (frames_of lonely.house 0 ≡ 4 ∷ 1 ∷ zeros 254) × (frames_of second.house 0 ≡ 4 ∷ 1 ∷ zeros 254)
frames_0 = (unfold computing in refl, unfold computing in refl)

shadow_0 : (shadow_of lonely.house 0 ≡ zeros 1024) × (shadow_of second.house 0 ≡ zeros 1024)
shadow_0 = (unfold computing in refl, unfold computing in refl)

-- partition 0 runs, and no other
abbrev flags : List Bool
flags = true ∷ replicate 7 false

running_0 : (lonely.house.running ≡ flags) × (second.house.running ≡ flags)
running_0 = (unfold computing in refl, unfold computing in refl)

turn_0 : (turn_now lonely.house ≡ turn 0 3) × (turn_now second.house ≡ turn 0 3)
turn_0 = (unfold computing in refl, unfold computing in refl)

q_3 : (lonely.house.q ≡ 3) × (second.house.q ≡ 3)
q_3 = (unfold computing in refl, unfold computing in refl)

pub common : SameFor lonely.house second.house 0
common = record {
  part = fresh.0 ∙ sym fresh.1;
  registers = registers_0.0 ∙ sym registers_0.1;
  frames = frames_0.0 ∙ sym frames_0.1;
  shadow = shadow_0.0 ∙ sym shadow_0.1;
  count = fit_lonely.count ∙ sym fit_second.count;
  queues = no_tickets.0 ∙ sym no_tickets.1;
  turn = turn_0.0 ∙ sym turn_0.1;
  q = q_3.0 ∙ sym q_3.1;
  running = running_0.0 ∙ sym running_0.1;
}

-- partition 1: pages, a frame, a register, EDPC, PTO, TCOUNT, the latest fault, the counter and a shadow entry; the memory's size, a word of frame 0, the
-- last word of frame 3, which is partition 1's in the one house and nobody's in the other
abbrev told : World → List ℕ
told w =
    let p = partition w.house 1 in
    p.pages ∷ get_or (frames_of w.house 1) 0 0 ∷ get_or (registers_of w.house 1) 2 0 ∷ p.processor.edpc ∷ p.table.pto ∷ p.timer.tcount ∷ p.fault ∷ p.counter
    ∷ get_or (shadow_of w.house 1) 1 0 ∷ w.house.words ∷ get_or w.memory 0 0 ∷ get_or w.memory 4095 0 ∷ []

pub apart : (told lonely ≡ 1 ∷ 3 ∷ 0 ∷ 0 ∷ 0 ∷ 0 ∷ 0 ∷ 0 ∷ 0 ∷ 5120 ∷ 0 ∷ 0 ∷ []) × (told second ≡ 2 ∷ 5 ∷ 2 ∷ 36 ∷ 1 ∷ 96 ∷ 1 ∷ 10 ∷ entry_of 2 0 ∷ 7168 ∷ 9 ∷ 7 ∷ [])
apart = (unfold computing in refl, unfold computing in refl)

-- partition 0's frames, as wholes
frame_4 : (inner 4096 1024 lonely.memory ≡ first_guest ++ zeros 1016) × (inner 4096 1024 second.memory ≡ first_guest ++ zeros 1016)
frame_4 = (unfold computing in refl, unfold computing in refl)

frame_1 : (inner 1024 1024 lonely.memory ≡ its_table ++ zeros 1022) × (inner 1024 1024 second.memory ≡ its_table ++ zeros 1022)
frame_1 = (unfold computing in refl, unfold computing in refl)

by_word : (x : ℕ) (m m' : List ℕ) → inner x 1024 m ≡ inner x 1024 m' → (j : ℕ) → j < 1024 → get_or m (x + j) 0 ≡ get_or m' (x + j) 0
by_word x m m' e j l = sym (part_at m x 1024 j l) ∙ ap (λ (f : List ℕ). get_or f j 0) e ∙ part_at m' x 1024 j l

agree : AgreeOn lonely.house 0 lonely.memory second.memory
agree zero j l b = rw frames_0.0 (by_word 4096 lonely.memory second.memory (frame_4.0 ∙ sym frame_4.1) j b)
agree (suc zero) j l b = rw frames_0.0 (by_word 1024 lonely.memory second.memory (frame_1.0 ∙ sym frame_1.1) j b)
agree (suc (suc k)) j l b = absurd (unfold computing in omega (arith, l))

not_3 : (fr : List ℕ) (n : ℕ) → fr ≡ 4 ∷ 1 ∷ zeros 254 → n ≡ 2 → Own fr n 3 → ⊥
not_3 fr n e p (zero, l, o) = omega (arith, sym (ap (λ (x : List ℕ). get_or x 0 0) e) ∙ o)
not_3 fr n e p (suc zero, l, o) = omega (arith, sym (ap (λ (x : List ℕ). get_or x 1 0) e) ∙ o)
not_3 fr n e p (suc (suc k), l, o) = omega arith

-- ---- the run: every step of it can be made, in each, and is partition 0's

abbrev one : ℕ → World
one n = host_steps n lonely

abbrev other : ℕ → World
other n = host_steps n second

may_step : (w : World) → Fit 2 w → w.house.left ≡ 3 → (n : ℕ) → n < 7 → MayStep (host_steps n w)
unfolding run_call
may_step w f e n l = (every_step w 7 n f.typed (ap (λ (v : Verdict). v.number) (run_verdict_lem w f 7 (omega arith) (some 2 e))) l).1

still : (n : ℕ) → (one n).house.running ≡ flags
unfolding host_steps host_step step_with settled_house
still zero = running_0.0
still (suc n) = still n

first : (i : ℕ) → get_or flags i false ≡ true → i ≡ 0
first zero e = refl
first (suc i) e = absurd (one_way (get_or (replicate {A = Bool} 7 false) i false) e (none 7 i))
  where
    none : (k j : ℕ) → get_or (replicate {A = Bool} k false) j false ≡ false
    none zero j = refl
    none (suc k) zero = refl
    none (suc k) (suc j) = none k j

here : (n : ℕ) → n < 7 → (one n).house.current ≡ 0
here n l =
    let m = may_step lonely fit_lonely lonely_left n l in
    first (one n).house.current (subst (λ (r : List Bool). get_or r (one n).house.current false ≡ true) (still n) ((undamaged_gives (one n).house m.whole).busy m.busy).1)

-- ---- what holds before each step: the same of partition 0; and what is not its own, as it was

pub record InStep (n : ℕ) : Type 0 where
  pub same : SameFor (one n).house (other n).house 0
  pub own : AgreeOn (one n).house 0 (one n).memory (other n).memory
  pub theirs : get_or (one n).memory 4095 0 ≡ 0
  pub nobodys : get_or (other n).memory 4095 0 ≡ 7
  pub fault : (partition (other n).house 1).fault ≡ 1

isolated : (n : ℕ) → n < 7 → InStep n → OwnAlone (one n) (other n) (host_step (one n)) (host_step (other n)) 0
isolated n l s =
    let may = may_step lonely fit_lonely lonely_left n l in
    let may' = may_step second fit_second (ap (λ (t : Turn). t.left) turn_0.1) n l in
    subst (λ (i : ℕ). OwnAlone (one n) (other n) (host_step (one n)) (host_step (other n)) i) (here n l)
    (isolation_demand (one n) (other n) may may'
    (subst (λ (i : ℕ). SameFor (one n).house (other n).house i) (sym (here n l)) s.same)
    (subst (λ (i : ℕ). AgreeOn (one n).house i (one n).memory (other n).memory) (sym (here n l)) s.own))

pub in_step : (n : ℕ) → n < 8 → InStep n
unfolding host_steps
in_step zero l = record {
  same = common;
  own = agree;
  theirs = ap (λ (x : List ℕ). get_or x 11 0) apart.0;
  nobodys = ap (λ (x : List ℕ). get_or x 11 0) apart.1;
  fault = ap (λ (x : List ℕ). get_or x 6 0) apart.1;
}
in_step (suc n) l =
    let s = in_step n (omega arith) in
    let o = isolated n (omega arith) s in
    let a = steps_layout n lonely in
    let b = steps_layout n second in
    let u = not_3 (frames_of lonely.house 0) (pages_of lonely.house 0) frames_0.0 (ap (λ (p : Partition). p.pages) fresh.0) in
    let v = not_3 (frames_of second.house 0) (pages_of second.house 0) frames_0.1 (ap (λ (p : Partition). p.pages) fresh.1) in
    record {
      same = o.same;
      own = agree_in (one n).house (one (suc n)).house o.rest.layout 0 (one (suc n)).memory (other (suc n)).memory o.own;
      theirs = o.foreign 3 1023 (λ x. u (own_of lonely.house (one n).house a 0 3 x)) (omega arith) ∙ s.theirs;
      nobodys = o.foreign' 3 1023 (λ x. v (own_of second.house (other n).house b 0 3 x)) (omega arith) ∙ s.nobodys;
      fault = ap (λ (p : Partition). p.fault) (o.rest'.records 1 (omega arith) (λ e. omega arith)) ∙ s.fault;
    }

-- ---- so what the one house comes to tells what the other does: the store, its seventh step, emptied entry 1 of its shadow, and stands in its frame 1

pub stored_in_one : (get_or (shadow_of (one 7).house 0) 1 0 ≡ 0) × (get_or (registers_of (one 7).house 0) 3 0 ≡ 0x800) × (get_or (one 7).memory 1025 0 ≡ 0x800) × ((one 7).house.left ≡ 2)
stored_in_one = unfold computing in (refl, refl, refl, refl)

pub stored_in_both : (get_or (shadow_of (other 7).house 0) 1 0 ≡ 0) × (get_or (registers_of (other 7).house 0) 3 0 ≡ 0x800) × (get_or (other 7).memory 1025 0 ≡ 0x800) × ((other 7).house.left ≡ 2)
stored_in_both =
    let s = in_step 7 (omega arith) in (
      ap (λ (x : List ℕ). get_or x 1 0) (sym s.same.shadow) ∙ stored_in_one.0,
      ap (λ (x : List ℕ). get_or x 3 0) (sym s.same.registers) ∙ stored_in_one.1,
      sym (subst (λ (x : ℕ). get_or (one 7).memory x 0 ≡ get_or (other 7).memory x 0) place (s.own 1 1 pages (omega arith))) ∙ stored_in_one.2,
      ap (λ (t : Turn). t.left) (sym s.same.turn) ∙ stored_in_one.3,
    )
  where
    a : LaidOut lonely.house (one 7).house
    a = steps_layout 7 lonely

    place : get_or (frames_of (one 7).house 0) 1 0 * 1024 + 1 ≡ 1025
    place = ap (λ (x : List ℕ). get_or (inner 0 256 x) 1 0 * 1024 + 1) a.frames ∙ ap (λ (x : List ℕ). get_or x 1 0 * 1024 + 1) frames_0.0

    pages : 1 < pages_of (one 7).house 0
    pages = omega (arith, a.pages 0, ap (λ (p : Partition). p.pages) fresh.0)

pub kept_in_both : (get_or (one 7).memory 4095 0 ≡ 0) × (get_or (other 7).memory 4095 0 ≡ 7) × ((partition (other 7).house 1).fault ≡ 1)
kept_in_both = let s = in_step 7 (omega arith) in (s.theirs, s.nobodys, s.fault)
