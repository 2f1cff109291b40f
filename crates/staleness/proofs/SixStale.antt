-- What is computed of the house with six stale entries (specs/Examples.antt): it is not damaged, and an audit, a count and a mend come to what they must.
use mathlib.Core.Path.{◌≡◌, refl, sym, ap, ◌∙◌}
use mathlib.Core.Bool.{Bool, true, false, not}
use mathlib.Core.List.{List, ◌∷◌}
use Prim.Native.Nat.{ℕ, zero, suc, ◌+◌, ◌-◌, ◌*◌, ◌^◌, ◌<◌}
use native.Mathlib.Omega.{arith}
use borrow.Author.Tests.{ltb-true, ltb-false, eqb-true}
use lib.Dec.{ltb, eqb}
use lib.ListN.{get_or, take, drop, replicate, length-take, get_or-eq_default}
use lib.Seq.{get_or-take, get_or-drop}
use Rattle.dlx.specs.Choice.{when◌then◌else◌}
use Rattle.dlx.specs.Processor.{fresh_of, with_table, with_counter}
use Rattle.dlx.specs.Parts.{inner}
use Rattle.dlx.specs.declared.partition.Partition.{Partition}
use Rattle.dlx.proofs.Kept.{either}
use Rattle.dlx.proofs.Tests.{by_test, get_or_replicate_same}
use Rattle.addresses.specs.Entries.{judged}
use Rattle.addresses.specs.Walk.{entries, walked}
use Rattle.addresses.specs.Memory.{hosted, given, stale}
use Rattle.addresses.proofs.Kept.{zeros_words}
use Rattle.house.specs.Lists.{list_from, any, first_from}
use Rattle.house.specs.House.{fresh_shadows, no_partition, shadow_of, guests, turn, layout}
use Rattle.house.specs.Boot.{verdict, first_of, sum}
use Rattle.house.specs.Calls.{answered}
use Rattle.house.specs.Turns.{stale_at}
use Rattle.house.specs.Damage.{outside_limits, frame_twice, turn_wrong, registers_wrong, shadow_wrong, unused_wrong, partition_used, queues_wrong, damaged}
use Rattle.house.specs.Sound.{TypedPartition, Typed}
use Rattle.house.proofs.Damage.Updates.{none_typed, layout_typed, turn_typed, guests_shaped, guests_typed, fresh_typed, unused_typed}
use Rattle.house.proofs.Lists.Bounded.{any_none, any_same}
use Rattle.house.proofs.Lists.ByRule.{get_or_list_from, length_list_from}
use Rattle.demands.proofs.Instances.ClosedCalls.{below, below_at}
use Rattle.staleness.specs.Audit.{audit_verdict, finding, audit_call, count_of, stale_counts, counts, counts_call, kept_at, mended, mend_call}
use Rattle.staleness.specs.Examples.{theirs, entered, remaining, ours, six_stale, outgrown, unlike}
use Rattle.staleness.proofs.Mending.{mended_entry}
use Rattle.staleness.proofs.Searching.{first_found}

-- ---- what stands at a place of a list, without walking there

rule_at : (f : ℕ → ℕ) (n i : ℕ) → get_or (list_from f 0 n) i 0 ≡ (when ltb i n then f i else 0)
rule_at f n i =
    by_test (ltb i n)
    (λ e. let z : 0 + i ≡ i = omega arith in rw (e, get_or_list_from f 0 0 n i (ltb-true i n e), z))
    (λ e. rw (e, get_or-eq_default (list_from f 0 n) 0 {n = i} (omega (arith, ltb-false i n e, length_list_from f 0 n))))

part_at : (a s : ℕ) (m : List ℕ) (i : ℕ) → get_or (inner a s m) i 0 ≡ (when ltb i s then get_or m (a + i) 0 else 0)
unfolding inner
part_at a s m i =
    by_test (ltb i s)
    (λ e. rw (e, get_or-take s (drop a m) i 0 (ltb-true i s e), get_or-drop a m i 0))
    (λ e. rw (e, get_or-eq_default (take s (drop a m)) 0 {n = i} (omega (arith, ltb-false i s e, length-take s (drop a m)))))

computing : ℕ
unfolding inner judged walked hosted given stale list_from any first_from fresh_shadows partition_used count_of
computing = 0

-- ---- by computing

whole : damaged six_stale.house ≡ false
whole = unfold damaged outside_limits frame_twice turn_wrong registers_wrong shadow_wrong unused_wrong queues_wrong in simp (part_at, rule_at, get_or_replicate_same) (unfold computing in refl)

none_before : any (λ i. ltb (first_from (λ px. stale_at six_stale i px) 0 entries) entries) 1 ≡ false
none_before = simp (part_at, rule_at) (unfold computing in refl)

its_page : first_from (λ px. stale_at six_stale 1 px) 0 entries ≡ 2
its_page = simp (part_at, rule_at) (unfold computing in refl)

pub six_counts : stale_counts six_stale ≡ 0 ∷ 1 ∷ 3 ∷ 2 ∷ replicate 4 0
unfolding stale_counts
six_counts = counted
  where
    counted : list_from (λ i. when ltb i 4 then count_of (λ px. stale_at six_stale i px) entries else 0) 0 8 ≡ 0 ∷ 1 ∷ 3 ∷ 2 ∷ replicate 4 0
    counted = simp (part_at, rule_at) (unfold computing in refl)

kept_so : unlike (kept_at six_stale) remaining ≡ false
kept_so = simp (part_at, rule_at) (unfold computing in refl)

pub kept_is : (i px : ℕ) → i < 4 → px < entries → kept_at six_stale i px ≡ remaining (i * entries + px)
kept_is i px l m =
    let same : ℕ → ℕ → Bool = λ i px. eqb (kept_at six_stale i px) (remaining (i * entries + px)) in
    eqb-true _ _ (not_false _ (any_none (λ px. not (same i px)) entries (any_none (λ i. any (λ px. not (same i px)) entries) 4 kept_so i l) px m))
  where
    not_false : (b : Bool) → not b ≡ false → b ≡ true
    not_false true e = refl
    not_false false e = sym e

pub entered_so : unlike (λ i px. get_or (shadow_of six_stale.house i) px 0) entered ≡ false
entered_so = simp (part_at, rule_at) (unfold computing in refl)

-- ---- the three answers

pub six_audit : audit_call six_stale ≡ finding 0 true 1 2
unfolding audit_call audit_verdict first_of
six_audit = simp whole (first_found six_stale 1 none_before (omega arith) (omega (arith, its_page)) ∙ ap (finding 0 true 1) its_page)

pub six_count : counts_call six_stale ≡ counts 0 (0 ∷ 1 ∷ 3 ∷ 2 ∷ replicate 4 0)
unfolding counts_call audit_verdict first_of
six_count = simp (whole, six_counts)

pub six_mend : mend_call six_stale ≡ answered (verdict 0 6) (mended six_stale)
unfolding mend_call audit_verdict first_of
six_mend = simp (whole, six_counts) (unfold sum in refl)

pub six_left : unlike (λ i px. get_or (shadow_of (mended six_stale).house i) px 0) remaining ≡ false
unfolding mended
six_left =
    any_same _ _ 4 (λ i l. any_same _ _ entries (λ px m.
    ap (λ (e : ℕ). not (eqb e (remaining (i * entries + px)))) (mended_entry six_stale (length_list_from entered 0 8192) 4 i px l (omega arith) m)))
    ∙ kept_so

-- ---- refused

pub outgrown_audit : audit_call outgrown ≡ finding 9 false 0 0
unfolding audit_call audit_verdict first_of
outgrown_audit = simp whole

pub outgrown_count : counts_call outgrown ≡ counts 9 (replicate 8 0)
unfolding counts_call audit_verdict first_of
outgrown_count = simp whole

pub outgrown_mend : mend_call outgrown ≡ answered (verdict 9 0) outgrown
unfolding mend_call audit_verdict first_of
outgrown_mend = simp whole

-- ---- its numbers are words

small : (b : Bool) {x y : ℕ} → x < 2 ^ 32 → y < 2 ^ 32 → (when b then x else y) < 2 ^ 32
small b l m = either (λ (n : ℕ). n < 2 ^ 32) b (λ _. l) (λ _. m)

frames_words : (k : ℕ) → get_or (list_from theirs 0 2048) k 0 < 2 ^ 32
frames_words k =
    rw (rule_at theirs 2048 k)
    (small (ltb k 2048) (small (eqb k 0) (omega arith) (small (eqb k 256) (omega arith) (small (eqb k 257) (omega arith) (small (eqb k 258) (omega arith)
    (small (eqb k 512) (omega arith) (small (eqb k 768) (omega arith) (omega arith))))))) (omega arith))

entries_words : (k : ℕ) → get_or (list_from entered 0 8192) k 0 < 2 ^ 32
entries_words k =
    rw (rule_at entered 8192 k)
    (small (ltb k 8192) (small (eqb k 1024) (omega arith) (small (eqb k 1025) (omega arith) (small (eqb k 1026) (omega arith) (small (eqb k 1029) (omega arith)
    (small (eqb k 2048) (omega arith) (small (eqb k 2051) (omega arith) (small (eqb k 2748) (omega arith) (small (eqb k 3072) (omega arith) (small (eqb k 3073) (omega arith)
    (small (eqb k 3074) (omega arith) (small (eqb k 4095) (omega arith) (omega arith)))))))))))) (omega arith))

unused_each : (n i : ℕ) → TypedPartition (get_or (replicate n no_partition) i no_partition)
unused_each zero i = unused_typed
unused_each (suc n) zero = unused_typed
unused_each (suc n) (suc i) = unused_each n i

module _ (p : Partition) (t : TypedPartition p) where
  counter_typed : (n : ℕ) → n < 2 ^ 64 → TypedPartition (with_counter p n)
  counter_typed n l = record {
    pages = t.pages;
    dpc = t.dpc;
    pc = t.pc;
    sr = t.sr;
    esr = t.esr;
    eca = t.eca;
    epc = t.epc;
    edpc = t.edpc;
    edata = t.edata;
    mode = t.mode;
    emode = t.emode;
    pto = t.pto;
    ptl = t.ptl;
    tcount = t.tcount;
    tload = t.tload;
    counter = l;
    fault = t.fault;
  }

  table_typed : (pto ptl : ℕ) → pto < 2 ^ 32 → ptl < 2 ^ 32 → TypedPartition (with_table p (record { pto = pto; ptl = ptl }))
  table_typed pto ptl a b = record {
    pages = t.pages;
    dpc = t.dpc;
    pc = t.pc;
    sr = t.sr;
    esr = t.esr;
    eca = t.eca;
    epc = t.epc;
    edpc = t.edpc;
    edata = t.edata;
    mode = t.mode;
    emode = t.emode;
    pto = a;
    ptl = b;
    tcount = t.tcount;
    tload = t.tload;
    counter = t.counter;
    fault = t.fault;
  }

guest_typed : TypedPartition (get_or ours 1 no_partition)
guest_typed = record {
  pages = omega arith;
  dpc = omega arith;
  pc = omega arith;
  sr = omega arith;
  esr = omega arith;
  eca = omega arith;
  epc = omega arith;
  edpc = omega arith;
  edata = omega arith;
  mode = omega arith;
  emode = omega arith;
  pto = omega arith;
  ptl = omega arith;
  tcount = omega arith;
  tload = omega arith;
  counter = omega arith;
  fault = omega arith;
}

each_typed : (i : ℕ) → TypedPartition (get_or ours i no_partition)
each_typed zero = counter_typed (fresh_of 1) (fresh_typed 1 (omega arith)) (2 ^ 64 - 1) (omega arith)
each_typed (suc zero) = guest_typed
each_typed (suc (suc zero)) = table_typed (fresh_of 1) (fresh_typed 1 (omega arith)) 0 4 (omega arith) (omega arith)
each_typed (suc (suc (suc zero))) = table_typed (fresh_of 1) (fresh_typed 1 (omega arith)) 0 4 (omega arith) (omega arith)
each_typed (suc (suc (suc (suc i)))) = unused_each 4 i

memory_words : (k : ℕ) → get_or six_stale.memory k 0 < 2 ^ 32
unfolding below
memory_words = below_at six_stale.memory refl

pub six_typed : Typed six_stale
six_typed =
    let a = layout_typed _ _ (none_typed six_stale.memory memory_words) (layout 4 1 7168 (list_from theirs 0 2048)) (omega arith) (omega arith) (omega arith) (length_list_from theirs 0 2048) frames_words in
    let b = turn_typed _ _ a (true ∷ false ∷ true ∷ true ∷ replicate 4 false) (turn 0 1) refl (omega arith) (omega arith) in
    let g = guests ours (replicate 256 0) (list_from entered 0 8192) in
    guests_typed _ _ b g (guests_shaped _ b.shaped g refl refl (length_list_from entered 0 8192)) each_typed (zeros_words 256) entries_words
