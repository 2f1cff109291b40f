-- A booted house: its parts, place by place; and that it is not damaged, so that a host step can be made of it.
use mathlib.Core.Path.{◌≡◌, refl, sym, ap, ◌∙◌}
use mathlib.Core.Bool.{false}
use mathlib.Core.List.{List}
use Prim.Native.Nat.{ℕ, ◌+◌, ◌*◌, ◌/◌, ◌%◌, ◌^◌, ◌<◌, ◌≤◌}
use native.Mathlib.Omega.{arith}
use borrow.Author.Tests.{eq-eqb, ltb-true, ltb-false, lt-ltb, le-ltb}
use lib.Dec.{ltb}
use lib.ListN.{length, get_or, replicate, length-replicate, get_or-eq_default}
use Rattle.dlx.specs.Choice.{when◌then◌else◌}
use Rattle.dlx.specs.Processor.{fresh_of}
use Rattle.dlx.specs.declared.partition.Partition.{Partition}
use Rattle.dlx.proofs.Kept.{either}
use Rattle.addresses.specs.Walk.{entries}
use Rattle.addresses.specs.Memory.{fresh_shadow}
use Rattle.addresses.proofs.Kept.{zeros_words}
use Rattle.dlx.proofs.Tests.{by_test, get_or_replicate_same}
use Rattle.house.specs.Lists.{list_from}
use Rattle.house.specs.House.{all_entries, fresh_shadows, no_partition, no_house, turn, partition, pages_of, runs, registers_of, frames_of, shadow_of}
use Rattle.house.specs.Damage.{damaged}
use Rattle.house.specs.Boot.{boot_verdict, offset, laid, booted_house}
use Rattle.house.specs.Sound.{Shaped, Unused, Undamaged, TypedPartition, Typed, Ready}
use Rattle.house.specs.Calls.{boot_call}
use Rattle.demands.specs.Histories.{Boot, booted}
use Rattle.house.specs.declared.House.{House}
use Rattle.house.proofs.Damage.Updates.{fresh_long, fresh_at, none_shaped, layout_shaped, turn_shaped, guests_shaped, fresh_typed, unused_typed, none_typed, layout_typed, turn_typed, guests_typed}
use Rattle.house.proofs.Lists.Bounded.{by_order}
use Rattle.house.proofs.Lists.ByRule.{length_list_from, list_from_at}
use Rattle.house.proofs.Damage.Conditions.{empty_proper}
use Rattle.dlx.proofs.Parts.{part_at, inner_replicate}
use Rattle.house.proofs.Boot.Offsets.{offset_below, offset_in, laid_page, laid_behind, laid_after}
use Rattle.house.proofs.Calls.Verdicts.{BootDone, boot_done}
use Rattle.house.proofs.Damage.Denied.{undamaged_from}

module _ (b : Boot) where
  abbrev ps : List ℕ
  ps = b.pages

  abbrev q : ℕ
  q = b.q

  abbrev fr : List ℕ
  fr = b.frames

  abbrev words : ℕ
  words = length b.memory

  abbrev h : House
  h = (booted b).house

  -- what boot's call leaves
  pub booted_is : (boot_call ps q fr b.memory).world ≡ booted b
  unfolding boot_call
  booted_is = rw (eq-eqb (boot_verdict ps q fr words).number 0 b.done)

  -- ---- the parts of the booted house

  pub booted_shaped : Shaped h
  unfolding booted_house
  booted_shaped =
      layout_shaped _
      (guests_shaped _ (turn_shaped no_house none_shaped _ _ (length_list_from (λ i. ltb i (length ps)) 0 8)) _
      (length_list_from _ 0 8) (length-replicate {A = ℕ} 256 0) fresh_long)
      _ (length_list_from (laid ps fr) 0 2048)

  pub booted_runs : (i : ℕ) → i < 8 → runs h i ≡ ltb i (length ps)
  unfolding booted_house
  booted_runs i l = list_from_at (λ i. ltb i (length ps)) false 8 i l

  booted_place : (i : ℕ) → i < 8 → partition h i ≡ (when ltb i (length ps) then fresh_of (get_or ps i 0) else no_partition)
  unfolding booted_house
  booted_place i l = list_from_at (λ i. when ltb i (length ps) then fresh_of (get_or ps i 0) else no_partition) no_partition 8 i l

  pub booted_registers : (i : ℕ) → i < 8 → registers_of h i ≡ replicate 32 0
  unfolding booted_house
  booted_registers i l = inner_replicate (i * 32) 32 256 (omega arith)

  pub booted_shadow : (i : ℕ) → i < 8 → shadow_of h i ≡ fresh_shadow
  unfolding booted_house fresh_shadows
  booted_shadow i l = inner_replicate (i * entries) entries all_entries (omega arith)

  booted_laid : (i k : ℕ) → i < 8 → k < 256 → get_or (frames_of h i) k 0 ≡ laid ps fr (i * 256 + k)
  unfolding booted_house
  booted_laid i k l m =
      part_at (list_from (laid ps fr) 0 2048) (i * 256) 256 k m ∙ list_from_at (laid ps fr) 0 2048 (i * 256 + k) (omega arith)

  d : BootDone ps q fr words
  d = boot_done ps q fr words b.done

  pub booted_few : length ps ≤ 8
  booted_few = d.count.1

  module _ (i : ℕ) (l : i < length ps) where
    pub booted_partition : partition h i ≡ fresh_of (get_or ps i 0)
    booted_partition = booted_place i (omega (arith, booted_few)) ∙ rw (lt-ltb i (length ps) l)

    pub booted_pages : pages_of h i ≡ get_or ps i 0
    booted_pages = ap (λ (p : Partition). p.pages) booted_partition

    pub booted_frames : (k : ℕ) → k < get_or ps i 0 → get_or (frames_of h i) k 0 ≡ get_or fr (offset ps i + k) 0
    booted_frames k m =
        let n : k < 256 = omega (arith, (d.pages i l).1) in
        booted_laid i k (omega (arith, booted_few)) n ∙ laid_page ps fr i k m (d.pages i l).1

    pub booted_behind : (k : ℕ) → k < 256 → get_or ps i 0 ≤ k → get_or (frames_of h i) k 0 ≡ 0
    booted_behind k n m = booted_laid i k (omega (arith, booted_few)) n ∙ laid_behind ps fr i (i * 256 + k) (omega arith) (omega arith)

    -- its frames stand in the list
    booted_within : (k : ℕ) → k < get_or ps i 0 → offset ps i + k < length fr
    booted_within k m = omega (arith, offset_in ps i, d.long)

  module _ (i : ℕ) (l : length ps ≤ i) (m : i < 8) where
    booted_unused : Unused h i
    booted_unused = record {
      still = booted_runs i m ∙ le-ltb i (length ps) l;
      none = booted_place i m ∙ rw (le-ltb i (length ps) l);
      regs = λ k n. rw (booted_registers i m) (get_or_replicate_same 32 0 k);
      frames = λ k n. booted_laid i k m n ∙ laid_after ps fr (i * 256 + k) (omega arith);
      shadows = λ k n. rw (booted_shadow i m) (get_or_replicate_same entries 0 k);
    }

  -- one frame stands at one position of the list
  booted_once : (i j k x : ℕ) → i < length ps → j < length ps → k < get_or ps i 0 → x < get_or ps j 0 → get_or fr (offset ps i + k) 0 ≡ get_or fr (offset ps j + x) 0 → (i ≡ j) × (k ≡ x)
  booted_once i j k x l m n o r =
      let z = d.once (offset ps i + k) (offset ps j + x) (booted_within i l k n) (booted_within j m x o) r in
      by_order i j
      (λ t. absurd (omega (arith, offset_below ps i j t)))
      (λ w. let f : offset ps i ≡ offset ps j = ap (offset ps) w in (w, omega arith))
      (λ t. absurd (omega (arith, offset_below ps j i t)))

  pub booted_undamaged : Undamaged h
  unfolding booted_house
  booted_undamaged = record {
    some = d.count.0;
    few = d.count.1;
    pages = λ i l. rw (booted_pages i l) (d.pages i l);
    turns = d.turns;
    whole = d.whole;
    size = d.size;
    inside = λ i k l m.
        let n = rw (booted_pages i l) at m in
        rw (booted_frames i l k n) (d.inside (offset ps i + k) (booted_within i l k n));
    kept = λ i k l m.
        let n = rw (booted_pages i l) at m in
        rw (booted_frames i l k n) (d.kept (offset ps i + k) (booted_within i l k n));
    once = λ i j k x l m n o r.
        let n' = rw (booted_pages i l) at n in
        let o' = rw (booted_pages j m) at o in
        booted_once i j k x l m n' o' (sym (booted_frames i l k n') ∙ r ∙ booted_frames j m x o');
    idle = λ z. absurd (omega (arith, d.turns.0));
    busy = λ _. (omega (arith, d.count.0), booted_runs 0 (omega arith) ∙ lt-ltb 0 (length ps) (omega (arith, d.count.0)), omega arith);
    first = λ i l. rw (booted_registers i (omega (arith, booted_few))) (get_or_replicate_same 32 0 0);
    mode = λ i l. rw (booted_partition i l) (omega arith);
    emode = λ i l. rw (booted_partition i l) (omega arith);
    fault = λ i l. rw (booted_partition i l) (omega arith);
    proper = λ i px l m. rw (booted_shadow i (omega (arith, booted_few)), get_or_replicate_same entries 0 px) (empty_proper (frames_of h i) (pages_of h i));
    behind = λ i k l m n. booted_behind i l k n (rw (booted_pages i l) at m);
    unused = booted_unused;
    queued = λ j l. record {
      most = omega (arith, get_or_replicate_same 8 0 j);
      none = λ _. get_or_replicate_same 8 0 j;
      spare = λ k _ m. part_at (replicate 256 0) (j * 32) 32 k m ∙ get_or_replicate_same 256 0 (j * 32 + k);
    };
  }

  pub booted_whole : damaged h ≡ false
  booted_whole = undamaged_from h booted_undamaged

  -- ---- its numbers are words

  frame_word : (k : ℕ) → get_or fr k 0 < 2 ^ 32
  frame_word k =
      by_test (ltb k (length fr))
      (λ t. omega (arith, d.inside k (ltb-true k (length fr) t), d.size.1))
      (λ t. omega (arith, get_or-eq_default fr 0 {n = k} (ltb-false k (length fr) t)))

  laid_word : (j : ℕ) → laid ps fr j < 2 ^ 32
  unfolding laid
  laid_word j = either (λ (x : ℕ). x < 2 ^ 32) (ltb (j % 256) (get_or ps (j / 256) 0)) (λ _. frame_word _) (λ _. omega arith)

  frames_words : (k : ℕ) → get_or h.frames k 0 < 2 ^ 32
  unfolding booted_house
  frames_words k =
      by_test (ltb k 2048)
      (λ t. rw (list_from_at (laid ps fr) 0 2048 k (ltb-true k 2048 t)) (laid_word k))
      (λ t. omega (arith, get_or-eq_default (list_from (laid ps fr) 0 2048) 0 {n = k} (omega (arith, length_list_from (laid ps fr) 0 2048, ltb-false k 2048 t))))

  parts_typed : (i : ℕ) → TypedPartition (partition h i)
  parts_typed i =
      by_test (ltb i 8)
      (λ t. rw (booted_place i (ltb-true i 8 t)) (either TypedPartition (ltb i (length ps)) (λ u. fresh_typed (get_or ps i 0) (omega (arith, (d.pages i (ltb-true i (length ps) u)).1))) (λ _. unused_typed)))
      (λ t. rw (get_or-eq_default h.parts no_partition {n = i} (omega (arith, booted_shaped.parts, ltb-false i 8 t))) unused_typed)

  -- where the memory's words are what its type gives
  booted_typed : ((k : ℕ) → get_or b.memory k 0 < 2 ^ 32) → Typed (booted b)
  unfolding booted_house
  booted_typed t =
      let y = none_typed b.memory t in
      let l = length_list_from (λ i. ltb i (length ps)) 0 8 in
      let x = turn_typed no_house b.memory y _ (turn 0 q) l (omega arith) (omega (arith, d.turns.1)) in
      layout_typed _ b.memory
      (guests_typed _ b.memory x _
      (guests_shaped _ x.shaped _ (length_list_from _ 0 8) (length-replicate {A = ℕ} 256 0) fresh_long)
      parts_typed (zeros_words 256) (λ k. rw (fresh_at k) (omega arith)))
      _ (omega (arith, d.count.1)) (omega (arith, d.turns.1)) (omega (arith, d.size.1)) (length_list_from (laid ps fr) 0 2048) frames_words

  pub booted_ready : ((k : ℕ) → get_or b.memory k 0 < 2 ^ 32) → Ready (booted b)
  unfolding booted_house
  booted_ready t = record { typed = booted_typed t; whole = booted_undamaged; size = refl; busy = λ z. omega (arith, d.turns.0) }
