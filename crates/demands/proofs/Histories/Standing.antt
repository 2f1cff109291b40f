-- A house that is not damaged, and whose every shadow is right: a host step is one lone step, and the shadows stay right. So it is in every house and
-- memory grown from a boot.
use mathlib.Core.Path.{◌≡◌, refl, sym, ap, subst, ◌∙◌}
use mathlib.Core.Bool.{false}
use mathlib.Core.List.{List, ◌++◌}
use Prim.Native.Nat.{ℕ, ◌+◌, ◌*◌, ◌/◌, ◌%◌, ◌^◌, ◌<◌, ◌≤◌}
use native.Mathlib.Omega.{arith}
use borrow.Author.Tests.{eq-eqb, ne_eqb}
use lib.Dec.{eqb}
use lib.ListN.{length, get_or, drop}
use lib.Seq.{ext_get_or, drop-append_seam}
use Rattle.dlx.specs.Choice.{when◌then◌else◌}
use Rattle.dlx.specs.Machine.{Reply, Core, core, Outcome, Request, step}
use Rattle.dlx.specs.declared.partition.Partition.{Partition}
use Rattle.dlx.specs.declared.partition.Table.{Table}
use Rattle.dlx.proofs.Like.{Both, asked_like, step_like}
use Rattle.addresses.specs.Walk.{entries}
use Rattle.addresses.specs.Memory.{Lone, lone, lone_memory, Host, place, host_word, hosted, given, stale}
use Rattle.addresses.specs.Premises.{Placed}
use Rattle.addresses.proofs.Entries.{walked_same}
use Rattle.addresses.proofs.Simulation.{Right, simulation}
use Rattle.addresses.proofs.Stale.{stale_same}
use Rattle.dlx.proofs.Tests.{by_eq}
use Rattle.house.specs.Lists.{list_from}
use Rattle.house.specs.House.{partition, pages_of, registers_of, frames_of, shadow_of, queues_of}
use Rattle.house.specs.Turns.{World, turn_after, guest, stale_at, request_now, reply_now, queues_next, guest_step, queued_on, counted, settled_house, step_with, host_step}
use Rattle.house.specs.Sound.{Shaped, LaidOut}
use Rattle.house.specs.Boot.{booted_house}
use Rattle.demands.specs.Histories.{Boot, booted, lone_of, queue_in, lone_asks, lone_answer}
use Rattle.tickets.specs.Queues.{waiting_of, ruled, sent_to, taken_by, lined}
use Rattle.demands.specs.Demands.{StepOf}
use Rattle.house.specs.declared.Turn.{Turn}
use Rattle.dlx.proofs.Parts.{inner_length}
use Rattle.house.proofs.Lists.ByRule.{length_list_from, list_from_at, list_from_same}
use Rattle.tickets.specs.Queues.{Queued}
use Rattle.tickets.proofs.Queues.{desk_ruled, desk_kept}
use Rattle.house.proofs.Turns.Kept.{queued_of, queued_next, queued_shaped, turn_here, turn_most, step_registers, settled_shaped, settled_partition, settled_registers, settled_shadow, other_partition, other_registers, other_shadow}
use Rattle.house.proofs.Turns.SameLayout.{layout_on, step_layout}
use Rattle.house.proofs.Damage.Undamaged.{sound_partition}
use Rattle.demands.proofs.Booted.FreshHouse.{booted_shaped, booted_undamaged, booted_whole}

-- no entry of the shadow is stale: every valid one is what the guest's table and the host's list give now
abbrev pub RightShadow : World → ℕ → Type 0
RightShadow w i = (px : ℕ) → stale_at w i px ≡ false

-- frames in the memory, each once, queues of at most 32, and right shadows
pub record Firm (w : World) : Type 0 where
  pub shaped : Shaped w.house
  pub few : w.house.count ≤ 8
  pub placed : (i : ℕ) → i < w.house.count → Placed (frames_of w.house i) (pages_of w.house i) (length w.memory)
  pub apart : (i j k l : ℕ) → i < w.house.count → j < w.house.count → k < pages_of w.house i → l < pages_of w.house j
      → get_or (frames_of w.house i) k 0 ≡ get_or (frames_of w.house j) l 0 → i ≡ j
  pub here : w.house.current < w.house.count
  pub most : (j : ℕ) → waiting_of (queues_of w.house) j ≤ 32
  pub right : (i : ℕ) → i < w.house.count → RightShadow w i

-- what stands so from a boot on
pub record Standing (b : Boot) (w : World) : Type 0 where
  pub shaped : Shaped w.house
  pub layout : LaidOut (booted b).house w.house
  pub here : w.house.current < w.house.count
  pub turns : w.house.left ≤ w.house.q
  pub size : length w.memory ≡ length b.memory
  pub most : (j : ℕ) → waiting_of (queues_of w.house) j ≤ 32
  pub right : (i : ℕ) → i < w.house.count → RightShadow w i

-- the lone memory of a right one is its table and the words of its pages
right_is : {fr base : List ℕ} {n : ℕ} {s : Lone} {h : Host} → Right fr n base s h → lone h.table (list_from (host_word fr h.words) 0 (n * 1024)) ≡ s
right_is {fr} {base} {n} {s} {h} r =
    let f = host_word fr h.words in
    ap (λ l. lone h.table l)
    (ext_get_or 0 (list_from f 0 (n * 1024)) s.words (length_list_from f 0 (n * 1024) ∙ sym r.pages) λ i l.
    let m : i < n * 1024 = omega (arith, length_list_from f 0 (n * 1024)) in
    list_from_at f 0 (n * 1024) i m ∙ sym (r.agree i m))
    ∙ ap (λ (t : Table). lone t s.words) (sym r.table)

-- a partition's lone machine by its parts
abbrev alone : Partition → List ℕ → List ℕ → List ℕ → Core × Lone
alone p regs fr m = (core p.processor regs p.fault p.timer, lone p.table (list_from (host_word fr m) 0 (p.pages * 1024)))

module _ (w : World) (st : Firm w) where
  pub standing_small : {i : ℕ} → i < w.house.count → i < 8
  standing_small l = omega (arith, st.few)

  -- each partition's lone machine, and the guest that stands for it
  pub right_of : (i : ℕ) → i < w.house.count → Right (frames_of w.house i) (pages_of w.house i) w.memory (lone_of w i).1 (guest w i).1
  unfolding lone_of
  right_of i l = record {
    table = refl;
    pages = length_list_from (host_word (frames_of w.house i) w.memory) 0 (pages_of w.house i * 1024);
    size = refl;
    agree = λ j m. list_from_at (host_word (frames_of w.house i) w.memory) 0 (pages_of w.house i * 1024) j m;
    count = inner_length w.house.shadows (i * entries) entries (omega (arith, st.shaped.shadows, standing_small l));
    shadow = st.right i l;
    others = λ _ _. refl;
  }

  -- ---- one host step: what is asked, the answer, and the queues after it

  like_now : Both (Right (frames_of w.house w.house.current) (pages_of w.house w.house.current) w.memory) (lone_of w w.house.current) (guest w w.house.current)
  unfolding lone_of
  like_now = record { same = refl; rest = right_of w.house.current st.here }

  queued : Queued (queues_of w.house)
  queued = queued_of w.house st.shaped st.most

  request_same : request_now w w.house.current ≡ lone_asks w w.house.current
  unfolding request_now lone_asks
  request_same = sym (asked_like _ _ _ (simulation _ _ _ (st.placed w.house.current st.here)) _ _ like_now)

  reply_same : reply_now w w.house.current ≡ lone_answer w w.house.current
  unfolding reply_now lone_answer
  reply_same =
      desk_ruled w.house.count w.house.current (queues_of w.house) queued st.few (standing_small st.here) (request_now w w.house.current)
      ∙ ap (ruled w.house.count w.house.current (queue_in w)) request_same

  abbrev on : World
  on = queued_on w

  on_queued : Queued (queues_next w w.house.current)
  on_queued = queued_next w queued st.few (standing_small st.here)

  on_shaped : Shaped on.house
  on_shaped = queued_shaped w.house st.shaped _ on_queued

  both : Both (Right (frames_of w.house w.house.current) (pages_of w.house w.house.current) w.memory)
      (step (lone_memory (pages_of w.house w.house.current)) (lone_answer w w.house.current) (lone_of w w.house.current)) (guest_step w w.house.current)
  unfolding guest_step
  both =
      subst (λ (y : Reply). Both (Right (frames_of w.house w.house.current) (pages_of w.house w.house.current) w.memory) (step (lone_memory (pages_of w.house w.house.current)) y (lone_of w w.house.current)) (guest_step w w.house.current))
      reply_same
      (step_like _ _ _ (simulation _ _ _ (st.placed w.house.current st.here)) (reply_now w w.house.current) _ _ like_now)

  regs : length (guest_step w w.house.current).0.core.registers ≡ 32
  regs = step_registers w st.shaped (standing_small st.here)

  shadow : length (guest_step w w.house.current).1.shadow ≡ entries
  shadow = both.rest.count

  abbrev made : Outcome × Host
  made = guest_step w w.house.current

  abbrev next : Turn
  next = turn_after w.house 1 made.0.calls

  -- the partition that made the step

  own_partition : partition (host_step w).house w.house.current ≡ counted (partition w.house w.house.current) made
  unfolding host_step step_with
  own_partition = settled_partition on w.house.current on_shaped (standing_small st.here) made regs shadow next

  own_lone : lone_of (host_step w) w.house.current ≡ (let o = step (lone_memory (pages_of w.house w.house.current)) (lone_answer w w.house.current) (lone_of w w.house.current) in (o.0.core, o.1))
  unfolding host_step step_with settled_house lone_of
  own_lone =
      let i = w.house.current in
      let fr = frames_of w.house i in
      ap (λ (p : Partition). alone p (registers_of (host_step w).house i) fr made.1.words) own_partition
      ∙ ap (λ (r : List ℕ). alone (counted (partition w.house i) made) r fr made.1.words) (settled_registers on i on_shaped (standing_small st.here) made regs shadow next)
      ∙ ap (λ (s : Lone). (made.0.core, s)) (right_is both.rest)
      ∙ ap (λ (o : Outcome). (o.core, (step (lone_memory (pages_of w.house i)) (lone_answer w i) (lone_of w i)).1)) (sym both.same)

  -- ---- another partition

  module _ (j : ℕ) (l : j < w.house.count) (d : j ≡ w.house.current → ⊥) where
    -- its words are in no frame of the one that made the step
    other_word : (x : ℕ) → x < pages_of w.house j * 1024 → host_word (frames_of w.house j) made.1.words x ≡ host_word (frames_of w.house j) w.memory x
    other_word x m =
        both.rest.others (place (frames_of w.house j) x)
        (λ o. d (st.apart j w.house.current (x / 1024) o.0 l st.here (omega arith) o.1 (omega (arith, o.2))))

    other_lone : lone_of (host_step w) j ≡ lone_of w j
    unfolding host_step step_with settled_house lone_of
    other_lone =
        let i = w.house.current in
        let fr = frames_of w.house j in
        ap (λ (p : Partition). alone p (registers_of (host_step w).house j) fr made.1.words) (other_partition on i on_shaped (standing_small st.here) made regs shadow next j (standing_small l) d)
        ∙ ap (λ (r : List ℕ). alone (partition w.house j) r fr made.1.words) (other_registers on i on_shaped (standing_small st.here) made regs shadow next j (standing_small l) d)
        ∙ ap (λ (ws : List ℕ). (core (partition w.house j).processor (registers_of w.house j) (partition w.house j).fault (partition w.house j).timer, lone (partition w.house j).table ws))
        (list_from_same (host_word fr made.1.words) (host_word fr w.memory) 0 (pages_of w.house j * 1024) (λ x m. other_word x (omega arith)))

    other_right : RightShadow (host_step w) j
    unfolding host_step step_with settled_house given
    other_right px =
        let i = w.house.current in
        let fr = frames_of w.house j in
        let t = (partition w.house j).table in
        ap (λ (p : Partition). stale fr p.pages p.table made.1.words px (get_or (shadow_of (host_step w).house j) px 0)) (other_partition on i on_shaped (standing_small st.here) made regs shadow next j (standing_small l) d)
        ∙ ap (λ (sh : List ℕ). stale fr (pages_of w.house j) t made.1.words px (get_or sh px 0)) (other_shadow on i on_shaped (standing_small st.here) made regs shadow next j (standing_small l) d)
        ∙ stale_same fr (pages_of w.house j) t made.1.words w.memory px _
        (ap (hosted fr) (walked_same (host_word fr made.1.words) (host_word fr w.memory) (pages_of w.house j) t px (λ a b c. other_word (t.pto * 1024 + px) (omega arith))))
        ∙ st.right j l px

  own_right : RightShadow (host_step w) w.house.current
  unfolding host_step step_with settled_house
  own_right px =
      let i = w.house.current in
      let fr = frames_of w.house i in
      ap (λ (p : Partition). stale fr p.pages p.table made.1.words px (get_or (shadow_of (host_step w).house i) px 0)) own_partition
      ∙ ap (λ (sh : List ℕ). stale fr (pages_of w.house i) made.1.table made.1.words px (get_or sh px 0)) (settled_shadow on i on_shaped (standing_small st.here) made regs shadow next)
      ∙ both.rest.shadow px

  -- ---- the host step

  pub firm_step : Firm (host_step w)
  unfolding host_step step_with settled_house
  firm_step =
      let y = step_layout w in
      record {
        shaped = settled_shaped on w.house.current on_shaped (standing_small st.here) made regs shadow next;
        few = st.few;
        placed = λ i l. rw (y.pages i, both.rest.size) (st.placed i l);
        apart = λ i j k l hi hj hk hl. st.apart i j k l hi hj (omega (arith, y.pages i)) (omega (arith, y.pages j));
        here = turn_here w.house.running w.house.count w.house.q w.house.current w.house.left made.0.calls st.here;
        most = on_queued.most;
        right = λ j l. by_eq j w.house.current
            (λ e. subst (RightShadow (host_step w)) (sym e) own_right)
            (λ d. other_right j l d);
      }

  -- the memory stays as long
  pub step_size : length (host_step w).memory ≡ length w.memory
  unfolding host_step step_with
  step_size = both.rest.size

  -- and at most q steps are left
  pub step_turns : w.house.left ≤ w.house.q → (host_step w).house.left ≤ (host_step w).house.q
  unfolding host_step step_with settled_house
  step_turns = turn_most w.house.running w.house.count w.house.q w.house.current w.house.left made.0.calls

  step_counter : (j : ℕ) → j < w.house.count → (partition (host_step w).house j).counter ≡
      (when eqb j w.house.current then ((partition w.house j).counter + 1) % 2 ^ 64 else (partition w.house j).counter)
  unfolding host_step step_with
  step_counter j l =
      by_eq j w.house.current
      (λ e. rw (eq-eqb j w.house.current e) (rw e (ap (λ (p : Partition). p.counter) own_partition)))
      (λ d. rw (ne_eqb j w.house.current d) (ap (λ (p : Partition). p.counter) (other_partition on w.house.current on_shaped (standing_small st.here) made regs shadow next j (standing_small l) d)))

  -- every queue after the step, and what waited and is sent against what is taken and waits
  pub queues_kept : (j : ℕ) → j < w.house.count → let i = w.house.current in
      queue_in w j ++ sent_to (lone_asks w i) (lone_answer w i) j ≡ taken_by i (lone_asks w i) (lone_answer w i) j ++ queue_in (host_step w) j
  unfolding host_step step_with settled_house queues_next
  queues_kept j l =
      let i = w.house.current in
      subst (λ (y : Reply). queue_in w j ++ sent_to (lone_asks w i) y j ≡ taken_by i (lone_asks w i) y j ++ queue_in (host_step w) j) reply_same
      (subst (λ (r : Request). queue_in w j ++ sent_to r (reply_now w i) j ≡ taken_by i r (reply_now w i) j ++ queue_in (host_step w) j) request_same
      (unfold reply_now in desk_kept w.house.count i (queues_of w.house) queued st.few (standing_small st.here) (request_now w i) j (standing_small l)))

  queues_lined : (j : ℕ) → j < w.house.count → let i = w.house.current in
      queue_in (host_step w) j ≡ lined i (lone_asks w i) (lone_answer w i) (queue_in w j) j
  unfolding lined
  queues_lined j l =
      let i = w.house.current in
      let T = taken_by i (lone_asks w i) (lone_answer w i) j in
      sym (ap (drop (length T)) (queues_kept j l) ∙ drop-append_seam T (queue_in (host_step w) j))

  pub step_of : StepOf w (host_step w) w.house.current
  unfolding host_step step_with settled_house
  step_of = record {
    own = own_lone;
    others = other_lone;
    counters = step_counter;
    turns = ap (λ (o : Outcome). turn_after w.house 1 o.calls) (sym both.same);
    running = refl;
    queues = queues_lined;
  }

-- ---- from a boot on

-- as the booted house has its frames
pub firm : (b : Boot) (w : World) → Standing b w → Firm w
unfolding booted_house
firm b w st =
    let y = st.layout in
    let u = booted_undamaged b in
    record {
      shaped = st.shaped;
      few = omega (arith, y.count, u.few);
      placed = λ i l.
          rw (y.frames, y.pages i, st.size)
          (sound_partition (booted b).house (booted_whole b) b.memory (booted_shaped b) refl i (rw y.count at l)).placed;
      apart = λ i j k l hi hj hk hl e.
          (u.once i j k l (omega (arith, y.count)) (omega (arith, y.count)) (omega (arith, y.pages i)) (omega (arith, y.pages j)) (rw y.frames at e)).0;
      here = st.here;
      most = st.most;
      right = st.right;
    }

pub standing_step : (b : Boot) (w : World) → Standing b w → Standing b (host_step w)
standing_step b w st =
    let f = firm_step w (firm b w st) in
    record {
      shaped = f.shaped;
      layout = layout_on (booted b).house w.house _ st.layout (step_layout w);
      here = f.here;
      turns = step_turns w (firm b w st) st.turns;
      size = step_size w (firm b w st) ∙ st.size;
      most = f.most;
      right = f.right;
    }
