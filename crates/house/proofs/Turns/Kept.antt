-- A host step keeps what host steps need of a world.
use mathlib.Core.Path.{◌≡◌, refl, sym, ap, subst, ◌∙◌}
use mathlib.Core.Bool.{Bool, true, false, ◌||◌}
use mathlib.Core.List.{List}
use Prim.Native.Nat.{ℕ, zero, suc, ◌+◌, ◌-◌, ◌*◌, ◌<◌, ◌≤◌}
use native.Mathlib.Omega.{arith}
use borrow.Author.Tests.{eqb-true, eqb-false, ltb-true, ltb-false}
use lib.Dec.{eqb, ltb}
use lib.ListN.{length, get_or, length-set}
use lib.Seq.{get_or-set_same, get_or-set_other}
use Rattle.dlx.specs.Choice.{when◌then◌else◌}
use Rattle.dlx.specs.Machine.{Outcome}
use Rattle.dlx.specs.declared.partition.Partition.{Partition}
use Rattle.dlx.proofs.Kept.{either, get_or_set_elim}
use Rattle.dlx.proofs.Places.{step_count}
use Rattle.addresses.specs.Walk.{entries}
use Rattle.addresses.specs.Memory.{Host}
use Rattle.addresses.proofs.Steps.{Whole, step_whole}
use Rattle.dlx.proofs.Tests.{by_eq}
use Rattle.house.specs.House.{no_partition, turn, with_turn, with_queues, partition, pages_of, registers_of, frames_of, shadow_of, queues_of}
use Rattle.house.specs.Turns.{World, world, following, next_from, next_of, turn_after, guest_memory, request_now, queues_next, guest_step, queued_on, counted, settled_house, step_with, host_step, host_steps, turn_of}
use Rattle.house.specs.Sound.{Shaped, SoundPartition, Sound, Undamaged}
use Rattle.tickets.specs.Queues.{Queues, waiting_of}
use Rattle.house.specs.declared.House.{House}
use Rattle.house.specs.declared.Turn.{Turn}
use Rattle.house.proofs.Damage.Updates.{turn_shaped, guests_shaped, queues_shaped}
use Rattle.house.proofs.Lists.Bounded.{or_left, one_way}
use Rattle.tickets.specs.Queues.{Queued}
use Rattle.tickets.proofs.Queues.{desk_queued}
use Rattle.dlx.proofs.Parts.{inner_length, outer_length, inner_outer, parts_apart}

-- ---- whose turn it is

pub following_below : (n i : ℕ) → i < n → following n i < n
following_below n i h =
    either (λ x. x < n) (eqb (i + 1) n) (λ _. omega arith) (λ e. let k = eqb-false (i + 1) n e in omega arith)

pub next_below : (r : List Bool) (n i k : ℕ) → i < n → next_from r n i k < n
unfolding next_from
next_below r n i zero h = h
next_below r n i (suc k) h =
    let f = following_below n i h in
    either (λ x. x < n) (get_or r (following n i) false) (λ _. f) (λ _. next_below r n (following n i) k f)

-- from c to i in cyclic order, 1 to n
unfoldable pub distance : ℕ → ℕ → ℕ → ℕ
distance n c i = when ltb c i then i - c else n - c + i

module _ (n c i : ℕ) (l : c < n) where
  pub distance_some : 0 < distance n c i
  unfolding distance
  distance_some = either (λ d. 0 < d) (ltb c i) (λ t. let k = ltb-true c i t in omega arith) (λ t. omega arith)

  module _ (m : i < n) where
    distance_most : distance n c i ≤ n
    unfolding distance
    distance_most = either (λ d. d ≤ n) (ltb c i) (λ t. omega arith) (λ t. let k = ltb-false c i t in omega arith)

    pub distance_other : (c ≡ i → ⊥) → distance n c i < n
    unfolding distance
    distance_other o = either (λ d. d < n) (ltb c i) (λ t. let k = ltb-true c i t in omega arith) (λ t. let k = ltb-false c i t in omega arith)

    -- the one that follows is i, or nearer
    nearer : (following n c ≡ i → ⊥) → distance n (following n c) i < distance n c i
    unfolding distance
    nearer =
        either (λ f. (f ≡ i → ⊥) → (when ltb f i then i - f else n - f + i) < (when ltb c i then i - c else n - c + i)) (eqb (c + 1) n)
        (λ e o.
        let z = eqb-true (c + 1) n e in
        either (λ d. d < (when ltb c i then i - c else n - c + i)) (ltb 0 i)
        (λ t. either (λ d. i - 0 < d) (ltb c i) (λ u. let k = ltb-true c i u in omega arith) (λ u. omega arith))
        (λ t. let k = ltb-false 0 i t in absurd (o (omega arith))))
        (λ e o.
        either (λ d. d < (when ltb c i then i - c else n - c + i)) (ltb (c + 1) i)
        (λ t. let k = ltb-true (c + 1) i t in either (λ d. i - (c + 1) < d) (ltb c i) (λ u. omega arith) (λ u. let j = ltb-false c i u in omega arith))
        (λ t. let k = ltb-false (c + 1) i t in either (λ d. n - (c + 1) + i < d) (ltb c i) (λ u. let j = ltb-true c i u in absurd (o (omega arith))) (λ u. omega arith)))

-- where i runs, the next running one is i, or nearer to it; and it runs
module _ (r : List Bool) (n i : ℕ) (m : i < n) (e : get_or r i false ≡ true) where
  still_other : (j : ℕ) → get_or r j false ≡ false → j ≡ i → ⊥
  still_other j q z = one_way (get_or r i false) e (subst (λ (x : ℕ). get_or r x false ≡ false) z q)

  next_on_way : (k c : ℕ) → c < n → distance n c i ≤ k → let j = next_from r n c k in (get_or r j false ≡ true) × ((j ≡ i → ⊥) → distance n j i < distance n c i)
  unfolding next_from
  next_on_way zero c l d = absurd (omega (arith, distance_some n c i l))
  next_on_way (suc k) c l d =
      let f = following n c in
      either (λ j. (get_or r j false ≡ true) × ((j ≡ i → ⊥) → distance n j i < distance n c i)) (get_or r f false)
      (λ t. (t, nearer n c i l m))
      (λ q.
      let g = nearer n c i l m (still_other f q) in
      let h = next_on_way k f (following_below n c l) (omega arith) in
      (h.0, λ o. let x = h.1 o in omega arith))

  module _ (c : ℕ) (l : c < n) where
    pub next_runs : get_or r (next_of r n c) false ≡ true
    next_runs = (next_on_way n c l (distance_most n c i l m)).0

    pub next_nearer : (next_of r n c ≡ i → ⊥) → distance n (next_of r n c) i < distance n c i
    next_nearer = (next_on_way n c l (distance_most n c i l m)).1

-- the search, one partition on
module _ (r : List Bool) (n i tried : ℕ) where
  pub next_done : n ≤ tried → i ≡ next_from r n i (n - tried)
  unfolding next_from
  next_done h = let e : n - tried ≡ 0 = omega arith in simp e

  module _ (less : tried < n) where
    pub next_found : get_or r (following n i) false ≡ true → following n i ≡ next_from r n i (n - tried)
    unfolding next_from
    next_found h = let e : n - tried ≡ suc (n - (tried + 1)) = omega arith in simp (e, h)

    pub next_on : get_or r (following n i) false ≡ false → next_from r n (following n i) (n - (tried + 1)) ≡ next_from r n i (n - tried)
    unfolding next_from
    next_on h = let e : n - tried ≡ suc (n - (tried + 1)) = omega arith in rw e (simp h)

-- ---- the turn after a step

module _ (r : List Bool) (n q c l : ℕ) (calls : Bool) where
  pub turn_here : c < n → (turn_of r n q c l 1 calls).current < n
  unfolding turn_of
  turn_here b = either (λ (t : Turn). t.current < n) (eqb l 1 || calls) (λ _. next_below r n c n b) (λ _. b)

  pub turn_left : 0 < q → 0 < l → 0 < (turn_of r n q c l 1 calls).left
  unfolding turn_of
  turn_left p s = either (λ (t : Turn). 0 < t.left) (eqb l 1 || calls) (λ _. omega arith) (λ e. let k = eqb-false l 1 (or_left (eqb l 1) calls e) in omega arith)

  pub turn_most : l ≤ q → (turn_of r n q c l 1 calls).left ≤ q
  unfolding turn_of
  turn_most m = either (λ (t : Turn). t.left ≤ q) (eqb l 1 || calls) (λ _. omega arith) (λ _. omega arith)

-- a turn of one of n that runs, with 1 to q steps left
pub record InTurn (r : List Bool) (n q : ℕ) (t : Turn) : Type 0 where
  pub here : t.current < n
  pub runs : get_or r t.current false ≡ true
  pub some : 0 < t.left
  pub most : t.left ≤ q

pub in_turn : (h : House) → Undamaged h → (h.left ≡ 0 → ⊥) → InTurn h.running h.count h.q (turn h.current h.left)
in_turn h u n = let b = u.busy n in record { here = b.0; runs = b.1; some = omega (arith, n); most = b.2 }

pub in_turn_on : (r : List Bool) (n q c l : ℕ) (calls : Bool) → InTurn r n q (turn c l) → InTurn r n q (turn_of r n q c l 1 calls)
unfolding turn_of
in_turn_on r n q c l calls s = record {
  here = turn_here r n q c l calls s.here;
  runs = either (λ (t : Turn). get_or r t.current false ≡ true) (eqb l 1 || calls) (λ _. next_runs r n c s.here s.runs c s.here) (λ _. s.runs);
  some = turn_left r n q c l calls (omega (arith, s.some, s.most)) s.some;
  most = turn_most r n q c l calls s.most;
}

-- ---- the house after partition i came to o

pub settled_pages : (h : House) (i : ℕ) (o : Outcome × Host) (t : Turn) (j : ℕ) → pages_of (settled_house h i o t) j ≡ pages_of h j
unfolding settled_house
settled_pages h i o t j = get_or_set_elim (λ (p : Partition). p.pages ≡ pages_of h j) h.parts i j _ no_partition (λ e. ap (pages_of h) (sym e)) refl

module _ (w : World) (i : ℕ) (s : Shaped w.house) (few : i < 8) (o : Outcome × Host) (regs : length o.0.core.registers ≡ 32) (shadow : length o.1.shadow ≡ entries) (t : Turn) where
  pub settled_shaped : Shaped (settled_house w.house i o t)
  unfolding settled_house
  settled_shaped =
      guests_shaped (with_turn w.house w.house.running t) (turn_shaped w.house s w.house.running t s.running) _
      (length-set w.house.parts i _ ∙ s.parts)
      (outer_length w.house.regs (i * 32) 32 (omega (arith, s.regs)) _ regs ∙ s.regs)
      (outer_length w.house.shadows (i * entries) entries (omega (arith, s.shadows)) _ shadow ∙ s.shadows)

  pub settled_partition : partition (settled_house w.house i o t) i ≡ counted (partition w.house i) o
  unfolding settled_house
  settled_partition = get_or-set_same w.house.parts i _ no_partition (omega (arith, s.parts))

  pub settled_registers : registers_of (settled_house w.house i o t) i ≡ o.0.core.registers
  unfolding settled_house
  settled_registers = inner_outer w.house.regs (i * 32) 32 (omega (arith, s.regs)) _ regs

  pub settled_shadow : shadow_of (settled_house w.house i o t) i ≡ o.1.shadow
  unfolding settled_house
  settled_shadow = inner_outer w.house.shadows (i * entries) entries (omega (arith, s.shadows)) _ shadow

  module _ (j : ℕ) (small : j < 8) (other : j ≡ i → ⊥) where
    pub other_partition : partition (settled_house w.house i o t) j ≡ partition w.house j
    unfolding settled_house
    other_partition = get_or-set_other w.house.parts i j _ no_partition other

    pub other_registers : registers_of (settled_house w.house i o t) j ≡ registers_of w.house j
    unfolding settled_house
    other_registers = parts_apart 32 w.house.regs _ i j (omega (arith, s.regs)) (omega (arith, s.regs)) regs other

    pub other_shadow : shadow_of (settled_house w.house i o t) j ≡ shadow_of w.house j
    unfolding settled_house
    other_shadow = parts_apart entries w.house.shadows _ i j (omega (arith, s.shadows)) (omega (arith, s.shadows)) shadow other

-- ---- the queues after a step

pub queued_of : (h : House) → Shaped h → ((j : ℕ) → waiting_of (queues_of h) j ≤ 32) → Queued (queues_of h)
queued_of h s m = record { tickets = s.tickets; waiting = s.waiting; most = m }

pub queued_next : (w : World) → Queued (queues_of w.house) → w.house.count ≤ 8 → w.house.current < 8 → Queued (queues_next w w.house.current)
unfolding queues_next
queued_next w q few small = desk_queued w.house.count w.house.current (queues_of w.house) q few small (request_now w w.house.current)

pub queued_shaped : (h : House) → Shaped h → (t : Queues) → Queued t → Shaped (with_queues h t)
queued_shaped h s t q = queues_shaped h s t q.tickets q.waiting

-- ---- soundness

-- a step keeps the number of registers
pub step_registers : (w : World) → Shaped w.house → w.house.current < 8 → length (guest_step w w.house.current).0.core.registers ≡ 32
unfolding guest_step
step_registers w s l =
    step_count (guest_memory w.house w.house.current) _ _ _
    ∙ inner_length w.house.regs (w.house.current * 32) 32 (omega (arith, s.regs))

module _ (w : World) (s : Sound w) where
  pub step_keeps : Whole (frames_of w.house w.house.current) (pages_of w.house w.house.current) (length w.memory) (guest_step w w.house.current).1
  unfolding guest_step
  step_keeps = step_whole _ _ _ _ _ _ (record { long = refl; shadowed = (s.each w.house.current s.here).shadowed })

  pub here_small : w.house.current < 8
  here_small = omega (arith, s.here, s.few)

  queued_here : Queued (queues_next w w.house.current)
  queued_here = queued_next w (queued_of w.house s.shaped s.most) s.few here_small

  pub shaped_here : Shaped (queued_on w).house
  shaped_here = queued_shaped w.house s.shaped _ queued_here

  module _ (j : ℕ) (l : j < w.house.count) where
    settled_each : (t : Turn) → SoundPartition (world (settled_house (queued_on w).house w.house.current (guest_step w w.house.current) t) (guest_step w w.house.current).1.words) j
    unfolding settled_house
    settled_each t =
        let i = w.house.current in
        let o = guest_step w i in
        let v = queued_on w in
        let g = step_registers w s.shaped here_small in
        let k = step_keeps.shadowed.count in
        let p = settled_pages v.house i o t in
        by_eq j i
        (λ e.
        subst (λ (x : ℕ). SoundPartition (world (settled_house v.house i o t) o.1.words) x) (sym e)
        (record {
          placed = rw (p i) (rw step_keeps.long (s.each i s.here).placed);
          shadowed = rw (p i, settled_shadow v i shaped_here here_small o g k t) step_keeps.shadowed;
        }))
        (λ d.
        record {
          placed = rw (p j) (rw step_keeps.long (s.each j l).placed);
          shadowed = rw (p j, other_shadow v i shaped_here here_small o g k t j (omega (arith, s.few)) d) (s.each j l).shadowed;
        })

  pub sound_step : Sound (host_step w)
  unfolding host_step step_with settled_house
  sound_step =
      let h = w.house in
      let i = h.current in
      let o = guest_step w i in
      let t = turn_after h 1 o.0.calls in
      record {
        shaped = settled_shaped (queued_on w) i shaped_here here_small o (step_registers w s.shaped here_small) step_keeps.shadowed.count t;
        few = s.few;
        each = λ j l. settled_each j l t;
        here = turn_here _ h.count h.q i h.left o.0.calls s.here;
        left = turn_left _ h.count h.q i h.left o.0.calls s.turns s.left;
        turns = s.turns;
        most = queued_here.most;
      }

-- what a host step keeps, so many keep
pub steps_keep : (P : World → Type 0) → ((w : World) → P w → P (host_step w)) → (n : ℕ) (w : World) → P w → P (host_steps n w)
unfolding host_steps
steps_keep P f zero w p = p
steps_keep P f (suc n) w p = f (host_steps n w) (steps_keep P f n w p)

pub sound_steps : (n : ℕ) (w : World) → Sound w → Sound (host_steps n w)
sound_steps = steps_keep Sound sound_step
