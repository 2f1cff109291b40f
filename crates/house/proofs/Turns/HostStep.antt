-- A host step keeps a house undamaged and its numbers words.
use mathlib.Core.Path.{◌≡◌, sym, ◌∙◌}
use mathlib.Core.List.{List}
use Prim.Native.Nat.{ℕ, ◌*◌, ◌^◌, ◌<◌, ◌≤◌}
use native.Mathlib.Omega.{arith}
use lib.ListN.{length, get_or}
use Rattle.dlx.specs.Machine.{Outcome}
use Rattle.dlx.specs.declared.partition.Partition.{Partition}
use Rattle.dlx.proofs.Kept.{get_or_set_elim, Kept}
use Rattle.addresses.specs.Walk.{entries}
use Rattle.addresses.specs.Memory.{Host}
use Rattle.addresses.proofs.Kept.{KeptHost}
use Rattle.addresses.proofs.Each.{Each}
use Rattle.dlx.proofs.Tests.{by_eq}
use Rattle.house.specs.House.{no_partition, partition, pages_of, registers_of, frames_of, shadow_of}
use Rattle.house.specs.Turns.{World, world, turn_after, guest_step, queued_on, counted, settled_house, step_with, host_step, host_steps}
use Rattle.house.specs.Sound.{Proper, Undamaged, TypedPartition, Typed, Ready, Stays}
use Rattle.house.specs.declared.Turn.{Turn}
use Rattle.dlx.proofs.Parts.{outer_each}
use Rattle.house.proofs.Damage.Updates.{turn_typed, guests_typed, queues_typed, memory_typed}
use Rattle.house.proofs.Turns.Kept.{queued_of, queued_next, queued_shaped, steps_keep, in_turn, in_turn_on, InTurn, settled_pages, settled_shaped, settled_partition, settled_registers, settled_shadow, other_partition, other_registers, other_shadow}
use Rattle.house.proofs.Damage.Denied.{undamaged_from}
use Rattle.house.proofs.Turns.Guests.{ready_sound, here, step_all, next_words, next_proper}
use Rattle.house.proofs.Turns.SameLayout.{steps_layout}

-- ---- the house in which the current partition's step came to o, and the turn to t

module _ (w : World) (r : Ready w) (o : Outcome × Host) (t : Turn) where
  abbrev i : ℕ
  i = w.house.current

  abbrev fr : List ℕ
  fr = frames_of w.house i

  abbrev n : ℕ
  n = pages_of w.house i

  module _ (core : Kept o.0.core) (memory : KeptHost fr n (length w.memory) o.1) (each : Each (Proper fr n) o.1) (x : InTurn w.house.running w.house.count w.house.q t) where
    small : i < 8
    small = omega (arith, here w r, r.whole.few)

    -- of the partition that made the step, and of another
    own_or_other : (P : Partition → List ℕ → List ℕ → Type 0) (j : ℕ) → j < 8
        → (j ≡ i → P (counted (partition w.house i) o) o.0.core.registers o.1.shadow)
        → ((j ≡ i → ⊥) → P (partition w.house j) (registers_of w.house j) (shadow_of w.house j))
        → P (partition (settled_house w.house i o t) j) (registers_of (settled_house w.house i o t) j) (shadow_of (settled_house w.house i o t) j)
    own_or_other P j l f g =
        let s = r.typed.shaped in
        let a = core.registers.count in
        let b = memory.shadowed.count in
        by_eq j i
        (λ q. rw (q, settled_partition w i s small o a b t, settled_registers w i s small o a b t, settled_shadow w i s small o a b t) (f q))
        (λ q. rw (other_partition w i s small o a b t j l q, other_registers w i s small o a b t j l q, other_shadow w i s small o a b t j l q) (g q))

    settled_undamaged : Undamaged (settled_house w.house i o t)
    unfolding settled_house
    settled_undamaged =
        let u = r.whole in
        let p = settled_pages w.house i o t in
        record {
          some = u.some;
          few = u.few;
          pages = λ j l. rw (p j) (u.pages j l);
          turns = u.turns;
          whole = u.whole;
          size = u.size;
          inside = λ j k l m. u.inside j k l (rw (p j) at m);
          kept = λ j k l m. u.kept j k l (rw (p j) at m);
          once = λ j j' k k' l l' m m'. u.once j j' k k' l l' (rw (p j) at m) (rw (p j') at m');
          idle = λ z. absurd (omega (arith, x.some));
          busy = λ _. (x.here, x.runs, x.most);
          first = λ j l. own_or_other (λ _ g _. get_or g 0 0 ≡ 0) j (omega (arith, u.few)) (λ _. core.registers.first) (λ _. u.first j l);
          mode = λ j l. own_or_other (λ p _ _. p.processor.mode ≤ 1) j (omega (arith, u.few)) (λ _. omega (arith, core.processor.mode)) (λ _. u.mode j l);
          emode = λ j l. own_or_other (λ p _ _. p.processor.emode ≤ 1) j (omega (arith, u.few)) (λ _. omega (arith, core.processor.emode)) (λ _. u.emode j l);
          fault = λ j l. own_or_other (λ p _ _. p.fault ≤ 7) j (omega (arith, u.few)) (λ _. omega (arith, core.fault)) (λ _. u.fault j l);
          proper = λ j px l m.
              rw (p j) (own_or_other (λ _ _ s. Proper (frames_of w.house j) (pages_of w.house j) (get_or s px 0)) j (omega (arith, u.few)) (λ q. rw q (each px)) (λ _. u.proper j px l m));
          behind = λ j k l m. u.behind j k l (rw (p j) at m);
          unused = λ j l m.
              let z = u.unused j l m in
              let d : j ≡ i → ⊥ = λ q. absurd (omega (arith, here w r)) in
              record {
                still = z.still;
                none = own_or_other (λ p _ _. p ≡ no_partition) j m (λ q. absurd (d q)) (λ _. z.none);
                regs = own_or_other (λ _ g _. (k : ℕ) → k < 32 → get_or g k 0 ≡ 0) j m (λ q. absurd (d q)) (λ _. z.regs);
                frames = z.frames;
                shadows = own_or_other (λ _ _ s. (k : ℕ) → k < entries → get_or s k 0 ≡ 0) j m (λ q. absurd (d q)) (λ _. z.shadows);
              };
          queued = u.queued;
        }

    counted_typed : TypedPartition (counted (partition w.house i) o)
    counted_typed =
        let p = core.processor in
        record {
          pages = (r.typed.parts i).pages;
          dpc = p.dpc;
          pc = p.pc;
          sr = p.sr;
          esr = p.esr;
          eca = p.eca;
          epc = p.epc;
          edpc = p.edpc;
          edata = p.edata;
          mode = omega (arith, p.mode);
          emode = omega (arith, p.emode);
          pto = memory.table.pto;
          ptl = memory.table.ptl;
          tcount = core.timer.tcount;
          tload = core.timer.tload;
          counter = omega arith;
          fault = omega (arith, core.fault);
        }

    settled_typed : Typed (world (settled_house w.house i o t) o.1.words)
    unfolding settled_house
    settled_typed =
        let s = r.typed.shaped in
        let a = core.registers.count in
        let b = memory.shadowed.count in
        let y = turn_typed w.house w.memory r.typed w.house.running t s.running (omega (arith, x.here, r.typed.count)) (omega (arith, x.most, r.typed.q)) in
        memory_typed _ w.memory
        (guests_typed _ w.memory y _ (settled_shaped w i s small o a b t)
        (λ j. get_or_set_elim TypedPartition w.house.parts i j _ no_partition (λ _. counted_typed) (r.typed.parts j))
        (outer_each w.house.regs (i * 32) 32 (omega (arith, s.regs, small)) o.0.core.registers a (λ v. v < 2 ^ 32) r.typed.regs core.registers.words)
        (outer_each w.house.shadows (i * entries) entries (omega (arith, s.shadows, small)) o.1.shadow b (λ v. v < 2 ^ 32) r.typed.shadows memory.shadow))
        o.1.words memory.words

    settled_ready : Ready (world (settled_house w.house i o t) o.1.words)
    unfolding settled_house
    settled_ready = record {
      typed = settled_typed;
      whole = settled_undamaged;
      size = memory.long ∙ r.size;
      busy = λ z. omega (arith, x.some);
    }

-- ---- the house with the queues after the step

queued_ready : (w : World) → Ready w → Ready (queued_on w)
queued_ready w r =
    let y = r.typed in
    let u = r.whole in
    let q = queued_next w (queued_of w.house y.shaped (ready_sound w r).most) u.few (omega (arith, here w r, u.few)) in
    record {
      typed = queues_typed w.house w.memory y _ (queued_shaped w.house y.shaped _ q) (next_words w r) (λ k. omega (arith, q.most k));
      whole = record {
        some = u.some;
        few = u.few;
        pages = u.pages;
        turns = u.turns;
        whole = u.whole;
        size = u.size;
        inside = u.inside;
        kept = u.kept;
        once = u.once;
        idle = u.idle;
        busy = u.busy;
        first = u.first;
        mode = u.mode;
        emode = u.emode;
        fault = u.fault;
        proper = u.proper;
        behind = u.behind;
        unused = λ i l m. let z = u.unused i l m in record { still = z.still; none = z.none; regs = z.regs; frames = z.frames; shadows = z.shadows };
        queued = next_proper w r;
      };
      size = r.size;
      busy = r.busy;
    }

-- ---- the host step

pub step_ready : (w : World) → Ready w → Ready (host_step w)
unfolding host_step step_with
step_ready w r =
    let h = w.house in
    let o = guest_step w h.current in
    let a = step_all w r in
    settled_ready (queued_on w) (queued_ready w r) o (turn_after h 1 o.0.calls) a.0 a.1.0 a.1.1
    (in_turn_on h.running h.count h.q h.current h.left o.0.calls (in_turn h r.whole r.busy))

pub steps_ready : (n : ℕ) (w : World) → Ready w → Ready (host_steps n w)
steps_ready = steps_keep Ready step_ready

pub steps_stay : (n : ℕ) (w : World) → Ready w → Stays w (host_steps n w)
steps_stay n w r =
    let r' = steps_ready n w r in
    let l = steps_layout n w in
    record { typed = r'.typed; whole = undamaged_from _ r'.whole; layout = l; size = r'.size ∙ l.words ∙ sym r.size }
