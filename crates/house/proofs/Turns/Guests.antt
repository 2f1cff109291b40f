-- The current guest's step, in a house that is not damaged: it keeps the numbers words, register 0 zero, MODE and EMODE below 2, and every shadow entry proper.
use mathlib.Core.Path.{refl}
use Prim.Native.Nat.{ℕ, ◌*◌, ◌^◌, ◌<◌}
use native.Mathlib.Omega.{arith}
use borrow.Author.Tests.{ltb-true, ltb-false}
use lib.Dec.{ltb}
use lib.ListN.{length, get_or, get_or-eq_default}
use Rattle.dlx.proofs.Kept.{Kept, KeptReply, step_kept, asked_kept}
use Rattle.addresses.specs.Walk.{entries}
use Rattle.addresses.proofs.Entries.{placed_listed}
use Rattle.addresses.proofs.Kept.{KeptHost}
use Rattle.addresses.proofs.Each.{Each, each_keeps}
use Rattle.dlx.proofs.Tests.{by_test}
use Rattle.house.specs.House.{pages_of, frames_of, shadow_of, queues_of}
use Rattle.house.specs.Turns.{World, guest, guest_memory, request_now, reply_now, queues_next, guest_step}
use Rattle.house.specs.Sound.{Sound, Proper, Ready}
use Rattle.tickets.specs.Queues.{ProperQueue}
use Rattle.dlx.proofs.Parts.{part_each, inner_length}
use Rattle.house.proofs.Damage.Conditions.{empty_proper, own_proper}
use Rattle.house.proofs.Damage.Denied.{undamaged_from}
use Rattle.tickets.proofs.Queues.{desk_reply, desk_words, desk_proper}
use Rattle.house.proofs.Turns.Kept.{queued_of}
use Rattle.house.proofs.Damage.Undamaged.{sound}

module _ (w : World) (r : Ready w) where
  abbrev i : ℕ
  i = w.house.current

  pub ready_sound : Sound w
  ready_sound = sound w.house (undamaged_from w.house r.whole) w.memory r.typed.shaped r.size r.busy

  pub here : i < w.house.count
  here = (r.whole.busy r.busy).0

  core_kept : Kept (guest w i).0
  core_kept =
      let p = r.typed.parts i in
      record {
        processor = record {
          dpc = p.dpc;
          pc = p.pc;
          sr = p.sr;
          esr = p.esr;
          eca = p.eca;
          epc = p.epc;
          edpc = p.edpc;
          edata = p.edata;
          mode = omega (arith, r.whole.mode i here);
          emode = omega (arith, r.whole.emode i here);
        };
        registers = record {
          count = inner_length w.house.regs (i * 32) 32 (omega (arith, r.typed.shaped.regs, here, r.whole.few));
          first = r.whole.first i here;
          words = part_each (λ x. x < 2 ^ 32) w.house.regs (i * 32) 32 (omega arith) r.typed.regs;
        };
        fault = omega (arith, r.whole.fault i here);
        timer = record { tcount = (r.typed.parts i).tcount; tload = (r.typed.parts i).tload };
      }

  memory_kept : KeptHost (frames_of w.house i) (pages_of w.house i) (length w.memory) (guest w i).1
  memory_kept = record {
    table = record { pto = (r.typed.parts i).pto; ptl = (r.typed.parts i).ptl };
    long = refl;
    words = r.typed.memory;
    shadowed = (ready_sound.each i here).shadowed;
    shadow = part_each (λ x. x < 2 ^ 32) w.house.shadows (i * entries) entries (omega arith) r.typed.shadows;
  }

  shadow_proper : Each (Proper (frames_of w.house i) (pages_of w.house i)) (guest w i).1
  shadow_proper px =
      by_test (ltb px entries)
      (λ t. r.whole.proper i px here (ltb-true px entries t))
      (λ t. rw (get_or-eq_default (shadow_of w.house i) 0 {n = px} (omega (arith, ltb-false px entries t, memory_kept.shadowed.count))) (empty_proper (frames_of w.house i) (pages_of w.house i)))

  reply_kept : KeptReply (reply_now w i)
  unfolding reply_now
  reply_kept = desk_reply w.house.count i (queues_of w.house) r.typed.tickets (request_now w i)

  pub step_all : Kept (guest_step w i).0.core × (KeptHost (frames_of w.house i) (pages_of w.house i) (length w.memory) (guest_step w i).1 × Each (Proper (frames_of w.house i) (pages_of w.house i)) (guest_step w i).1)
  unfolding guest_step
  step_all =
      let fr = frames_of w.house i in
      let n = pages_of w.house i in
      step_kept _ (guest_memory w.house i)
      (each_keeps fr n (Proper fr n) (empty_proper fr n) (own_proper fr n) (length w.memory) (placed_listed (ready_sound.each i here).placed))
      (reply_now w i) reply_kept (guest w i).0 (guest w i).1 core_kept (memory_kept, shadow_proper)

  -- the queues after it
  pub next_words : (k : ℕ) → get_or (queues_next w i).tickets k 0 < 2 ^ 32
  unfolding queues_next request_now
  next_words =
      let fr = frames_of w.house i in
      let n = pages_of w.house i in
      let g = asked_kept _ (guest_memory w.house i)
      (each_keeps fr n (Proper fr n) (empty_proper fr n) (own_proper fr n) (length w.memory) (placed_listed (ready_sound.each i here).placed))
      (guest w i).0 (guest w i).1 core_kept (memory_kept, shadow_proper) in
      desk_words w.house.count i (queues_of w.house) r.typed.tickets (queued_of w.house r.typed.shaped ready_sound.most) (omega (arith, here, r.whole.few)) _ g

  pub next_proper : (j : ℕ) → j < 8 → ProperQueue w.house.count (queues_next w i) j
  unfolding queues_next
  next_proper = desk_proper w.house.count i (queues_of w.house) (queued_of w.house r.typed.shaped ready_sound.most) r.whole.few (omega (arith, here, r.whole.few)) here r.whole.queued (request_now w i)
