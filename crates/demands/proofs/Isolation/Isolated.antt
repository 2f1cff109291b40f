-- One host step, in two houses that have the same of the current partition: it comes to the same in both, and each keeps all else.
use mathlib.Core.Path.{◌≡◌, refl, sym, ap, subst, ◌∙◌}
use mathlib.Core.Bool.{Bool}
use mathlib.Core.List.{List}
use Prim.Native.Nat.{ℕ, ◌+◌, ◌*◌, ◌/◌, ◌<◌}
use native.Mathlib.Omega.{arith}
use lib.ListN.{length, get_or}
use Rattle.dlx.specs.Machine.{Reply, Outcome, step}
use Rattle.dlx.specs.declared.partition.Partition.{Partition}
use Rattle.dlx.proofs.Like.{Both, Like, asked_like, step_like}
use Rattle.addresses.specs.Walk.{entries}
use Rattle.addresses.specs.Memory.{Host, host_memory}
use Rattle.addresses.specs.Premises.{Placed, Own}
use Rattle.addresses.proofs.Shadow.{Untouched}
use Rattle.addresses.proofs.Isolation.{Alike, isolation}
use Rattle.house.specs.House.{partition, pages_of, frames_of, queues_of, with_queues}
use Rattle.house.specs.Turns.{World, world, turn_of, guest, guest_memory, request_now, reply_now, queues_next, queued_on, counted, guest_step, turn_after, settled_house, step_with, host_step}
use Rattle.tickets.specs.Queues.{Queues, desk}
use Rattle.house.specs.Sound.{Shaped, Sound}
use Rattle.demands.specs.Demands.{AgreeOn, OwnAndOneTicket, SameFor, OwnAlone}
use Rattle.house.specs.declared.House.{House}
use Rattle.house.specs.declared.Turn.{Turn}
use Rattle.tickets.proofs.Queues.{desk_moved}
use Rattle.house.proofs.Turns.Kept.{queued_of, step_registers, step_keeps, here_small, shaped_here, settled_partition, settled_registers, settled_shadow, other_partition, other_registers, other_shadow}
use Rattle.house.proofs.Turns.SameLayout.{step_layout}

-- the house after a step depends on what the step answers, its table and its shadow
stepped_house : (h : House) (o o' : Outcome × Host) (x x' : Queues) → o.0 ≡ o'.0 → o.1.table ≡ o'.1.table → o.1.shadow ≡ o'.1.shadow → x ≡ x' → (step_with (with_queues h x) o).house ≡ (step_with (with_queues h x') o').house
unfolding step_with settled_house
stepped_house h o o' x x' e t s q = rw (e, t, s, q)

-- a word outside the frames, by its frame and its place there
by_frame : (fr base ws : List ℕ) (n : ℕ) → Untouched fr n base ws → (f j : ℕ) → (Own fr n f → ⊥) → j < 1024 → get_or ws (f * 1024 + j) 0 ≡ get_or base (f * 1024 + j) 0
by_frame fr base ws n u f j o l =
    let e : (f * 1024 + j) / 1024 ≡ f = omega arith in
    u (f * 1024 + j) (rw e o)

-- what else a step changes in its house: by one ticket at most
own_and_one_ticket : (w : World) → Sound w → OwnAndOneTicket w.house (host_step w).house w.house.current
unfolding host_step step_with queues_next settled_house
own_and_one_ticket w s =
    let h = w.house in
    let i = h.current in
    let small = here_small w s in
    let made = guest_step w i in
    let regs = step_registers w s.shaped small in
    let shadow = (step_keeps w s).shadowed.count in
    let t = turn_after h 1 made.0.calls in
    let on = shaped_here w s in
    record {
      records = λ j l d. other_partition (queued_on w) i on small made regs shadow t j l d;
      registers = λ j l d. other_registers (queued_on w) i on small made regs shadow t j l d;
      shadows = λ j l d. other_shadow (queued_on w) i on small made regs shadow t j l d;
      layout = step_layout w;
      running = refl;
      queues = desk_moved h.count i (queues_of h) (queued_of h s.shaped s.most) s.few small (request_now w i);
    }

-- ---- the same of partition i

pub same_for : (h : House) (i : ℕ) → SameFor h h i
same_for h i = record { part = refl; registers = refl; frames = refl; shadow = refl; count = refl; queues = refl; turn = refl; q = refl; running = refl }

-- other queues, the same in both
queued_same : (h h' : House) (i : ℕ) → SameFor h h' i → (x x' : Queues) → x ≡ x' → SameFor (with_queues h x) (with_queues h' x') i
queued_same h h' i e x x' q = record {
  part = e.part;
  registers = e.registers;
  frames = e.frames;
  shadow = e.shadow;
  count = e.count;
  queues = q;
  turn = e.turn;
  q = e.q;
  running = e.running;
}

turn_same : (r r' : List Bool) (n n' q q' c l l' : ℕ) (b b' : Bool) → r ≡ r' → n ≡ n' → q ≡ q' → l ≡ l' → b ≡ b' → turn_of r n q c l 1 b ≡ turn_of r' n' q' c l' 1 b'
turn_same r r' n n' q q' c l l' b b' er en eq el eb = rw (er, en, eq, el, eb)

-- what its step came to, and the turn, the same in both
module _ (v v' : World) (i : ℕ) (a : Shaped v.house) (a' : Shaped v'.house) (small : i < 8) (o o' : Outcome × Host) (t t' : Turn) where
  settled_same : SameFor v.house v'.house i → length o.0.core.registers ≡ 32 → length o.1.shadow ≡ entries
      → o.0 ≡ o'.0 → o.1.table ≡ o'.1.table → o.1.shadow ≡ o'.1.shadow → t ≡ t'
      → SameFor (settled_house v.house i o t) (settled_house v'.house i o' t') i
  unfolding settled_house
  settled_same e regs shadow c b d f =
      let regs' : length o'.0.core.registers ≡ 32 = rw (← c) regs in
      let shadow' : length o'.1.shadow ≡ entries = rw (← d) shadow in
      let p : counted (partition v.house i) o ≡ counted (partition v'.house i) o' = rw (e.part, c, b) in
      record {
        part = settled_partition v i a small o regs shadow t ∙ p ∙ sym (settled_partition v' i a' small o' regs' shadow' t');
        registers = settled_registers v i a small o regs shadow t ∙ ap (λ (x : Outcome). x.core.registers) c ∙ sym (settled_registers v' i a' small o' regs' shadow' t');
        frames = e.frames;
        shadow = settled_shadow v i a small o regs shadow t ∙ d ∙ sym (settled_shadow v' i a' small o' regs' shadow' t');
        count = e.count;
        queues = e.queues;
        turn = f;
        q = e.q;
        running = e.running;
      }

-- what a house's memory must be for it to be sound is its length
pub other_memory : (h : House) (m m' : List ℕ) → length m ≡ length m' → Sound (world h m) → Sound (world h m')
other_memory h m m' long s = record {
  shaped = s.shaped;
  few = s.few;
  each = λ i l. record { placed = rw (← long) (s.each i l).placed; shadowed = (s.each i l).shadowed };
  here = s.here;
  left = s.left;
  turns = s.turns;
  most = s.most;
}

-- ---- two houses that have the same of the partition i, which is current

module _ (h h' : House) (m m' : List ℕ) (s : Sound (world h m)) (s' : Sound (world h' m')) (e : SameFor h h' h.current) (same : AgreeOn h h.current m m') where
  abbrev i : ℕ
  i = h.current

  abbrev Hosts : Host → Host → Type 0
  Hosts = Alike (frames_of h i) (pages_of h i) m m'

  current_same : h.current ≡ h'.current
  current_same = ap (λ (t : Turn). t.current) e.turn

  here' : i < h'.count
  here' = rw (current_same) s'.here

  memories_like : Like Hosts (guest_memory h i) (guest_memory h' i)
  memories_like =
      let placed' : Placed (frames_of h i) (pages_of h i) (length m') =
      subst (λ (fr : List ℕ). Placed fr (pages_of h i) (length m')) (sym e.frames)
      (subst (λ (p : Partition). Placed (frames_of h' i) p.pages (length m')) (sym e.part) (s'.each i here').placed) in
      subst (λ (fr : List ℕ). Like Hosts (guest_memory h i) (host_memory fr (pages_of h' i))) e.frames
      (subst (λ (p : Partition). Like Hosts (guest_memory h i) (host_memory (frames_of h i) p.pages)) e.part
      (isolation (frames_of h i) m m' (pages_of h i) (s.each i s.here).placed placed'))

  guests_alike : Both Hosts (guest (world h m) i) (guest (world h' m') i)
  guests_alike = record {
    same = rw (e.part, e.registers);
    rest = record {
      table = ap (λ (p : Partition). p.table) e.part;
      shadow = e.shadow;
      shadowed = (s.each i s.here).shadowed;
      size = refl;
      size' = refl;
      own = same;
      others = λ _ _. refl;
      others' = λ _ _. refl;
    };
  }

  -- both ask the same, so both are answered the same, and the queues after it are the same
  request_alike : request_now (world h m) i ≡ request_now (world h' m') i
  unfolding request_now
  request_alike = asked_like Hosts (guest_memory h i) (guest_memory h' i) memories_like (guest (world h m) i) (guest (world h' m') i) guests_alike

  desk_alike : desk h.count i (queues_of h) (request_now (world h m) i) ≡ desk h'.count i (queues_of h') (request_now (world h' m') i)
  desk_alike = rw (request_alike, e.count, e.queues)

  reply_alike : reply_now (world h m) i ≡ reply_now (world h' m') i
  unfolding reply_now
  reply_alike = ap (λ (d : Reply × Queues). d.0) desk_alike

  queues_alike : queues_next (world h m) i ≡ queues_next (world h' m') i
  unfolding queues_next
  queues_alike = ap (λ (d : Reply × Queues). d.1) desk_alike

  pub step_alike : Both Hosts (guest_step (world h m) i) (guest_step (world h' m') i)
  unfolding guest_step
  step_alike =
      subst (λ (y : Reply). Both Hosts (guest_step (world h m) i) (step (guest_memory h' i) y (guest (world h' m') i))) reply_alike
      (step_like Hosts (guest_memory h i) (guest_memory h' i) memories_like (reply_now (world h m) i) (guest (world h m) i) (guest (world h' m') i) guests_alike)

  -- the second house's step, told as one of i
  abbrev w' : World
  w' = world h' m'

  step_same : SameFor (host_step (world h m)).house (host_step (world h' m')).house i
  unfolding host_step step_with
  step_same =
      let w = world h m in
      let b = step_alike in
      let l : h.left ≡ h'.left = ap (λ (t : Turn). t.left) e.turn in
      let on' : Shaped (with_queues h' (queues_next w' i)) = rw current_same (shaped_here w' s') in
      subst (λ (c : ℕ). SameFor (host_step w).house
      (settled_house (with_queues h' (queues_next w' c)) c (guest_step w' c) (turn_of h'.running h'.count h'.q c h'.left 1 (guest_step w' c).0.calls)) i) current_same
      (settled_same (queued_on w) (world (with_queues h' (queues_next w' i)) m') i (shaped_here w s) on' (here_small w s) (guest_step w i) (guest_step w' i) _ _
      (queued_same h h' i e _ _ queues_alike) (step_registers w s.shaped (here_small w s)) (step_keeps w s).shadowed.count
      b.same b.rest.table b.rest.shadow
      (turn_same h.running h'.running h.count h'.count h.q h'.q i h.left h'.left (guest_step w i).0.calls (guest_step w' i).0.calls
      e.running e.count e.q l (ap (λ (x : Outcome). x.calls) b.same)))

  words' : (host_step (world h' m')).memory ≡ (guest_step (world h' m') i).1.words
  unfolding host_step step_with
  words' = ap (λ (c : ℕ). (guest_step w' c).1.words) (sym current_same)

  pub step_isolated : OwnAlone (world h m) (world h' m') (host_step (world h m)) (host_step (world h' m')) i
  unfolding host_step step_with
  step_isolated =
      let w = world h m in
      let b = step_alike in
      let fr = frames_of h i in
      let n = pages_of h i in
      record {
        same = step_same;
        own = rw words' b.rest.own;
        foreign = by_frame fr m (host_step w).memory n b.rest.others;
        foreign' = rw (← e.frames, ← e.part) (by_frame fr m' (host_step w').memory n (rw words' b.rest.others'));
        rest = own_and_one_ticket w s;
        rest' = rw current_same (own_and_one_ticket w' s');
      }

-- ---- one house in two memories: all of it comes to the same

module _ (h : House) (m m' : List ℕ) (s : Sound (world h m)) (long : length m ≡ length m') (same : AgreeOn h h.current m m') where
  one_alike : Both (Alike (frames_of h h.current) (pages_of h h.current) m m') (guest_step (world h m) h.current) (guest_step (world h m') h.current)
  one_alike = step_alike h h m m' s (other_memory h m m' long s) (same_for h h.current) same

  pub one_house : (host_step (world h m)).house ≡ (host_step (world h m')).house
  unfolding host_step step_with
  one_house =
      let b = one_alike in
      stepped_house h _ _ _ _ b.same b.rest.table b.rest.shadow (queues_alike h h m m' s (other_memory h m m' long s) (same_for h h.current) same)

  pub one_long : length (host_step (world h m)).memory ≡ length (host_step (world h m')).memory
  unfolding host_step step_with
  one_long = one_alike.rest.size ∙ long ∙ sym one_alike.rest.size'

  pub one_isolated : OwnAlone (world h m) (world h m') (host_step (world h m)) (host_step (world h m')) h.current
  one_isolated = step_isolated h h m m' s (other_memory h m m' long s) (same_for h h.current) same
