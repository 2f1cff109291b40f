-- A stretch of the current partition, of at most the steps left, or of any number where it is alone, is so many host steps.
use mathlib.Core.Path.{◌≡◌, refl, sym, ap, subst, ◌∙◌}
use mathlib.Core.List.{List}
use mathlib.Core.Bool.{Bool, true, false}
use Prim.Native.Nat.{ℕ, zero, suc, ◌+◌, ◌-◌, ◌*◌, ◌%◌, ◌^◌, ◌<◌, ◌≤◌}
use native.Mathlib.Nat.{add-zero, add-suc, sub-zero, zero-mod, mod-eq_of_lt, mod-eq-sub-mod}
use native.Mathlib.Omega.{arith}
use borrow.Author.Tests.{eq-eqb, ne_eqb, lt-ltb, le-ltb, ltb-true, ltb-false}
use lib.Dec.{eqb, ltb}
use lib.ListN.{length, set}
use lib.Seq.{set-set}
use Rattle.dlx.specs.declared.partition.Partition.{Partition}
use Rattle.dlx.specs.Machine.{Ops, Core, Outcome, Desk, step_at, Stretch, stretch_from}
use Rattle.dlx.specs.Processor.{with_counter}
use Rattle.dlx.proofs.Kept.{either}
use Rattle.addresses.specs.Walk.{entries}
use Rattle.addresses.specs.Memory.{Host, host_memory}
use Rattle.dlx.specs.Choice.{when◌then◌else◌}
use Rattle.dlx.proofs.Tests.{by_test, by_eq}
use Rattle.house.specs.House.{guests, turn, with_turn, with_guests, with_queues, partition, pages_of, frames_of, queues_of}
use Rattle.house.specs.Turns.{with_guest, World, world, turn_after, guest, guest_memory, request_now, reply_now, queues_next, guest_step, queued_on, counted, counted_on, settled_house, step_with, host_step, host_steps, stretched_house, next_of, turn_of, left_alone, later_of}
use Rattle.tickets.specs.Queues.{Queues, desk}
use Rattle.house.specs.Sound.{Shaped, Sound}
use Rattle.house.specs.declared.House.{House}
use Rattle.house.specs.declared.Turn.{Turn}
use Rattle.dlx.proofs.Parts.{outer_outer}
use Rattle.house.proofs.Turns.Kept.{settled_pages, settled_partition, settled_registers, settled_shadow, step_keeps, step_registers, shaped_here, sound_step}

-- ---- the count is carried along

bumped : {S T : Type 0} → Stretch S T → Stretch S T
bumped r = record { made = suc r.made; called = r.called; core = r.core; memory = r.memory; desk = r.desk }

module _ {S T : Type 0} (O : Ops S) (D : Desk T) where
  made_on : (k a : ℕ) (m : Core × S) (t : T) → stretch_from O D k (suc a) m t ≡ bumped (stretch_from O D k a m t)
  unfolding stretch_from bumped
  made_on zero a m t = refl
  made_on (suc k) a m t = go (step_at O D m t).0.0.calls refl (made_on k (suc a) ((step_at O D m t).0.0.core, (step_at O D m t).0.1) (step_at O D m t).1)
    where
      go : (b : Bool) → (step_at O D m t).0.0.calls ≡ b → stretch_from O D k (suc (suc a)) ((step_at O D m t).0.0.core, (step_at O D m t).0.1) (step_at O D m t).1 ≡ bumped (stretch_from O D k (suc a) ((step_at O D m t).0.0.core, (step_at O D m t).0.1) (step_at O D m t).1) → stretch_from O D (suc k) (suc a) m t ≡ bumped (stretch_from O D (suc k) a m t)
      go true e h = simp e
      go false e h = simp e h

pub steps_from : (n : ℕ) (w : World) → host_steps n (host_step w) ≡ host_steps (suc n) w
unfolding host_steps
steps_from zero w = refl
steps_from (suc n) w = ap host_step (steps_from n w)

-- ---- the house after one step, and then a stretch

carried : (c j : ℕ) → ((c + 1) % 2 ^ 64 + j) % 2 ^ 64 ≡ (c + suc j) % 2 ^ 64
carried c j = omega arith

counted_on_lem : (p : Partition) (o : Outcome × Host) (r : Stretch Host Queues) → counted_on (counted p o) r ≡ counted_on p (bumped r)
unfolding bumped
counted_on_lem p o r = ap (with_counter (with_guest p r.core r.memory.table)) (carried p.counter r.made)

-- a house with guests, the turn and the queues, by the guests' lists
same_guests : (h : House) (t : Turn) (k : Queues) {p p' : List Partition} {r r' z z' : List ℕ} → p ≡ p' → r ≡ r' → z ≡ z'
    → with_queues (with_guests (with_turn h h.running t) (guests p r z)) k ≡ with_queues (with_guests (with_turn h h.running t) (guests p' r' z')) k
same_guests h t k e f g = rw (e, f, g)

module _ (w : World) (i : ℕ) (s : Shaped w.house) (few : i < 8) (o : Outcome × Host) (regs : length o.0.core.registers ≡ 32) (shadow : length o.1.shadow ≡ entries) (t₀ : Turn) where
  -- the stretched house of the stepped one
  joined : (r : Stretch Host Queues) (t : Turn) → stretched_house (settled_house w.house i o t₀) i r t ≡ stretched_house w.house i (bumped r) t
  unfolding stretched_house settled_house bumped
  joined r t =
      same_guests w.house t r.desk
      (set-set w.house.parts i _ _ ∙ ap (set w.house.parts i) (ap (λ (p : Partition). counted_on p r) (settled_partition w i s few o regs shadow t₀) ∙ counted_on_lem (partition w.house i) o r))
      (outer_outer w.house.regs (i * 32) 32 (omega (arith, s.regs)) o.0.core.registers r.core.registers regs)
      (outer_outer w.house.shadows (i * entries) entries (omega (arith, s.shadows)) o.1.shadow r.memory.shadow shadow)

  -- and its guest
  hopped : guest (world (settled_house w.house i o t₀) o.1.words) i ≡ (o.0.core, o.1)
  hopped =
      let p = settled_partition w i s few o regs shadow t₀ in
      simp (p, settled_registers w i s few o regs shadow t₀, settled_shadow w i s few o regs shadow t₀)

-- ---- the turn one step on

less_one : (l j : ℕ) → 0 < l → eqb (l - 1) j ≡ eqb l (suc j)
less_one l j h =
    by_eq l (suc j)
    (λ e. eq-eqb (l - 1) j (omega arith) ∙ sym (eq-eqb l (suc j) e))
    (λ d. ne_eqb (l - 1) j (λ q. d (omega arith)) ∙ sym (ne_eqb l (suc j) d))

turn_on : (h : House) (o : Outcome × Host) (j : ℕ) (called : Bool) → 0 < h.left → turn_after (settled_house h h.current o (turn h.current (h.left - 1))) j called ≡ turn_after h (suc j) called
unfolding turn_of settled_house
turn_on h o j called l =
    let e : h.left - 1 - j ≡ h.left - suc j = omega arith in
    simp (less_one h.left j l, e)

-- ---- a stretch

-- the steps that it made lead to its house, with this turn
abbrev Ends : World → Stretch Host Queues → Turn → Type 0
Ends w r t = host_steps r.made w ≡ world (stretched_house w.house w.house.current r t) r.memory.words

abbrev Made : World → Stretch Host Queues → Type 0
Made w r = Ends w r (turn_after w.house r.made r.called)

abbrev MadeAlone : World → Stretch Host Queues → Type 0
MadeAlone w r = Ends w r (turn w.house.current (left_alone w.house.q w.house.left r.made r.called))

abbrev once : Bool → Outcome × Host → Queues → Stretch Host Queues
once b o t = record { made = 1; called = b; core = o.0.core; memory = o.1; desk = t }

abbrev pub stretched : World → ℕ → Stretch Host Queues
stretched w k =
    let i = w.house.current in
    stretch_from (guest_memory w.house i) (desk w.house.count i) k 0 (guest w i) (queues_of w.house)

-- the world after one step behind which the same partition is current, with l left
abbrev hop : World → ℕ → World
hop w l =
    let i = w.house.current in
    let o = guest_step w i in
    world (settled_house (queued_on w).house i o (turn i l)) o.1.words

module _ (w : World) (s : Sound w) where
  made_once : (b : Bool) → (guest_step w w.house.current).0.calls ≡ b → Made w (once b (guest_step w w.house.current) (queues_next w w.house.current))
  unfolding host_steps host_step step_with turn_of settled_house stretched_house
  made_once b e = simp e

  hop_is : (guest_step w w.house.current).0.calls ≡ false → 1 < w.house.left → host_step w ≡ hop w (w.house.left - 1)
  unfolding host_step step_with turn_of
  hop_is e l = simp (e, ne_eqb w.house.left 1 (λ q. omega arith))

  stretched_called : (k : ℕ) → (guest_step w w.house.current).0.calls ≡ true → stretched w (suc k) ≡ once true (guest_step w w.house.current) (queues_next w w.house.current)
  unfolding stretch_from guest_step reply_now request_now queues_next
  stretched_called k e = simp e

  stretched_one : (guest_step w w.house.current).0.calls ≡ false → stretched w 1 ≡ once false (guest_step w w.house.current) (queues_next w w.house.current)
  unfolding stretch_from guest_step reply_now request_now queues_next
  stretched_one e = simp e

  -- so many steps more from behind the first
  abbrev onwards : ℕ → ℕ → Stretch Host Queues
  onwards k a =
      let i = w.house.current in
      stretch_from (guest_memory w.house i) (desk w.house.count i) (suc k) a ((guest_step w i).0.core, (guest_step w i).1) (queues_next w i)

  first_is : (k : ℕ) → (guest_step w w.house.current).0.calls ≡ false → stretched w (suc (suc k)) ≡ onwards k 1
  unfolding stretch_from guest_step reply_now request_now queues_next
  first_is k e = simp e

  module _ (l : ℕ) where
    again_is : (k : ℕ) → guest (hop w l) w.house.current ≡ ((guest_step w w.house.current).0.core, (guest_step w w.house.current).1) → pages_of (hop w l).house w.house.current ≡ pages_of w.house w.house.current → stretched (hop w l) (suc k) ≡ onwards k 0
    unfolding settled_house
    again_is k g p =
        let i = w.house.current in
        ap (λ (n : ℕ). stretch_from (host_memory (frames_of w.house i) n) (desk w.house.count i) (suc k) 0 (guest (hop w l) i) (queues_next w i)) p
        ∙ ap (λ (m : Core × Host). stretch_from (guest_memory w.house i) (desk w.house.count i) (suc k) 0 m (queues_next w i)) g

    stretched_on : (k : ℕ) → (guest_step w w.house.current).0.calls ≡ false → stretched w (suc (suc k)) ≡ bumped (stretched (hop w l) (suc k))
    stretched_on k e =
        let i = w.house.current in
        let o = guest_step w i in
        let f : i < 8 = omega (arith, s.here, s.few) in
        let c = (step_keeps w s).shadowed.count in
        let t = turn i l in
        first_is k e
        ∙ made_on (guest_memory w.house i) (desk w.house.count i) (suc k) 0 (o.0.core, o.1) (queues_next w i)
        ∙ ap bumped (sym (again_is k (hopped (queued_on w) i (shaped_here w s) f o (step_registers w s.shaped f) c t) (settled_pages (queued_on w).house i o t i)))

    hop_sound : host_step w ≡ hop w l → Sound (hop w l)
    hop_sound e = subst Sound e (sound_step w s)

    made_on_hop : (r : Stretch Host Queues) (u : Turn) → host_step w ≡ hop w l → Ends (hop w l) r u → Ends w (bumped r) u
    unfolding bumped settled_house stretched_house
    made_on_hop r u e h =
        let i = w.house.current in
        let f : i < 8 = omega (arith, s.here, s.few) in
        sym (steps_from r.made w)
        ∙ ap (host_steps r.made) e
        ∙ h
        ∙ ap (λ (x : House). world x r.memory.words)
        (joined (queued_on w) i (shaped_here w s) f (guest_step w i) (step_registers w s.shaped f) (step_keeps w s).shadowed.count (turn i l) r u)

  -- where the turn does not end
  made_goes_on : (r : Stretch Host Queues) → host_step w ≡ hop w (w.house.left - 1) → Made (hop w (w.house.left - 1)) r → Made w (bumped r)
  unfolding bumped
  made_goes_on r e h = subst (Ends w (bumped r)) (turn_on (queued_on w).house (guest_step w w.house.current) r.made r.called s.left) (made_on_hop (w.house.left - 1) r _ e h)

hop_left : (w : World) (k : ℕ) → suc k < w.house.left → k < (hop w (w.house.left - 1)).house.left
unfolding settled_house
hop_left w k l = omega arith

-- a stretch of 1 to `left` steps is as many host steps as it made
pub stretch_is : (k : ℕ) (w : World) → Sound w → k < w.house.left → Made w (stretched w (suc k))
stretch_is zero w s l = go (guest_step w w.house.current).0.calls refl
  where
    go : (b : Bool) → (guest_step w w.house.current).0.calls ≡ b → Made w (stretched w 1)
    go true e = rw (stretched_called w s 0 e) (made_once w s true e)
    go false e = rw (stretched_one w s e) (made_once w s false e)
stretch_is (suc k) w s l = go (guest_step w w.house.current).0.calls refl (λ s' l'. stretch_is k (hop w (w.house.left - 1)) s' l')
  where
    go : (b : Bool) → (guest_step w w.house.current).0.calls ≡ b → (Sound (hop w (w.house.left - 1)) → k < (hop w (w.house.left - 1)).house.left → Made (hop w (w.house.left - 1)) (stretched (hop w (w.house.left - 1)) (suc k))) → Made w (stretched w (suc (suc k)))
    go true e h = rw (stretched_called w s (suc k) e) (made_once w s true e)
    go false e h =
        let d = w.house.left - 1 in
        let n = hop_is w s e (omega arith) in
        rw (stretched_on w s d k e) (made_goes_on w s _ n (h (hop_sound w s d n) (hop_left w k l)))

-- ---- a partition that is alone

-- it is its own next one
abbrev pub Alone : World → Type 0
Alone w = next_of w.house.running w.house.count w.house.current ≡ w.house.current

-- what is left behind one step
abbrev less : ℕ → ℕ → ℕ
less q l = when eqb l 1 then q else l - 1

-- one step, and then so many
less_more : (q l j : ℕ) (calls : Bool) → 0 < l → left_alone q (less q l) j calls ≡ left_alone q l (suc j) calls
unfolding left_alone
less_more q l j true h = refl
less_more q l j false h =
    by_eq l 1 last more
  where
    last : l ≡ 1 → (when ltb j (less q l) then less q l - j else q - (j - less q l) % q) ≡ (when ltb (suc j) l then l - suc j else q - (suc j - l) % q)
    last e =
        let d : suc j - l ≡ j = omega arith in
        by_test (ltb j q)
        (λ b. simp (eq-eqb l 1 e, b, le-ltb (suc j) l (omega arith), d, mod-eq_of_lt (ltb-true j q b)))
        (λ b. simp (eq-eqb l 1 e, b, le-ltb (suc j) l (omega arith), d, mod-eq-sub-mod (ltb-false j q b)))

    more : (l ≡ 1 → ⊥) → (when ltb j (less q l) then less q l - j else q - (j - less q l) % q) ≡ (when ltb (suc j) l then l - suc j else q - (suc j - l) % q)
    more d =
        let a : l - 1 - j ≡ l - suc j = omega arith in
        let b : j - (l - 1) ≡ suc j - l = omega arith in
        by_test (ltb (suc j) l)
        (λ c. let f = ltb-true (suc j) l c in simp (ne_eqb l 1 d, c, lt-ltb j (l - 1) (omega arith), a))
        (λ c. let f = ltb-false (suc j) l c in simp (ne_eqb l 1 d, c, le-ltb j (l - 1) (omega arith), b))

-- the turn behind one step
alone_on : (r : List Bool) (n q c l : ℕ) → next_of r n c ≡ c → turn_of r n q c l 1 false ≡ turn c (less q l)
unfolding turn_of
alone_on r n q c l a = by_test (eqb l 1) (λ b. simp (b, a)) (λ b. simp b)

alone_once : (r : List Bool) (n q c l : ℕ) (calls : Bool) → next_of r n c ≡ c → 0 < l → turn_of r n q c l 1 calls ≡ turn c (left_alone q l 1 calls)
unfolding left_alone turn_of
alone_once r n q c l true a h = by_test (eqb l 1) (λ b. simp (b, a)) (λ b. simp (b, a))
alone_once r n q c l false a h =
    by_eq l 1
    (λ e. let d : 1 - l ≡ 0 = omega arith in simp (eq-eqb l 1 e, a, le-ltb 1 l (omega arith), d, zero-mod, sub-zero))
    (λ d. simp (ne_eqb l 1 d, lt-ltb 1 l (omega arith)))

module _ (w : World) (s : Sound w) (a : Alone w) where
  alone_hop : (guest_step w w.house.current).0.calls ≡ false → host_step w ≡ hop w (less w.house.q w.house.left)
  unfolding host_step step_with
  alone_hop e = simp (e, alone_on w.house.running w.house.count w.house.q w.house.current w.house.left a)

  alone_made : (b : Bool) → (guest_step w w.house.current).0.calls ≡ b → MadeAlone w (once b (guest_step w w.house.current) (queues_next w w.house.current))
  alone_made b e = subst (Ends w (once b (guest_step w w.house.current) (queues_next w w.house.current))) (alone_once w.house.running w.house.count w.house.q w.house.current w.house.left b a s.left) (made_once w s b e)

  alone_goes_on : (r : Stretch Host Queues) → host_step w ≡ hop w (less w.house.q w.house.left) → MadeAlone (hop w (less w.house.q w.house.left)) r → MadeAlone w (bumped r)
  unfolding bumped settled_house
  alone_goes_on r e h =
      subst (λ (l : ℕ). Ends w (bumped r) (turn w.house.current l)) (less_more w.house.q w.house.left r.made r.called s.left)
      (made_on_hop w s (less w.house.q w.house.left) r _ e h)

still_alone : (w : World) (l : ℕ) → Alone w → Alone (hop w l)
unfolding settled_house
still_alone w l a = a

-- a stretch of one that is alone is as many host steps as it made
alone_is : (k : ℕ) (w : World) → Sound w → Alone w → MadeAlone w (stretched w (suc k))
alone_is zero w s a = go (guest_step w w.house.current).0.calls refl
  where
    go : (b : Bool) → (guest_step w w.house.current).0.calls ≡ b → MadeAlone w (stretched w 1)
    go true e = rw (stretched_called w s 0 e) (alone_made w s a true e)
    go false e = rw (stretched_one w s e) (alone_made w s a false e)
alone_is (suc k) w s a = go (guest_step w w.house.current).0.calls refl (λ s' a'. alone_is k (hop w (less w.house.q w.house.left)) s' a')
  where
    go : (b : Bool) → (guest_step w w.house.current).0.calls ≡ b → (Sound (hop w (less w.house.q w.house.left)) → Alone (hop w (less w.house.q w.house.left)) → MadeAlone (hop w (less w.house.q w.house.left)) (stretched (hop w (less w.house.q w.house.left)) (suc k))) → MadeAlone w (stretched w (suc (suc k)))
    go true e h = rw (stretched_called w s (suc k) e) (alone_made w s a true e)
    go false e h =
        let d = less w.house.q w.house.left in
        let n = alone_hop w s a e in
        rw (stretched_on w s d k e) (alone_goes_on w s a _ n (h (hop_sound w s d n) (still_alone w d a)))

-- ---- how many steps a stretch makes

module _ {S T : Type 0} (O : Ops S) (D : Desk T) where
  made_most : (k a : ℕ) (m : Core × S) (t : T) → (a ≤ (stretch_from O D k a m t).made) × ((stretch_from O D k a m t).made ≤ a + k)
  unfolding stretch_from
  made_most zero a m t = (omega arith, omega arith)
  made_most (suc k) a m t =
      let o = step_at O D m t in
      let h = made_most k (suc a) (o.0.0.core, o.0.1) o.1 in
      either (λ (r : Stretch S T). (a ≤ r.made) × (r.made ≤ a + suc k)) o.0.0.calls
      (λ _. (omega arith, omega arith))
      (λ _. (omega arith, omega arith))

  made_some : (k : ℕ) (m : Core × S) (t : T) → 0 < (stretch_from O D (suc k) 0 m t).made
  unfolding stretch_from
  made_some k m t =
      let o = step_at O D m t in
      let h = made_most k 1 (o.0.0.core, o.0.1) o.1 in
      either (λ (r : Stretch S T). 0 < r.made) o.0.0.calls (λ _. omega arith) (λ _. omega arith)

-- a stretch of n steps at most, where 0 < n and n is at most the steps left
pub record Turned (w : World) (n : ℕ) (r : Stretch Host Queues) : Type 0 where
  pub some : 0 < r.made
  pub most : r.made ≤ n
  pub steps : host_steps r.made w ≡ world (stretched_house w.house w.house.current r (turn_after w.house r.made r.called)) r.memory.words

pub turned : (n : ℕ) (w : World) → Sound w → 0 < n → n ≤ w.house.left → Turned w n (stretched w n)
turned zero w s p l = absurd (omega arith)
turned (suc k) w s p l = record {
  some = made_some (guest_memory w.house w.house.current) (desk w.house.count w.house.current) k (guest w w.house.current) (queues_of w.house);
  most = omega (arith, (made_most (guest_memory w.house w.house.current) (desk w.house.count w.house.current) (suc k) 0 (guest w w.house.current) (queues_of w.house)).1);
  steps = stretch_is k w s (omega arith);
}

-- a stretch of n steps at most, where 0 < n, and n is at most the steps left unless it is alone
pub record Spanned (alone : Bool) (w : World) (n : ℕ) (r : Stretch Host Queues) : Type 0 where
  pub some : 0 < r.made
  pub most : r.made ≤ n
  pub steps : host_steps r.made w ≡ world (stretched_house w.house w.house.current r (later_of alone w.house.running w.house.count w.house.q w.house.current w.house.left r.made r.called)) r.memory.words

pub spanned : (alone : Bool) (n : ℕ) (w : World) → Sound w → 0 < n → (alone ≡ true → Alone w) → (alone ≡ false → n ≤ w.house.left) → Spanned alone w n (stretched w n)
unfolding later_of
spanned alone zero w s p a l = absurd (omega arith)
spanned true (suc k) w s p a l = record {
  some = made_some (guest_memory w.house w.house.current) (desk w.house.count w.house.current) k (guest w w.house.current) (queues_of w.house);
  most = omega (arith, (made_most (guest_memory w.house w.house.current) (desk w.house.count w.house.current) (suc k) 0 (guest w w.house.current) (queues_of w.house)).1);
  steps = alone_is k w s (a refl);
}
spanned false (suc k) w s p a l =
    let t = turned (suc k) w s p (l refl) in
    record { some = t.some; most = t.most; steps = t.steps }

-- ---- steps after steps

pub steps_add : (m n : ℕ) (w : World) → host_steps n (host_steps m w) ≡ host_steps (m + n) w
unfolding host_steps
steps_add m zero w = simp add-zero
steps_add m (suc n) w = simp add-suc (ap host_step (steps_add m n w))
