-- A house of which every statement of `Undamaged` holds is not damaged; the house of no partitions is.
use mathlib.Core.Path.{◌≡◌, refl, ap}
use mathlib.Core.Bool.{Bool, true, false, not, ◌&&◌}
use Prim.Native.Nat.{ℕ, ◌*◌, ◌/◌, ◌%◌, ◌<◌, ◌≤◌}
use native.Mathlib.Omega.{arith}
use borrow.Author.Tests.{eqb-true, eqb-false, leb-true, ltb-true, ltb-false, eq-eqb, ne_eqb, lt-leb, le-ltb}
use lib.Dec.{ltb, leb, eqb}
use lib.ListN.{get_or}
use Rattle.dlx.proofs.Kept.{either}
use Rattle.addresses.specs.Walk.{entries}
use Rattle.dlx.proofs.Tests.{by_test}
use Rattle.house.specs.Lists.{any}
use Rattle.house.specs.House.{no_house, pages_of, runs, frames_of, shadow_of, queues_of}
use Rattle.house.specs.Damage.{whole_frames, frame_barred, outside_limits, stands, frame_twice, turn_wrong, registers_wrong, shadow_wrong, unused_wrong, queue_wrong, queues_wrong, damaged}
use Rattle.house.specs.Sound.{Undamaged}
use Rattle.tickets.specs.Queues.{places_of, waiting_of}
use Rattle.house.specs.declared.House.{House}
use Rattle.house.proofs.Lists.Bounded.{or_none, any_from}
use Rattle.house.proofs.Damage.Conditions.{within_from, none_stands, zero_is, zeros_from, proper_entry, unused_partition, bad_pages, bad_frames, frame_stands, bad_core, bad_entry, bad_behind, bad_unused, bad_place}

-- none of the seven conditions
pub none_wrong : (h : House) → outside_limits h ≡ false → frame_twice h ≡ false → turn_wrong h ≡ false → registers_wrong h ≡ false → shadow_wrong h ≡ false → unused_wrong h ≡ false → queues_wrong h ≡ false → damaged h ≡ false
unfolding damaged
none_wrong h a b c d e f g = or_none (or_none (or_none (or_none (or_none (or_none a b) c) d) e) f) g

module _ (h : House) (u : Undamaged h) where
  size_right : whole_frames h.words ≡ true
  size_right = rw (eq-eqb (h.words % 1024) 0 u.whole) (within_from 1 (h.words / 1024) 1024 u.size.0 u.size.1)

  within_limits : outside_limits h ≡ false
  unfolding outside_limits
  within_limits =
      or_none (or_none (or_none (or_none
      (ap not (within_from 1 h.count 8 u.some u.few))
      (any_from (bad_pages h) h.count (λ i l. ap not (within_from 1 (pages_of h i) 256 (u.pages i l).0 (u.pages i l).1))))
      (ap not (within_from 1 h.q 10000 u.turns.0 u.turns.1)))
      (ap not size_right))
      (any_from (bad_frames h) h.count (λ i l. any_from (λ k. frame_barred (h.words / 1024) (get_or (frames_of h i) k 0)) (pages_of h i) (λ k m. or_none (lt-leb _ _ (u.inside i k l m)) (ne_eqb _ 0 (u.kept i k l m)))))

  each_once : frame_twice h ≡ false
  unfolding frame_twice
  each_once =
      any_from (λ i. any (frame_stands h i) (pages_of h i)) h.count λ i l. any_from (frame_stands h i) (pages_of h i) λ k m.
      or_none
      (none_stands (frames_of h i) k (get_or (frames_of h i) k 0) (λ j n q. let z = u.once i i j k l l (omega arith) m q in absurd (omega (arith, z.1))))
      (any_from (λ j. stands (frames_of h j) (pages_of h j) (get_or (frames_of h i) k 0)) i (λ j n.
      none_stands (frames_of h j) (pages_of h j) (get_or (frames_of h i) k 0) (λ x o q. let z = u.once j i x k (omega arith) l o m q in absurd (omega (arith, z.0)))))

  turn_right : turn_wrong h ≡ false
  unfolding turn_wrong
  turn_right =
      either (λ (b : Bool). b ≡ false) (eqb h.left 0)
      (λ e. let z = u.idle (eqb-true h.left 0 e) in or_none (zero_is _ z.0) (any_from (runs h) 8 z.1))
      (λ e. let z = u.busy (eqb-false h.left 0 e) in
      or_none (or_none (lt-leb _ _ z.0) (ap not z.1)) (le-ltb _ _ z.2))

  registers_right : registers_wrong h ≡ false
  unfolding registers_wrong
  registers_right = any_from (bad_core h) h.count λ i l. or_none (or_none (or_none (zero_is _ (u.first i l)) (le-ltb _ _ (u.mode i l))) (le-ltb _ _ (u.emode i l))) (le-ltb _ _ (u.fault i l))

  shadows_right : shadow_wrong h ≡ false
  unfolding shadow_wrong
  shadows_right =
      any_from (λ i. any (bad_entry h i) entries) h.count λ i l. any_from (bad_entry h i) entries λ px m.
      proper_entry (frames_of h i) (pages_of h i) (get_or (shadow_of h i) px 0) (u.proper i px l m)

  behind_zero : (i : ℕ) → i < h.count → any (bad_behind h i) 256 ≡ false
  behind_zero i l =
      any_from (bad_behind h i) 256 λ k m.
      by_test (leb (pages_of h i) k)
      (λ t. rw t (zero_is _ (u.behind i k l (leb-true _ _ t) m)))
      (λ t. rw t)

  place_zero : (i : ℕ) → h.count ≤ i → i < 8 → bad_unused h i ≡ false
  place_zero i l m =
      let z = u.unused i l m in
      or_none (or_none (or_none (or_none z.still (unused_partition _ z.none)) (zeros_from h.regs (i * 32) 32 z.regs)) (zeros_from h.frames (i * 256) 256 z.frames)) (zeros_from h.shadows (i * entries) entries z.shadows)

  unused_right : unused_wrong h ≡ false
  unfolding unused_wrong
  unused_right =
      any_from (bad_place h) 8 λ i m.
      either (λ (b : Bool). b ≡ false) (ltb i h.count) (λ t. behind_zero i (ltb-true i h.count t)) (λ t. place_zero i (ltb-false i h.count t) m)

  queue_right : (j : ℕ) → j < 8 → queue_wrong h j ≡ false
  queue_right j l =
      let z = u.queued j l in
      or_none (or_none (le-ltb 32 _ z.most)
      (by_test (leb h.count j) (λ t. rw t (zero_is _ (z.none (leb-true _ _ t)))) (λ t. rw t)))
      (any_from (λ k. leb (waiting_of (queues_of h) j) k && not (eqb (get_or (places_of (queues_of h) j) k 0) 0)) 32 λ k m.
      by_test (leb (waiting_of (queues_of h) j) k) (λ t. rw t (zero_is _ (z.spare k (leb-true _ _ t) m))) (λ t. rw t))

  queues_right : queues_wrong h ≡ false
  unfolding queues_wrong
  queues_right = any_from (queue_wrong h) 8 queue_right

  pub undamaged_from : damaged h ≡ false
  undamaged_from = none_wrong h within_limits each_once turn_right registers_right shadows_right unused_right queues_right

-- the house of no partitions is damaged, so that every call on it is refused
pub none_damaged : damaged no_house ≡ true
unfolding damaged outside_limits
none_damaged = refl
