-- What a house that is not damaged gives, place by place; and, in the memory of its size, that host steps can be made of it while one is current.
use mathlib.Core.Path.{◌≡◌, sym, ap, subst, ◌∙◌}
use mathlib.Core.Bool.{Bool, true, false, not, ◌&&◌, ◌||◌}
use mathlib.Core.List.{List}
use Prim.Native.Nat.{ℕ, ◌*◌, ◌/◌, ◌%◌, ◌^◌, ◌<◌, ◌≤◌}
use native.Mathlib.Omega.{arith}
use borrow.Author.Tests.{eqb-true, eqb-false, leb-false, ltb-true, ltb-false, not-false, eq-eqb, ne_eqb, le-leb, lt-ltb, le-ltb}
use lib.Dec.{ltb, leb, eqb}
use lib.ListN.{length, get_or, get_or-eq_default}
use Rattle.addresses.specs.Entries.{valid}
use Rattle.addresses.specs.Walk.{entries}
use Rattle.addresses.proofs.Entries.{empty_invalid}
use Rattle.dlx.proofs.Tests.{by_test, by_eq, and_left}
use Rattle.house.specs.Lists.{any, between}
use Rattle.house.specs.House.{partition, pages_of, runs, registers_of, frames_of, shadow_of, queues_of}
use Rattle.house.specs.Damage.{whole_frames, frame_barred, outside_limits, stands, frame_twice, turn_wrong, registers_wrong, shadow_wrong, not_zero, partition_used, unused_wrong, queue_wrong, queues_wrong, damaged}
use Rattle.house.specs.Turns.{world}
use Rattle.house.specs.Sound.{Shaped, SoundPartition, Sound, Proper, Unused, Undamaged}
use Rattle.tickets.specs.Queues.{ProperQueue}
use Rattle.tickets.specs.Queues.{places_of, waiting_of}
use Rattle.house.specs.declared.House.{House}
use Rattle.house.proofs.Lists.Bounded.{or_left, or_right, and_right, by_order, any_none}
use Rattle.dlx.proofs.Parts.{inner_length}
use Rattle.house.proofs.Damage.Conditions.{within, stands_none, is_zero, zeros, entry_proper, partition_unused, bad_pages, bad_frames, frame_stands, bad_core, bad_entry, bad_behind, bad_unused, bad_place}

module _ (h : House) where
  abbrev count_out : Bool
  count_out = not (between 1 h.count 8)

  abbrev pages_out : Bool
  pages_out = any (bad_pages h) h.count

  abbrev turns_out : Bool
  turns_out = not (between 1 h.q 10000)

  abbrev words_out : Bool
  words_out = not (whole_frames h.words)

  abbrev frames_out : Bool
  frames_out = any (bad_frames h) h.count

  -- ---- each condition by itself

  module _ (e : outside_limits h ≡ false) where
    four_limits : (count_out || pages_out || turns_out || words_out) ≡ false
    unfolding outside_limits
    four_limits = or_left (count_out || pages_out || turns_out || words_out) frames_out e

    three_limits : (count_out || pages_out || turns_out) ≡ false
    three_limits = or_left (count_out || pages_out || turns_out) words_out four_limits

    two_limits : (count_out || pages_out) ≡ false
    two_limits = or_left (count_out || pages_out) turns_out three_limits

    limit_count : (1 ≤ h.count) × (h.count ≤ 8)
    limit_count = within 1 h.count 8 (or_left count_out pages_out two_limits)

    limit_pages : (i : ℕ) → i < h.count → (1 ≤ pages_of h i) × (pages_of h i ≤ 256)
    limit_pages i l = within 1 (pages_of h i) 256 (any_none (bad_pages h) h.count (or_right count_out pages_out two_limits) i l)

    limit_turns : (1 ≤ h.q) × (h.q ≤ 10000)
    limit_turns = within 1 h.q 10000 (or_right (count_out || pages_out) turns_out three_limits)

    whole_frames_lem : whole_frames h.words ≡ true
    whole_frames_lem = not-false (whole_frames h.words) (or_right (count_out || pages_out || turns_out) words_out four_limits)

    limit_whole : h.words % 1024 ≡ 0
    limit_whole = eqb-true (h.words % 1024) 0 (and_left (eqb (h.words % 1024) 0) (between 1 (h.words / 1024) 1024) whole_frames_lem)

    limit_size : (1 ≤ h.words / 1024) × (h.words / 1024 ≤ 1024)
    limit_size = within 1 (h.words / 1024) 1024 (ap not (and_right (eqb (h.words % 1024) 0) (between 1 (h.words / 1024) 1024) whole_frames_lem))

    not_barred : (i k : ℕ) → i < h.count → k < pages_of h i → frame_barred (h.words / 1024) (get_or (frames_of h i) k 0) ≡ false
    unfolding outside_limits
    not_barred i k l m =
        any_none (λ k. frame_barred (h.words / 1024) (get_or (frames_of h i) k 0)) (pages_of h i)
        (any_none (bad_frames h) h.count (or_right (count_out || pages_out || turns_out || words_out) frames_out e) i l) k m

    limit_frames : (i k : ℕ) → i < h.count → k < pages_of h i → get_or (frames_of h i) k 0 < h.words / 1024
    limit_frames i k l m = leb-false (h.words / 1024) (get_or (frames_of h i) k 0) (or_left _ (eqb (get_or (frames_of h i) k 0) 0) (not_barred i k l m))

    frames_kept : (i k : ℕ) → i < h.count → k < pages_of h i → get_or (frames_of h i) k 0 ≡ 0 → ⊥
    frames_kept i k l m = eqb-false (get_or (frames_of h i) k 0) 0 (or_right (leb (h.words / 1024) (get_or (frames_of h i) k 0)) _ (not_barred i k l m))

  module _ (e : frame_twice h ≡ false) where
    stands_not : (i k : ℕ) → i < h.count → k < pages_of h i → frame_stands h i k ≡ false
    unfolding frame_twice
    stands_not i k l m = any_none (frame_stands h i) (pages_of h i) (any_none (λ i. any (frame_stands h i) (pages_of h i)) h.count e i l) k m

    -- not earlier in its list, nor in an earlier partition's
    not_earlier : (i j k : ℕ) → i < h.count → k < pages_of h i → j < k → get_or (frames_of h i) j 0 ≡ get_or (frames_of h i) k 0 → ⊥
    not_earlier i j k l m n =
        stands_none (frames_of h i) k (get_or (frames_of h i) k 0)
        (or_left _ (any (λ j. stands (frames_of h j) (pages_of h j) (get_or (frames_of h i) k 0)) i) (stands_not i k l m)) j n

    not_before : (i j k x : ℕ) → i < h.count → k < pages_of h i → j < i → x < pages_of h j → get_or (frames_of h j) x 0 ≡ get_or (frames_of h i) k 0 → ⊥
    not_before i j k x l m n o =
        stands_none (frames_of h j) (pages_of h j) (get_or (frames_of h i) k 0)
        (any_none (λ j. stands (frames_of h j) (pages_of h j) (get_or (frames_of h i) k 0)) i
        (or_right (stands (frames_of h i) k (get_or (frames_of h i) k 0)) _ (stands_not i k l m)) j n) x o

    same_list : (i k l : ℕ) → i < h.count → k < pages_of h i → l < pages_of h i → get_or (frames_of h i) k 0 ≡ get_or (frames_of h i) l 0 → k ≡ l
    same_list i k l b m n q =
        by_order k l (λ t. absurd (not_earlier i k l b n t q)) (λ e. e) (λ t. absurd (not_earlier i l k b m t (sym q)))

    frames_once : (i j k l : ℕ) → i < h.count → j < h.count → k < pages_of h i → l < pages_of h j → get_or (frames_of h i) k 0 ≡ get_or (frames_of h j) l 0 → (i ≡ j) × (k ≡ l)
    frames_once i j k l a b m n q =
        by_order i j
        (λ t. absurd (not_before j i l k b n t m q))
        (λ z. (z, same_list i k l a m (subst (λ (v : ℕ). l < pages_of h v) (sym z) n) (q ∙ ap (λ (v : ℕ). get_or (frames_of h v) l 0) (sym z))))
        (λ t. absurd (not_before i j k l a m t n (sym q)))

  module _ (e : turn_wrong h ≡ false) where
    turn_idle : h.left ≡ 0 → (h.current ≡ 0) × ((i : ℕ) → i < 8 → runs h i ≡ false)
    unfolding turn_wrong
    turn_idle z =
        let t : (not (eqb h.current 0) || any (runs h) 8) ≡ false = simp (eq-eqb h.left 0 z) at e in
        (is_zero h.current (or_left _ (any (runs h) 8) t), any_none (runs h) 8 (or_right (not (eqb h.current 0)) _ t))

    turn_busy : (h.left ≡ 0 → ⊥) → (h.current < h.count) × (runs h h.current ≡ true) × (h.left ≤ h.q)
    unfolding turn_wrong
    turn_busy n =
        let t : (leb h.count h.current || not (runs h h.current) || ltb h.q h.left) ≡ false = simp (ne_eqb h.left 0 n) at e in
        let s = or_left (leb h.count h.current || not (runs h h.current)) (ltb h.q h.left) t in (
          leb-false h.count h.current (or_left (leb h.count h.current) (not (runs h h.current)) s),
          not-false _ (or_right (leb h.count h.current) (not (runs h h.current)) s),
          ltb-false h.q h.left (or_right (leb h.count h.current || not (runs h h.current)) (ltb h.q h.left) t),
        )

  module _ (e : registers_wrong h ≡ false) (i : ℕ) (l : i < h.count) where
    core_right : bad_core h i ≡ false
    unfolding registers_wrong
    core_right = any_none (bad_core h) h.count e i l

    abbrev first_wrong : Bool
    first_wrong = not (eqb (get_or (registers_of h i) 0 0) 0)

    abbrev mode_wrong : Bool
    mode_wrong = ltb 1 (partition h i).processor.mode

    abbrev emode_wrong : Bool
    emode_wrong = ltb 1 (partition h i).processor.emode

    three_right : (first_wrong || mode_wrong || emode_wrong) ≡ false
    three_right = or_left (first_wrong || mode_wrong || emode_wrong) (ltb 7 (partition h i).fault) core_right

    core_first : get_or (registers_of h i) 0 0 ≡ 0
    core_first = is_zero _ (or_left first_wrong mode_wrong (or_left (first_wrong || mode_wrong) emode_wrong three_right))

    core_mode : (partition h i).processor.mode ≤ 1
    core_mode = ltb-false 1 _ (or_right first_wrong mode_wrong (or_left (first_wrong || mode_wrong) emode_wrong three_right))

    core_emode : (partition h i).processor.emode ≤ 1
    core_emode = ltb-false 1 _ (or_right (first_wrong || mode_wrong) emode_wrong three_right)

    core_fault : (partition h i).fault ≤ 7
    core_fault = ltb-false 7 _ (or_right (first_wrong || mode_wrong || emode_wrong) (ltb 7 (partition h i).fault) core_right)

  entries_proper : shadow_wrong h ≡ false → (i px : ℕ) → i < h.count → px < entries → Proper (frames_of h i) (pages_of h i) (get_or (shadow_of h i) px 0)
  unfolding shadow_wrong
  entries_proper e i px l m =
      entry_proper (frames_of h i) (pages_of h i) (get_or (shadow_of h i) px 0)
      (any_none (bad_entry h i) entries (any_none (λ i. any (bad_entry h i) entries) h.count e i l) px m)

  module _ (e : unused_wrong h ≡ false) (i : ℕ) where
    place_right : i < 8 → bad_place h i ≡ false
    unfolding unused_wrong
    place_right l = any_none (bad_place h) 8 e i l

    place_behind : (k : ℕ) → i < h.count → i < 8 → pages_of h i ≤ k → k < 256 → get_or (frames_of h i) k 0 ≡ 0
    place_behind k l m n o =
        let a : any (bad_behind h i) 256 ≡ false = simp (lt-ltb i h.count l) at (place_right m) in
        let b = any_none (bad_behind h i) 256 a k o in
        is_zero _ (simp (le-leb (pages_of h i) k n) at b)

    place_unused : h.count ≤ i → i < 8 → Unused h i
    place_unused l m =
        let a : bad_unused h i ≡ false = simp (le-ltb i h.count l) at (place_right m) in
        let b = or_left (runs h i || partition_used (partition h i) || not_zero h.regs (i * 32) 32 || not_zero h.frames (i * 256) 256) (not_zero h.shadows (i * entries) entries) a in
        let c = or_left (runs h i || partition_used (partition h i) || not_zero h.regs (i * 32) 32) (not_zero h.frames (i * 256) 256) b in
        let d = or_left (runs h i || partition_used (partition h i)) (not_zero h.regs (i * 32) 32) c in
        record {
          still = or_left (runs h i) (partition_used (partition h i)) d;
          none = partition_unused (partition h i) (or_right (runs h i) (partition_used (partition h i)) d);
          regs = zeros h.regs (i * 32) 32 (or_right (runs h i || partition_used (partition h i)) (not_zero h.regs (i * 32) 32) c);
          frames = zeros h.frames (i * 256) 256 (or_right (runs h i || partition_used (partition h i) || not_zero h.regs (i * 32) 32) (not_zero h.frames (i * 256) 256) b);
          shadows = zeros h.shadows (i * entries) entries (or_right (runs h i || partition_used (partition h i) || not_zero h.regs (i * 32) 32 || not_zero h.frames (i * 256) 256) (not_zero h.shadows (i * entries) entries) a);
        }

  module _ (e : queues_wrong h ≡ false) (j : ℕ) (l : j < 8) where
    abbrev above : Bool
    above = ltb 32 (waiting_of (queues_of h) j)

    abbrev absent : Bool
    absent = leb h.count j && not (eqb (waiting_of (queues_of h) j) 0)

    abbrev left_behind : ℕ → Bool
    left_behind k = leb (waiting_of (queues_of h) j) k && not (eqb (get_or (places_of (queues_of h) j) k 0) 0)

    queue_not : queue_wrong h j ≡ false
    unfolding queues_wrong
    queue_not = any_none (queue_wrong h) 8 e j l

    queue_proper : ProperQueue h.count (queues_of h) j
    queue_proper =
        let a = or_left (above || absent) (any left_behind 32) queue_not in
        record {
          most = ltb-false 32 _ (or_left above absent a);
          none = λ m. let z : absent ≡ false = or_right above absent a in is_zero _ (simp (le-leb h.count j m) at z);
          spare = λ k m n.
              let z : left_behind k ≡ false = any_none left_behind 32 (or_right (above || absent) (any left_behind 32) queue_not) k n in
              is_zero _ (simp (le-leb (waiting_of (queues_of h) j) k m) at z);
        }

  -- ---- all together

  pub undamaged_gives : damaged h ≡ false → Undamaged h
  unfolding damaged
  undamaged_gives e =
      let A = outside_limits h in
      let B = frame_twice h in
      let C = turn_wrong h in
      let D = registers_wrong h in
      let E = shadow_wrong h in
      let F = unused_wrong h in
      let G = queues_wrong h in
      let e₀ = or_left (A || B || C || D || E || F) G e in
      let e₁ = or_left (A || B || C || D || E) F e₀ in
      let e₂ = or_left (A || B || C || D) E e₁ in
      let e₃ = or_left (A || B || C) D e₂ in
      let e₄ = or_left (A || B) C e₃ in
      let limits = or_left A B e₄ in
      let turns = or_right (A || B) C e₃ in
      let cores = or_right (A || B || C) D e₂ in
      let places = or_right (A || B || C || D || E) F e₀ in
      record {
        some = (limit_count limits).0;
        few = (limit_count limits).1;
        pages = limit_pages limits;
        turns = limit_turns limits;
        whole = limit_whole limits;
        size = limit_size limits;
        inside = limit_frames limits;
        kept = frames_kept limits;
        once = frames_once (or_right A B e₄);
        idle = turn_idle turns;
        busy = turn_busy turns;
        first = core_first cores;
        mode = core_mode cores;
        emode = core_emode cores;
        fault = core_fault cores;
        proper = entries_proper (or_right (A || B || C || D) E e₁);
        behind = λ i k l m n. place_behind places i k l (omega (arith, (limit_count limits).1)) m n;
        unused = place_unused places;
        queued = queue_proper (or_right (A || B || C || D || E || F) G e);
      }

-- ---- what other proofs cite

module _ (h : House) (e : damaged h ≡ false) where
  abbrev u : Undamaged h
  u = undamaged_gives h e

  pub count_within : (1 ≤ h.count) × (h.count ≤ 8)
  count_within = (u.some, u.few)

  pub words_whole : (h.words % 1024 ≡ 0) × (h.words ≤ 2 ^ 20)
  words_whole = (u.whole, omega (arith, u.whole, u.size.1))

  -- one is current, or 0 is named
  pub current_below : h.current < h.count
  current_below = by_eq h.left 0 (λ z. omega (arith, (u.idle z).0, u.some)) (λ n. (u.busy n).0)

  module _ (m : List ℕ) (s : Shaped h) (size : length m ≡ h.words) where
    pub sound_partition : (i : ℕ) → i < h.count → SoundPartition (world h m) i
    sound_partition i l =
        let c = count_within in
        let len = inner_length h.shadows (i * entries) entries (omega (arith, s.shadows)) in
        record {
          placed = record {
            few = (u.pages i l).1;
            list = inner_length h.frames (i * 256) 256 (omega (arith, s.frames));
            small = omega (arith, words_whole.1);
            inside = λ k b. omega (arith, u.inside i k l b, u.whole);
            distinct = λ j k a b q. (u.once i i j k l l a b q).1;
          };
          shadowed = record {
            count = len;
            own = λ px v.
                by_test (ltb px entries)
                (λ t. (u.proper i px l (ltb-true px entries t)).own v)
                (λ t. absurd (empty_invalid (subst (λ x. valid x ≡ true) (get_or-eq_default (shadow_of h i) 0 (let k = ltb-false px entries t in omega (arith, len))) v)));
          };
        }

    pub queues_most : (j : ℕ) → waiting_of (queues_of h) j ≤ 32
    queues_most j =
        by_test (ltb j 8)
        (λ t. (u.queued j (ltb-true j 8 t)).most)
        (λ t. omega (arith, get_or-eq_default h.waiting 0 {n = j} (let k = ltb-false j 8 t in omega (arith, s.waiting))))

    pub sound : (h.left ≡ 0 → ⊥) → Sound (world h m)
    sound n = record {
      shaped = s;
      few = u.few;
      each = sound_partition;
      here = (u.busy n).0;
      left = omega (arith, n);
      turns = u.turns.0;
      most = queues_most;
    }
