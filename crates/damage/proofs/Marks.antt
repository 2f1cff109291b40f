-- Laws of the marks: what a frame's mark says of the lists, and that the looks by marks are the definition's searches.
use mathlib.Core.Path.{◌≡◌, refl, sym, subst, ap, ◌∙◌}
use mathlib.Core.Bool.{Bool, true, false, not, not-not, ◌&&◌, ◌||◌, or-true, true≢false, false≢true}
use mathlib.Core.List.{List, [], ◌∷◌}
use Prim.Native.Nat.{ℕ, zero, suc, ◌+◌, ◌-◌, ◌*◌, ◌/◌, ◌%◌, ◌<◌, ◌≤◌}
use native.Mathlib.Numerals.{add-one}
use native.Mathlib.Nat.{add-sub_cancel_left}
use native.Mathlib.Omega.{arith}
use borrow.Author.Tests.{not-false, eqb-true, eq-eqb, ne_eqb, ltb-true, ltb-false, le-leb, lt-leb, leb-true, leb-false}
use lib.Bits.{bit_or, or_zero_r, or_add_and, and_le_l}
use lib.Dec.{eqb, ltb, leb}
use borrow.Rule.Slice.PartMut.{mid_of}
use lib.Seq.{get_or-take}
use lib.ListN.{length, get_or, take, drop, length-replicate, get_or-replicate, get_or-eq_default}
use Rattle.std.specs.Prelude.{Option, None, Some, MatchOption}
use Rattle.std.specs.Option.{is_some}
use Rattle.dlx.specs.Choice.{when◌then◌else◌}
use Rattle.dlx.specs.declared.partition.Partition.{Partition}
use Rattle.dlx.proofs.Parts.{inner_length}
use Rattle.dlx.proofs.Parts as parts
use Rattle.dlx.proofs.Tests.{by_test, by_eq}
use Rattle.addresses.specs.Entries.{number}
use Rattle.addresses.specs.Walk.{entries}
use Rattle.dlx.specs.Parts.{inner}
use Rattle.house.specs.Lists.{any, between}
use Rattle.house.specs.House.{no_partition}
use Rattle.house.specs.Damage.{stands, entry_wrong, whole_frames, not_zero, partition_used, damaged, outside_limits, frame_twice, turn_wrong, registers_wrong, shadow_wrong, unused_wrong, queues_wrong}
use Rattle.house.specs.declared.House.{House}
use Rattle.house.proofs.Lists.Bounded.{one_way, same_test, or_left, or_right, any_yes, any_at, any_none, any_from, any_same, and_right}
use Rattle.house.proofs.Lists.ByRule.{first_none}
use Rattle.marks.specs.Marked.{marked, twice_marked, first_twice}
use Rattle.marks.proofs.Marked.{marked_length, marked_at}
use Rattle.damage.specs.Marks.{Within, shadow_marked, shadow_outside, pages_at, part_at, entries_at, pages_outside, barred_at, frames_barred, owners_of, twice_at, twice_in, entry_marked, group_marked, behind, queue_outside, outside, turn_outside, processor_wrong, registers_at, room_wrong, queue_at, inside}

-- partition i's part of a list, as the code lends it
pub part_is : (l : List ℕ) (i : ℕ) → take (i * 256 + 256 - i * 256) (drop (i * 256) l) ≡ part_at l i
unfolding inner
part_is l i = simp add-sub_cancel_left

pub part_length : (l : List ℕ) (i : ℕ) → i * 256 + 256 ≤ length l → length (mid_of (i * 256) (i * 256 + 256 - i * 256) l) ≡ 256
part_length l i h = ap (λ (x : List ℕ). length x) (part_is l i) ∙ inner_length l (i * 256) 256 h

-- ---- what one partition's look says

module _ (ps : List Partition) (n i : ℕ) (l : i < n) where
  abbrev part : Partition
  part = get_or (take n ps) i no_partition

  pub pages_here : (pages : ℕ) → pages ≡ part.pages → pages ≡ pages_at ps i
  pages_here pages e = e ∙ ap (λ (p : Partition). p.pages) (get_or-take n ps i no_partition l)

  pub barred_here : (fr : List ℕ) (size pages : ℕ) (r : Bool) → pages ≡ part.pages → r ≡ any (barred_at (take (i * 256 + 256 - i * 256) (drop (i * 256) fr)) size) pages → r ≡ frames_barred ps fr size i
  barred_here fr size pages r q e =
      e ∙ ap (λ (f : List ℕ). any (barred_at f size) pages) (part_is fr i) ∙ ap (any (barred_at (part_at fr i) size)) (pages_here pages q)

  pub registers_here : (rs : List ℕ) (r : Bool) → r ≡ processor_wrong part.processor (get_or rs (i * 32) 0) part.fault → r ≡ registers_at ps rs i
  registers_here rs r e =
      let z : i * 32 + 0 ≡ i * 32 = omega arith in
      let first : get_or rs (i * 32) 0 ≡ get_or (inner (i * 32) 32 rs) 0 0 = sym (parts.part_at rs (i * 32) 32 0 (omega arith) ∙ ap (λ (x : ℕ). get_or rs x 0) z) in
      e
      ∙ ap (λ (p : Partition). processor_wrong p.processor (get_or rs (i * 32) 0) p.fault) (get_or-take n ps i no_partition l)
      ∙ ap (λ (x : ℕ). processor_wrong (get_or ps i no_partition).processor x (get_or ps i no_partition).fault) first

pub queue_here : (count j : ℕ) (ts ns : List ℕ) (r : Bool) → r ≡ queue_outside count j (get_or ns j 0) (mid_of (j * 32) (j * 32 + 32 - j * 32) ts) → r ≡ queue_at count ts ns j
unfolding inner
queue_here count j ts ns r e = e ∙ simp add-sub_cancel_left

pub shadow_here : (o : List ℕ) (i tag : ℕ) (sh : List ℕ) (r : Bool) → tag ≡ i + 1 → r ≡ any (λ px. entry_marked o tag (get_or (mid_of (i * entries) (i * entries + entries - i * entries) sh) px 0)) entries → r ≡ shadow_marked o sh i
unfolding inner
shadow_here o i tag sh r t e = e ∙ simp (add-sub_cancel_left, t)

pub behind_here : (fr : List ℕ) (i n : ℕ) (r : Bool) → i * 256 + 256 ≤ length fr → r ≡ any (behind (mid_of (i * 256) (i * 256 + 256 - i * 256) fr) n) (length (mid_of (i * 256) (i * 256 + 256 - i * 256) fr)) → r ≡ any (behind (part_at fr i) n) 256
behind_here fr i n r l e = e ∙ ap (λ (f : List ℕ). any (behind f n) (length f)) (part_is fr i) ∙ ap (any (behind (part_at fr i) n)) (inner_length fr (i * 256) 256 l)

-- ---- an entry by one test of its bits

-- not valid, of a frame that no memory has, or with something in its unused bits
abbrev pub loose : ℕ → Bool
loose e = not (eqb (e / 2048 % 2) 1) || leb 4194304 e || not (eqb (e % 1024) 0)

module _ (o : List ℕ) (tag e : ℕ) where
  pub loose_marked : length o ≡ 1024 → 0 < tag → (e ≡ 0 → ⊥) → loose e ≡ true → true ≡ entry_marked o tag e
  loose_marked l p z h =
      by_test (eqb (e / 2048 % 2) 1)
      (λ a. by_test (eqb (e % 1024) 0)
      (λ b. by_test (leb 4194304 e)
      (λ c. let f : 4194304 ≤ e = leb-true 4194304 e c in
      let y : get_or o (e / 4096) 0 ≡ 0 = get_or-eq_default o 0 (omega (arith, l, f)) in
      simp (a, y, ne_eqb 0 tag (λ q. omega (arith, p, q))))
      (λ c. absurd (false≢true (simp (a, b, c) at h))))
      (λ b. by_test (eqb (get_or o (e / 4096) 0) tag) (λ c. simp (a, b, c)) (λ c. simp (a, b, c))))
      (λ a. simp (a, ne_eqb e 0 z))

  pub tight_marked : loose e ≡ false → (e < 4194304) × (not (eqb (get_or o (e / 4096) 0) tag) ≡ entry_marked o tag e)
  tight_marked h =
      by_test (eqb (e / 2048 % 2) 1)
      (λ a. by_test (leb 4194304 e)
      (λ b. absurd (true≢false (simp (a, b) at h)))
      (λ b. by_test (eqb (e % 1024) 0)
      (λ c. (leb-false 4194304 e b, by_test (eqb (get_or o (e / 4096) 0) tag) (λ d. simp (a, c, d)) (λ d. simp (a, c, d))))
      (λ c. absurd (true≢false (simp (a, b, c) at h)))))
      (λ a. absurd (true≢false (simp a at h)))

-- a search that answers a position tells whether there is one
is_found : (b : Bool) (P : ℕ → Type 0) (r : Option ℕ) → MatchOption r (b ≡ false) (λ at. (b ≡ true) × P at) → is_some r ≡ b
is_found b P None h = sym h
is_found b P (Some at) h = sym h.0

-- ---- all lists: a frame's mark is the number + 1 of the last partition that has it

module _ (ps : List Partition) (fr : List ℕ) where
  -- partition j has the frame f
  abbrev pub has : ℕ → ℕ → Bool
  has f j = stands (part_at fr j) (pages_at ps j) f

  pub owners_length : (n : ℕ) → length (owners_of ps fr n) ≡ 1024
  unfolding owners_of
  owners_length zero = length-replicate {A = ℕ} 1024 0
  owners_length (suc n) = marked_length (part_at fr n) (suc n) (owners_of ps fr n) (pages_at ps n) ∙ owners_length n

  owners_suc : (n f : ℕ) → f < 1024 → get_or (owners_of ps fr (suc n)) f 0 ≡ (when has f n then suc n else get_or (owners_of ps fr n) f 0)
  unfolding owners_of
  owners_suc n f l = marked_at (part_at fr n) (suc n) (owners_of ps fr n) (pages_at ps n) f (omega (arith, owners_length n))

  -- no mark: no partition has it
  pub owners_none : (n f : ℕ) → f < 1024 → eqb (get_or (owners_of ps fr n) f 0) 0 ≡ not (any (has f) n)
  unfolding any
  owners_none zero f l = unfold owners_of in eq-eqb _ _ (get_or-replicate {A = ℕ} 1024 f 0 0 l)
  owners_none (suc n) f l =
      rw (owners_suc n f l)
      (by_test (has f n)
      (λ e. rw e (ne_eqb (suc n) 0 (λ z. omega arith)))
      (λ e. rw e (owners_none n f l)))

  -- the mark i + 1: partition i has it
  pub owners_has : (n f i : ℕ) → f < 1024 → get_or (owners_of ps fr n) f 0 ≡ i + 1 → has f i ≡ true
  owners_has zero f i l h = absurd (let z : get_or (owners_of ps fr 0) f 0 ≡ 0 = unfold owners_of in get_or-replicate {A = ℕ} 1024 f 0 0 l in omega arith)
  owners_has (suc n) f i l h =
      by_test (has f n)
      (λ e. let z : suc n ≡ i + 1 = rw e at (sym (owners_suc n f l) ∙ h) in
      let y : n ≡ i = omega arith in subst (λ (x : ℕ). has f x ≡ true) y e)
      (λ e. owners_has n f i l (rw e at (sym (owners_suc n f l) ∙ h)))

  -- where none stands twice, the only partition that has it
  pub owners_only : (n f i : ℕ) → f < 1024 → any (twice_in ps fr) n ≡ false → i < n → has f i ≡ true → get_or (owners_of ps fr n) f 0 ≡ i + 1
  unfolding any
  owners_only zero f i l t s h = absurd (omega arith)
  owners_only (suc n) f i l t s h =
      owners_suc n f l
      ∙ by_eq i n
      (λ e. rw (subst (λ (x : ℕ). has f x ≡ true) e h) (omega arith))
      (λ e. by_test (has f n)
      (λ q. one_way (twice_in ps fr n)
      (let r = any_at (λ k. eqb (get_or (part_at fr n) k 0) f) (pages_at ps n) q in
      let z : get_or (part_at fr n) r.0 0 ≡ f = eqb-true _ _ r.2 in
      any_yes (twice_at ps fr n) (pages_at ps n) r.0 r.1
      (rw (any_yes (has (get_or (part_at fr n) r.0 0)) n i (omega arith) (subst (λ (x : ℕ). has x i ≡ true) (sym z) h)) (or-true (stands (part_at fr n) r.0 (get_or (part_at fr n) r.0 0)))))
      (or_left (twice_in ps fr n) (any (twice_in ps fr) n) t))
      (λ q. rw q (owners_only n f i l (or_right (twice_in ps fr n) (any (twice_in ps fr) n) t) (omega arith) h)))

  -- the look at one frame's mark, where partition i's frames are below 1,024
  module _ (n i : ℕ) (below : (k : ℕ) → k < pages_at ps i → get_or (part_at fr i) k 0 < 1024) where
    pub twice_by_marks : any (twice_marked (owners_of ps fr i) (part_at fr i)) (pages_at ps i) ≡ twice_in ps fr i
    twice_by_marks =
        any_same (twice_marked (owners_of ps fr i) (part_at fr i)) (twice_at ps fr i) (pages_at ps i)
        (λ k l. rw (owners_none i (get_or (part_at fr i) k 0) (below k l), not-not))

    -- what marking partition i's part finds, and leaves
    pub mark_part : (part o o' : List ℕ) (pages tag : ℕ) (r : Option ℕ) → part ≡ part_at fr i → pages ≡ pages_at ps i → tag ≡ i + 1 → o ≡ owners_of ps fr i
        → MatchOption r (any (twice_marked o part) pages ≡ false) (λ at. (any (twice_marked o part) pages ≡ true) × (at ≡ first_twice o part pages)) → o' ≡ marked part tag o (first_twice o part pages)
        → (is_some r ≡ twice_in ps fr i) × (is_some r ≡ false → o' ≡ owners_of ps fr (i + 1))
    unfolding owners_of
    mark_part part o o' pages tag r p q t e h m =
        let found = is_found (any (twice_marked o part) pages) (λ at. at ≡ first_twice o part pages) r h in
        (found ∙ rw (p, q, e) twice_by_marks, λ z. m ∙ ap (marked part tag o) (first_none (twice_marked o part) pages (sym found ∙ z)) ∙ rw (p, q, t, e, add-one))

    module _ (once : any (twice_in ps fr) n ≡ false) (there : i < n) where
      owner_is : (f : ℕ) → eqb (get_or (owners_of ps fr n) f 0) (i + 1) ≡ has f i
      owner_is f =
          same_test _ _
          (λ e. by_test (leb 1024 f)
          (λ q. absurd (
          let z : get_or (owners_of ps fr n) f 0 ≡ 0 = get_or-eq_default (owners_of ps fr n) 0 (omega (arith, owners_length n, leb-true 1024 f q)) in
          let y : get_or (owners_of ps fr n) f 0 ≡ i + 1 = eqb-true _ _ e in
          omega (arith, z, y)))
          (λ q. owners_has n f i (leb-false 1024 f q) (eqb-true _ _ e)))
          (λ h.
          let r = any_at (λ k. eqb (get_or (part_at fr i) k 0) f) (pages_at ps i) h in
          eq-eqb _ _ (owners_only n f i (let z : get_or (part_at fr i) r.0 0 ≡ f = eqb-true _ _ r.2 in omega (arith, below r.0 r.1)) once there h))

      pub entry_by_marks : (e : ℕ) → entry_marked (owners_of ps fr n) (i + 1) e ≡ entry_wrong (part_at fr i) (pages_at ps i) e
      entry_by_marks e = simp (owner_is (number e))

-- ---- what the limits give

pub pages_within : (ps : List Partition) (n : ℕ) → any (pages_outside ps) n ≡ false → (i : ℕ) → i < n → pages_at ps i ≤ 256
pages_within ps n h i l =
    leb-true (pages_at ps i) 256
    (and_right (leb 1 (pages_at ps i)) _ (not-false _ (any_none (pages_outside ps) n h i l)))

none_of_five : (a b c d e : Bool) → (a || b || c || d || e) ≡ false → (a ≡ false) × (b ≡ false) × (c ≡ false) × (d ≡ false) × (e ≡ false)
none_of_five true b c d e h = one_way true refl h
none_of_five false true c d e h = one_way true refl h
none_of_five false false true d e h = one_way true refl h
none_of_five false false false true e h = one_way true refl h
none_of_five false false false false e h = (refl, refl, refl, refl, h)

pub within : (count q words : ℕ) (ps : List Partition) (fr : List ℕ) → outside count q words ps fr ≡ false → Within count ps fr
within count q words ps fr h =
    let size = words / 1024 in
    let f = none_of_five (not (between 1 count 8)) (any (pages_outside ps) count) (not (between 1 q 10000)) (not (whole_frames words)) (any (frames_barred ps fr size) count) h in
    record {
      few = leb-true count 8 (and_right (leb 1 count) (leb count 8) (not-false (between 1 count 8) f.0));
      pages = pages_within ps count f.1;
      below = λ i l k m.
          let small : size ≤ 1024 = leb-true size 1024 (and_right (leb 1 size) (leb size 1024) (and_right (eqb (words % 1024) 0) (between 1 size 1024) (not-false (whole_frames words) f.3))) in
          let less : get_or (part_at fr i) k 0 < size = leb-false size (get_or (part_at fr i) k 0) (or_left _ (eqb (get_or (part_at fr i) k 0) 0) (any_none (barred_at (part_at fr i) size) (pages_at ps i) (any_none (frames_barred ps fr size) count f.4 i l) k m)) in
          omega (arith, small, less);
    }

pub shadows_by_marks : (count : ℕ) (ps : List Partition) (fr sh o : List ℕ) → Within count ps fr → any (twice_in ps fr) count ≡ false → o ≡ owners_of ps fr count → any (shadow_marked o sh) count ≡ any (shadow_outside ps fr sh) count
shadows_by_marks count ps fr sh o w once e =
    rw e (any_same (shadow_marked (owners_of ps fr count) sh) (shadow_outside ps fr sh) count
    (λ i l. any_same
    (λ px. entry_marked (owners_of ps fr count) (i + 1) (get_or (entries_at sh i) px 0))
    (λ px. entry_wrong (part_at fr i) (pages_at ps i) (get_or (entries_at sh i) px 0))
    entries
    (λ px m. entry_by_marks ps fr count i (w.below i l) once l (get_or (entries_at sh i) px 0))))

-- ---- the whole check

-- the definition's conditions, as the code groups them
regrouped : (o f t r s u q : Bool) → (o || f || t || r || s || u || q) ≡ (o || (f || t || r || s || u) || q)
regrouped true f t r s u q = refl
regrouped false f t r s u q = refl

module _ (h : House) where
  abbrev limits : Bool
  limits = outside h.count h.q h.words h.parts h.frames

  abbrev parts_wrong : Bool
  parts_wrong = inside h.count h.q h.current h.left h.running h.parts h.regs h.frames h.shadows

  abbrev queues : Bool
  queues = any (queue_at h.count h.tickets h.waiting) 8

  pub grouped : damaged h ≡ (limits || parts_wrong || queues)
  unfolding damaged outside_limits frame_twice turn_wrong registers_wrong shadow_wrong unused_wrong queues_wrong
  grouped =
      regrouped
      limits
      (any (twice_in h.parts h.frames) h.count)
      (turn_outside h.count h.q h.current h.left h.running)
      (any (registers_at h.parts h.regs) h.count)
      (any (shadow_outside h.parts h.frames h.shadows) h.count)
      (any (λ i. room_wrong h.count i (get_or h.running i false) (get_or h.parts i no_partition) h.regs h.frames h.shadows) 8)
      queues

-- ---- a partition that isn't there

or_false : (b : Bool) → (b || false) ≡ b
or_false true = refl
or_false false = refl

-- a search looks at the last place first
or_turned : (a x y : Bool) → x ≡ y → (a || x) ≡ (y || a)
or_turned true x y e = sym (or-true y)
or_turned false x y e = e ∙ sym (or_false y)

abbrev some : ℕ → Bool
some n = not (eqb n 0)

-- bits gathered from two places are 0 exactly where both are
gathered : (a b : ℕ) → some (bit_or a b) ≡ (some b || some a)
gathered a b =
    by_eq b 0
    (λ e. rw (e, or_zero_r a))
    (λ e. rw (ne_eqb b 0 e, ne_eqb (bit_or a b) 0 (λ z. e (omega (arith, or_add_and a b, and_le_l a b)))))

-- one place more
pub gathered_on : (l : List ℕ) (k bits : ℕ) → some bits ≡ not_zero l 0 k → some (bit_or bits (get_or l k 0)) ≡ not_zero l 0 (k + 1)
unfolding any
gathered_on l k bits e =
    let z : 0 + k ≡ k = omega arith in
    rw (add-one, z) (gathered bits (get_or l k 0) ∙ ap (λ (b : Bool). some (get_or l k 0) || b) e)

-- a part by itself
pub part_zero : (l : List ℕ) (base size : ℕ) → base + size ≤ length l → not_zero (take size (drop base l)) 0 (length (take size (drop base l))) ≡ not_zero l base size
unfolding inner
part_zero l base size h =
    ap (not_zero (inner base size l) 0) (inner_length l base size h)
    ∙ any_same (λ k. some (get_or (inner base size l) (0 + k) 0)) (λ k. some (get_or l (base + k) 0)) size
    (λ k m. let z : 0 + k ≡ k = omega arith in ap some (ap (λ (x : ℕ). get_or (inner base size l) x 0) z ∙ parts.part_at l base size k m))

-- as the code lends it
pub lent_zero : (l : List ℕ) (base size : ℕ) → base + size ≤ length l → not_zero (mid_of base (base + size - base) l) 0 (length (mid_of base (base + size - base) l)) ≡ not_zero l base size
lent_zero l base size h =
    let z : base + size - base ≡ size = add-sub_cancel_left base size in
    ap (λ (k : ℕ). not_zero (mid_of base k l) 0 (length (mid_of base k l))) z ∙ part_zero l base size h

turned : (a b c d e f g h i j k l m n o q : ℕ) → not_zero (a ∷ b ∷ c ∷ d ∷ e ∷ f ∷ g ∷ h ∷ i ∷ j ∷ k ∷ l ∷ m ∷ n ∷ o ∷ q ∷ []) 0 16 ≡ (some a || some b || some c || some d || some e || some f || some g || some h || some i || some j || some k || some l || some m || some n || some o || some q)
unfolding any
turned a b c d e f g h i j k l m n o q =
    or_turned (some q) _ _ (or_turned (some o) _ _ (or_turned (some n) _ _ (or_turned (some m) _ _ (or_turned (some l) _ _ (or_turned (some k) _ _ (or_turned (some j) _ _ (or_turned (some i) _ _ (or_turned (some h) _ _ (or_turned (some g) _ _ (or_turned (some f) _ _ (or_turned (some e) _ _ (or_turned (some d) _ _ (or_turned (some c) _ _ (or_turned (some b) _ _ (or_false (some a))))))))))))))))

module _ (p : Partition) (r : Bool) where
  abbrev numbers : List ℕ
  numbers =
      p.pages ∷ p.processor.dpc ∷ p.processor.pc ∷ p.processor.sr ∷ p.processor.esr ∷ p.processor.eca ∷ p.processor.epc
      ∷ p.processor.edpc ∷ p.processor.edata ∷ p.processor.mode ∷ p.processor.emode ∷ p.table.pto ∷ p.table.ptl ∷ p.timer.tcount
      ∷ p.timer.tload ∷ p.fault ∷ []

  used_is : partition_used p ≡ (not_zero numbers 0 16 || some p.counter)
  unfolding partition_used
  used_is =
      let s = p.processor in
      ap (λ (b : Bool). b || some p.counter)
      (sym (turned p.pages s.dpc s.pc s.sr s.esr s.eca s.epc s.edpc s.edata s.mode s.emode p.table.pto p.table.ptl p.timer.tcount p.timer.tload p.fault))

  pub number_used : r ≡ not_zero numbers 0 16 → r ≡ true → true ≡ partition_used p
  number_used e t = sym (used_is ∙ rw (sym e ∙ t) refl)

  pub counter_used : r ≡ not_zero numbers 0 16 → r ≡ false → not (eqb p.counter 0) ≡ partition_used p
  counter_used e t = sym (used_is ∙ rw (sym e ∙ t) refl)

-- ---- a shadow in groups of 32

module _ (o : List ℕ) (tag : ℕ) where
  empty_right : (e : ℕ) → not (eqb e 0) ≡ false → entry_marked o tag e ≡ false
  empty_right e z = subst (λ (x : ℕ). entry_marked o tag x ≡ false) (sym (eqb-true e 0 (not-false _ z))) refl

  -- no entry of an empty list is wrong
  pub empty_list : (g : List ℕ) → not_zero g 0 (length g) ≡ false → any (λ k. entry_marked o tag (get_or g k 0)) (length g) ≡ false
  empty_list g e =
      any_from (λ k. entry_marked o tag (get_or g k 0)) (length g)
      (λ k l.
      let z : k ≡ 0 + k = omega arith in
      empty_right (get_or g k 0) (ap (λ (x : ℕ). not (eqb (get_or g x 0) 0)) z ∙ any_none (λ j. not (eqb (get_or g (0 + j) 0) 0)) (length g) e k l))

module _ (o : List ℕ) (tag : ℕ) (sh : List ℕ) where
  abbrev wrong : ℕ → Bool
  wrong px = entry_marked o tag (get_or sh px 0)

  -- the group from base on, as the code lends it
  pub group_is : (base : ℕ) (r : Bool) (g : List ℕ) → base + 32 ≤ length sh → g ≡ take (base + 32 - base) (drop base sh) → r ≡ any (λ k. entry_marked o tag (get_or g k 0)) (length g) → r ≡ group_marked o tag sh base
  unfolding inner
  group_is base r g h p e =
      let is : g ≡ inner base 32 sh = p ∙ simp add-sub_cancel_left in
      e
      ∙ ap (λ (x : List ℕ). any (λ k. entry_marked o tag (get_or x k 0)) (length x)) is
      ∙ ap (any (λ k. entry_marked o tag (get_or (inner base 32 sh) k 0))) (inner_length sh base 32 h)
      ∙ any_same (λ k. entry_marked o tag (get_or (inner base 32 sh) k 0)) (λ k. wrong (base + k)) 32 (λ k l. ap (entry_marked o tag) (parts.part_at sh base 32 k l))

  -- no entry of an empty group is wrong
  pub group_empty : (base : ℕ) → not_zero sh base 32 ≡ false → group_marked o tag sh base ≡ false
  group_empty base e =
      any_from (λ k. wrong (base + k)) 32
      (λ k l. empty_right o tag (get_or sh (base + k) 0) (any_none (λ j. not (eqb (get_or sh (base + j) 0) 0)) 32 e k l))

  pub group_found : (n base : ℕ) → base + 32 ≤ n → group_marked o tag sh base ≡ true → any wrong n ≡ true
  group_found n base l e =
      let r = any_at (λ k. wrong (base + k)) 32 e in
      any_yes wrong n (base + r.0) (omega (arith, l, r.1)) r.2

  -- one group more
  pub group_more : (base : ℕ) → any wrong base ≡ false → group_marked o tag sh base ≡ false → any wrong (base + 32) ≡ false
  group_more base e g =
      any_from wrong (base + 32)
      (λ j l. by_test (ltb j base)
      (λ t. any_none wrong base e j (ltb-true j base t))
      (λ t.
      let m : base ≤ j = ltb-false j base t in
      let d : base + (j - base) ≡ j = omega (arith, m) in
      subst (λ (x : ℕ). wrong x ≡ false) d (any_none (λ k. wrong (base + k)) 32 g (j - base) (omega (arith, l, m)))))

-- ---- behind the first n of a list

and_left : (a b : Bool) → (a && b) ≡ true → a ≡ true
and_left true b e = refl
and_left false b e = e

module _ (l : List ℕ) (n : ℕ) where
  pub behind_none : length l ≤ n → any (behind l n) (length l) ≡ false
  behind_none h = any_from (behind l n) (length l) (λ j b. rw (lt-leb n j (omega (arith, h, b))))

  pub behind_gathered : n < length l → not_zero l n (length l - n) ≡ any (behind l n) (length l)
  behind_gathered h =
      same_test (not_zero l n (length l - n)) (any (behind l n) (length l))
      (λ e.
      let r = any_at (λ k. not (eqb (get_or l (n + k) 0) 0)) (length l - n) e in
      any_yes (behind l n) (length l) (n + r.0) (omega (arith, h, r.1)) (rw (le-leb n (n + r.0) (omega arith)) r.2))
      (λ e.
      let r = any_at (behind l n) (length l) e in
      let m : n ≤ r.0 = leb-true n r.0 (and_left (leb n r.0) (not (eqb (get_or l r.0 0) 0)) r.2) in
      let d : n + (r.0 - n) ≡ r.0 = omega (arith, m) in
      any_yes (λ k. not (eqb (get_or l (n + k) 0) 0)) (length l - n) (r.0 - n) (omega (arith, m, r.1))
      (subst (λ (x : ℕ). not (eqb (get_or l x 0) 0) ≡ true) (sym d) (and_right (leb n r.0) (not (eqb (get_or l r.0 0) 0)) r.2)))

  -- as the code lends it
  pub behind_lent : n < length l → not_zero (mid_of n (length l - n) l) 0 (length (mid_of n (length l - n) l)) ≡ any (behind l n) (length l)
  behind_lent h = part_zero l n (length l - n) (omega (arith, h)) ∙ behind_gathered h
