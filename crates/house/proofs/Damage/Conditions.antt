-- Each test of the damage check as a statement, and back.
use mathlib.Core.Path.{◌≡◌, refl, sym, ap, ◌∙◌}
use mathlib.Core.Bool.{Bool, true, false, not, ◌&&◌, ◌||◌}
use mathlib.Core.List.{List, [], ◌∷◌}
use Prim.Native.Nat.{ℕ, zero, suc, ◌+◌, ◌*◌, ◌/◌, ◌%◌, ◌<◌, ◌≤◌}
use native.Mathlib.Omega.{arith}
use borrow.Author.Tests.{eqb-true, eqb-false, leb-true, not-false, eq-eqb, ne_eqb, le-leb}
use lib.Dec.{ltb, leb, eqb}
use lib.ListN.{get_or}
use Rattle.dlx.specs.Choice.{when◌then◌else◌}
use Rattle.dlx.specs.declared.partition.Partition.{Partition}
use Rattle.dlx.proofs.Kept.{either}
use Rattle.addresses.specs.Entries.{number, valid, entry_of}
use Rattle.addresses.specs.Walk.{entries}
use Rattle.addresses.specs.Premises.{Own}
use Rattle.addresses.proofs.Entries.{number_entry, valid_entry, empty_invalid}
use Rattle.dlx.proofs.Tests.{and_left}
use Rattle.dlx.specs.Parts.{inner}
use Rattle.house.specs.Lists.{any, between}
use Rattle.house.specs.House.{no_partition, partition, pages_of, runs, registers_of, frames_of, shadow_of}
use Rattle.house.specs.Damage.{frame_barred, stands, entry_wrong, not_zero, partition_used}
use Rattle.house.specs.Sound.{Proper}
use Rattle.house.specs.declared.House.{House}
use Rattle.house.proofs.Lists.Bounded.{or_left, or_right, or_none, and_right, one_way, any_at, any_none, any_from, any_yes}
use Rattle.dlx.proofs.Parts.{part_at}

-- ---- tests by `between`, by `stands` and by `not_zero`

pub within : (a n b : ℕ) → not (between a n b) ≡ false → (a ≤ n) × (n ≤ b)
within a n b e =
    let t = not-false (between a n b) e in
    (leb-true a n (and_left (leb a n) (leb n b) t), leb-true n b (and_right (leb a n) (leb n b) t))

pub within_from : (a n b : ℕ) → a ≤ n → n ≤ b → between a n b ≡ true
within_from a n b l m = rw (le-leb a n l, le-leb n b m)

-- a number that stands in a list is one of its first n
pub stands_own : (fr : List ℕ) (n f : ℕ) → stands fr n f ≡ true → Own fr n f
stands_own fr n f e = let r = any_at (λ k. eqb (get_or fr k 0) f) n e in (r.0, r.1, eqb-true _ _ r.2)

pub own_stands : (fr : List ℕ) (n f : ℕ) → Own fr n f → stands fr n f ≡ true
own_stands fr n f o = any_yes (λ k. eqb (get_or fr k 0) f) n o.0 o.1 (eq-eqb _ _ o.2)

pub stands_none : (fr : List ℕ) (n f : ℕ) → stands fr n f ≡ false → (k : ℕ) → k < n → get_or fr k 0 ≡ f → ⊥
stands_none fr n f e k l = eqb-false (get_or fr k 0) f (any_none (λ k. eqb (get_or fr k 0) f) n e k l)

pub none_stands : (fr : List ℕ) (n f : ℕ) → ((k : ℕ) → k < n → get_or fr k 0 ≡ f → ⊥) → stands fr n f ≡ false
none_stands fr n f h = any_from (λ k. eqb (get_or fr k 0) f) n (λ k l. ne_eqb (get_or fr k 0) f (h k l))

pub is_zero : (n : ℕ) → not (eqb n 0) ≡ false → n ≡ 0
is_zero n e = eqb-true n 0 (not-false (eqb n 0) e)

pub zero_is : (n : ℕ) → n ≡ 0 → not (eqb n 0) ≡ false
zero_is n e = rw (eq-eqb n 0 e)

pub zeros : (m : List ℕ) (a s : ℕ) → not_zero m a s ≡ false → (k : ℕ) → k < s → get_or (inner a s m) k 0 ≡ 0
zeros m a s e k l = part_at m a s k l ∙ is_zero _ (any_none (λ k. not (eqb (get_or m (a + k) 0) 0)) s e k l)

pub zeros_from : (m : List ℕ) (a s : ℕ) → ((k : ℕ) → k < s → get_or (inner a s m) k 0 ≡ 0) → not_zero m a s ≡ false
zeros_from m a s h = any_from (λ k. not (eqb (get_or m (a + k) 0) 0)) s (λ k l. zero_is _ (sym (part_at m a s k l) ∙ h k l))

-- ---- entries

pub entry_proper : (fr : List ℕ) (n e : ℕ) → entry_wrong fr n e ≡ false → Proper fr n e
entry_proper fr n e w = record {
  own = λ v. stands_own fr n (number e) (not-false _ (or_left (not (stands fr n (number e))) (not (eqb (e % 1024) 0)) (simp v at w)));
  bits = λ v. is_zero _ (or_right (not (stands fr n (number e))) (not (eqb (e % 1024) 0)) (simp v at w));
  empty = λ v. is_zero _ (simp v at w);
}

pub proper_entry : (fr : List ℕ) (n e : ℕ) → Proper fr n e → entry_wrong fr n e ≡ false
proper_entry fr n e p =
    either (λ (b : Bool). b ≡ false) (valid e)
    (λ v. or_none (ap not (own_stands fr n (number e) (p.own v))) (zero_is _ (p.bits v)))
    (λ v. zero_is _ (p.empty v))

-- the empty entry is proper, and that of an own frame with either protection
pub empty_proper : (fr : List ℕ) (n : ℕ) → Proper fr n 0
empty_proper fr n = record { own = λ v. absurd (empty_invalid v); bits = λ v. refl; empty = λ v. refl }

pub own_proper : (fr : List ℕ) (n k p : ℕ) → k < n → p < 2 → Proper fr n (entry_of (get_or fr k 0) p)
own_proper fr n k p l m = record {
  own = λ v. (k, l, sym (number_entry (get_or fr k 0) p m));
  bits = λ v. omega arith;
  empty = λ v. one_way _ (valid_entry (get_or fr k 0) p m) v;
}

-- ---- an unused partition

-- one of these numbers is not 0, or b holds
abbrev used : Bool → List ℕ → Bool
used b [] = b
used b (n ∷ ns) = used (b || not (eqb n 0)) ns

used_first : (b : Bool) (ns : List ℕ) → used b ns ≡ false → b ≡ false
used_first b [] e = e
used_first b (n ∷ ns) e = or_left b (not (eqb n 0)) (used_first (b || not (eqb n 0)) ns e)

used_none : (b : Bool) (ns : List ℕ) → used b ns ≡ false → (k : ℕ) → get_or ns k 0 ≡ 0
used_none b [] e k = refl
used_none b (n ∷ ns) e zero = is_zero n (or_right b (not (eqb n 0)) (used_first (b || not (eqb n 0)) ns e))
used_none b (n ∷ ns) e (suc k) = used_none (b || not (eqb n 0)) ns e k

abbrev numbers : Partition → List ℕ
numbers p =
    let c = p.processor in
    p.pages ∷ c.dpc ∷ c.pc ∷ c.sr ∷ c.esr ∷ c.eca ∷ c.epc ∷ c.edpc ∷ c.edata ∷ c.mode ∷ c.emode ∷ p.table.pto ∷ p.table.ptl ∷ p.timer.tcount ∷ p.timer.tload ∷ p.fault ∷ p.counter ∷ []

pub partition_unused : (p : Partition) → partition_used p ≡ false → p ≡ no_partition
unfolding partition_used
partition_unused p e =
    let z : (k : ℕ) → get_or (numbers p) k 0 ≡ 0 = used_none false (numbers p) e in
    let z0 : p.pages ≡ 0 = z 0 in
    let z1 : p.processor.dpc ≡ 0 = z 1 in
    let z2 : p.processor.pc ≡ 0 = z 2 in
    let z3 : p.processor.sr ≡ 0 = z 3 in
    let z4 : p.processor.esr ≡ 0 = z 4 in
    let z5 : p.processor.eca ≡ 0 = z 5 in
    let z6 : p.processor.epc ≡ 0 = z 6 in
    let z7 : p.processor.edpc ≡ 0 = z 7 in
    let z8 : p.processor.edata ≡ 0 = z 8 in
    let z9 : p.processor.mode ≡ 0 = z 9 in
    let z10 : p.processor.emode ≡ 0 = z 10 in
    let z11 : p.table.pto ≡ 0 = z 11 in
    let z12 : p.table.ptl ≡ 0 = z 12 in
    let z13 : p.timer.tcount ≡ 0 = z 13 in
    let z14 : p.timer.tload ≡ 0 = z 14 in
    let z15 : p.fault ≡ 0 = z 15 in
    let z16 : p.counter ≡ 0 = z 16 in
    rw (z0, z1, z2, z3, z4, z5, z6, z7, z8, z9, z10, z11, z12, z13, z14, z15, z16)

pub unused_partition : (p : Partition) → p ≡ no_partition → partition_used p ≡ false
unfolding partition_used
unused_partition p e = rw e

-- ---- the conditions, place by place

module _ (h : House) where
  abbrev pub bad_pages : ℕ → Bool
  bad_pages i = not (between 1 (pages_of h i) 256)

  abbrev pub bad_frames : ℕ → Bool
  bad_frames i = any (λ k. frame_barred (h.words / 1024) (get_or (frames_of h i) k 0)) (pages_of h i)

  abbrev pub frame_stands : ℕ → ℕ → Bool
  frame_stands i k =
      stands (frames_of h i) k (get_or (frames_of h i) k 0)
      || any (λ j. stands (frames_of h j) (pages_of h j) (get_or (frames_of h i) k 0)) i

  abbrev pub bad_core : ℕ → Bool
  bad_core i =
      not (eqb (get_or (registers_of h i) 0 0) 0)
      || ltb 1 (partition h i).processor.mode
      || ltb 1 (partition h i).processor.emode
      || ltb 7 (partition h i).fault

  abbrev pub bad_entry : ℕ → ℕ → Bool
  bad_entry i px = entry_wrong (frames_of h i) (pages_of h i) (get_or (shadow_of h i) px 0)

  abbrev pub bad_behind : ℕ → ℕ → Bool
  bad_behind i k = leb (pages_of h i) k && not (eqb (get_or (frames_of h i) k 0) 0)

  abbrev pub bad_unused : ℕ → Bool
  bad_unused i =
      runs h i
      || partition_used (partition h i)
      || not_zero h.regs (i * 32) 32
      || not_zero h.frames (i * 256) 256
      || not_zero h.shadows (i * entries) entries

  abbrev pub bad_place : ℕ → Bool
  bad_place i = when ltb i h.count then any (bad_behind i) 256 else bad_unused i
