-- What a verdict of 0 says: no case applied.
use mathlib.Core.Path.{◌≡◌, refl, sym, ap}
use mathlib.Core.Bool.{Bool, true, false, not, ◌&&◌}
use mathlib.Core.List.{List, ◌∷◌}
use Prim.Native.Nat.{ℕ, ◌+◌, ◌*◌, ◌/◌, ◌%◌, ◌<◌, ◌≤◌}
use native.Mathlib.Omega.{arith}
use borrow.Author.Tests.{eqb-true, eqb-false, leb-false, ltb-false, not-false, ne_eqb}
use lib.Dec.{eqb, ltb}
use lib.ListN.{length, get_or}
use Rattle.dlx.proofs.Tests.{and_left}
use Rattle.house.specs.Lists.{any, between}
use Rattle.house.specs.House.{pages_of}
use Rattle.house.specs.Damage.{whole_frames, damaged}
use Rattle.house.specs.Boot.{Verdict, Case, case, first_of, sum, pages_wrong, frame_outside, frame_kept, stood_earlier, boot_verdict}
use Rattle.house.specs.Calls.{beyond_of, run_verdict, one_verdict, read_verdict}
use Rattle.house.specs.Turns.{World}
use Rattle.house.specs.declared.House.{House}
use Rattle.house.proofs.Lists.Bounded.{or_left, or_right, and_right, by_order, any_none}
use Rattle.house.proofs.Damage.Conditions.{within, is_zero}

-- the first case does not apply
pub passed : (b : Bool) (n d : ℕ) (cs : List Case) (done : Verdict) → 0 < n → (first_of (case b n d ∷ cs) done).number ≡ 0 → (b ≡ false) × ((first_of cs done).number ≡ 0)
unfolding first_of
passed true n d cs done l e = absurd (omega arith)
passed false n d cs done l e = (refl, e)

-- a boot that is done
pub record BootDone (ps : List ℕ) (q : ℕ) (fr : List ℕ) (words : ℕ) : Type 0 where
  pub count : (1 ≤ length ps) × (length ps ≤ 8)
  pub pages : (i : ℕ) → i < length ps → (1 ≤ get_or ps i 0) × (get_or ps i 0 ≤ 256)
  pub turns : (1 ≤ q) × (q ≤ 10000)
  pub whole : words % 1024 ≡ 0
  pub size : (1 ≤ words / 1024) × (words / 1024 ≤ 1024)
  pub long : length fr ≡ sum ps
  pub inside : (k : ℕ) → k < length fr → get_or fr k 0 < words / 1024
  pub kept : (k : ℕ) → k < length fr → get_or fr k 0 ≡ 0 → ⊥
  pub once : (j k : ℕ) → j < length fr → k < length fr → get_or fr j 0 ≡ get_or fr k 0 → j ≡ k

never_earlier : (fr : List ℕ) → any (stood_earlier fr) (length fr) ≡ false → (j k : ℕ) → j < k → k < length fr → get_or fr j 0 ≡ get_or fr k 0 → ⊥
never_earlier fr e j k l m =
    eqb-false (get_or fr j 0) (get_or fr k 0) (any_none (λ j. eqb (get_or fr j 0) (get_or fr k 0)) k (any_none (stood_earlier fr) (length fr) e k m) j l)

pub boot_done : (ps : List ℕ) (q : ℕ) (fr : List ℕ) (words : ℕ) → (boot_verdict ps q fr words).number ≡ 0 → BootDone ps q fr words
unfolding boot_verdict
boot_done ps q fr words e =
    let a = passed _ 1 _ _ _ (omega arith) e in
    let b = passed _ 2 _ _ _ (omega arith) a.1 in
    let c = passed _ 3 _ _ _ (omega arith) b.1 in
    let d = passed _ 4 _ _ _ (omega arith) c.1 in
    let f = passed _ 5 _ _ _ (omega arith) d.1 in
    let g = passed _ 6 _ _ _ (omega arith) f.1 in
    let z = passed _ 16 _ _ _ (omega arith) g.1 in
    let i = passed _ 7 _ _ _ (omega arith) z.1 in
    let w = not-false (whole_frames words) d.0 in
    record {
      count = within 1 (length ps) 8 a.0;
      pages = λ j l. within 1 (get_or ps j 0) 256 (any_none (pages_wrong ps) (length ps) b.0 j l);
      turns = within 1 q 10000 c.0;
      whole = eqb-true (words % 1024) 0 (and_left (eqb (words % 1024) 0) (between 1 (words / 1024) 1024) w);
      size = within 1 (words / 1024) 1024 (ap not (and_right (eqb (words % 1024) 0) (between 1 (words / 1024) 1024) w));
      long = eqb-true (length fr) (sum ps) (not-false _ f.0);
      inside = λ k l. leb-false (words / 1024) (get_or fr k 0) (any_none (frame_outside fr words) (length fr) g.0 k l);
      kept = λ k l. eqb-false (get_or fr k 0) 0 (any_none (frame_kept fr) (length fr) z.0 k l);
      once = λ j k l m r. by_order j k (λ t. absurd (never_earlier fr i.0 j k t m r)) (λ z. z) (λ t. absurd (never_earlier fr i.0 k j t l (sym r)));
    }

-- a run that is done
pub record RunDone (w : World) (k : ℕ) : Type 0 where
  pub whole : damaged w.house ≡ false
  pub size : length w.memory ≡ w.house.words
  pub most : k ≤ 1000000
  pub busy : (k ≡ 0 → ⊥) → w.house.left ≡ 0 → ⊥

some_busy : (k l : ℕ) → (not (eqb k 0) && eqb l 0) ≡ false → (k ≡ 0 → ⊥) → l ≡ 0 → ⊥
some_busy k l e n z = eqb-false l 0 (simp (ne_eqb k 0 n) at e) z

pub run_done : (w : World) (k : ℕ) → (run_verdict w k).number ≡ 0 → RunDone w k
unfolding run_verdict
run_done w k e =
    let a = passed _ 8 _ _ _ (omega arith) e in
    let b = passed _ 9 _ _ _ (omega arith) a.1 in
    let c = passed _ 14 _ _ _ (omega arith) b.1 in
    let d = passed _ 11 _ _ _ (omega arith) c.1 in
    record {
      whole = a.0;
      size = eqb-true (length w.memory) w.house.words (not-false _ b.0);
      most = ltb-false 1000000 k c.0;
      busy = some_busy k w.house.left d.0;
    }

-- a start, stop or empty that is done
pub record OneDone (h : House) (i : ℕ) : Type 0 where
  pub whole : damaged h ≡ false
  pub there : i < h.count

pub one_done : (h : House) (i : ℕ) → (one_verdict h i).number ≡ 0 → OneDone h i
unfolding one_verdict
one_done h i e =
    let a = passed _ 8 _ _ _ (omega arith) e in
    let b = passed _ 10 _ _ _ (omega arith) a.1 in
    record { whole = a.0; there = leb-false h.count i b.0 }

-- a read-out that is done
pub record ReadDone (w : World) (i a count : ℕ) (out : List ℕ) : Type 0 where
  pub whole : damaged w.house ≡ false
  pub size : length w.memory ≡ w.house.words
  pub there : i < w.house.count
  pub aligned : a % 4 ≡ 0
  pub within : a + 4 * count ≤ 4096 * pages_of w.house i
  pub room : count ≤ length out

pub not_beyond : (pages a count : ℕ) → beyond_of pages a count ≡ false → (a % 4 ≡ 0) × (a + 4 * count ≤ 4096 * pages)
not_beyond pages a count e =
    let A = not (eqb (a % 4) 0) in
    let B = ltb (4096 * pages) (a + 4 * count) in
    (is_zero (a % 4) (or_left A B e), ltb-false (4096 * pages) (a + 4 * count) (or_right A B e))

pub read_done : (w : World) (i a count : ℕ) (out : List ℕ) → (read_verdict w i a count out).number ≡ 0 → ReadDone w i a count out
unfolding read_verdict
read_done w i a count out e =
    let b = passed _ 8 _ _ _ (omega arith) e in
    let c = passed _ 9 _ _ _ (omega arith) b.1 in
    let d = passed _ 10 _ _ _ (omega arith) c.1 in
    let f = passed _ 12 _ _ _ (omega arith) d.1 in
    let g = passed _ 13 _ _ _ (omega arith) f.1 in
    let p = not_beyond (pages_of w.house i) a count f.0 in
    record {
      whole = b.0;
      size = eqb-true (length w.memory) w.house.words (not-false _ c.0);
      there = leb-false w.house.count i d.0;
      aligned = p.0;
      within = p.1;
      room = ltb-false (length out) count g.0;
    }
