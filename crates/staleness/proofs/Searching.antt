-- The first of a search, and the first stale entry of a house.
use mathlib.Core.Path.{◌≡◌, ap, ◌∙◌}
use mathlib.Core.Bool.{Bool, true, false, true≢false, false≢true}
use Prim.Native.Nat.{ℕ, zero, suc, ◌+◌, ◌*◌, ◌<◌, ◌≤◌}
use native.Mathlib.Omega.{arith}
use borrow.Author.Tests.{lt-ltb, le-ltb, ltb-true, ltb-false}
use lib.Dec.{ltb}
use lib.ListN.{take, drop, length-take, get_or-eq_default}
use Rattle.dlx.specs.Parts.{inner}
use Rattle.dlx.proofs.Kept.{either}
use Rattle.dlx.proofs.Tests.{by_test, by_eq}
use Rattle.addresses.specs.Walk.{entries}
use Rattle.addresses.specs.Memory.{stale}
use Rattle.addresses.proofs.Stale.{empty_not_stale}
use Rattle.house.specs.Lists.{any, first_from}
use Rattle.house.specs.House.{partition, frames_of}
use Rattle.house.specs.Turns.{World, stale_at}
use Rattle.house.proofs.Lists.Bounded.{one_way}
use Rattle.house.proofs.Lists.ByRule.{first_is, first_none}
use Rattle.staleness.specs.Audit.{finding, first_page, has_stale, first_stale}
use Rattle.staleness.specs.Promises.{NamesFirst}

-- ---- the first of which p holds

module _ (p : ℕ → Bool) where
  holds_from : (k n : ℕ) → first_from p k n < k + n → p (first_from p k n) ≡ true
  unfolding first_from
  holds_from k zero = λ l. absurd (omega arith)
  holds_from k (suc n) = either (λ x. x < k + suc n → p x ≡ true) (p k) (λ e _. e) (λ _ l. holds_from (suc k) n (omega arith))

  fails_from : (k n j : ℕ) → k ≤ j → j < first_from p k n → p j ≡ false
  unfolding first_from
  fails_from k zero j l = λ b. absurd (omega arith)
  fails_from k (suc n) j l =
      either (λ x. j < x → p j ≡ false) (p k)
      (λ _ b. absurd (omega arith))
      (λ e b. by_eq j k (λ q. rw q e) (λ d. fails_from (suc k) n j (omega arith) b))

  -- it holds of the first, and of none before
  pub first_holds : (n : ℕ) → first_from p 0 n < n → p (first_from p 0 n) ≡ true
  first_holds n l = holds_from 0 n (omega arith)

  pub first_before : (n j : ℕ) → j < first_from p 0 n → p j ≡ false
  first_before n j l = fails_from 0 n j (omega arith) l

-- ---- the two ways out of the search for the first stale entry

module _ (w : World) where
  pub first_found : (i : ℕ) → any (has_stale w) i ≡ false → i < w.house.count → first_page w i < entries → first_stale w ≡ finding 0 true i (first_page w i)
  unfolding first_stale
  first_found i e l p = rw (first_is (has_stale w) w.house.count i e l (lt-ltb (first_page w i) entries p), lt-ltb i w.house.count l)

  pub none_found : any (has_stale w) w.house.count ≡ false → first_stale w ≡ finding 0 false 0 0
  unfolding first_stale
  none_found e = rw (first_none (has_stale w) w.house.count e, le-ltb w.house.count w.house.count (omega arith))

-- ---- what the first stale entry tells

-- outside the shadow nothing is stale
outside_right : (w : World) (i px : ℕ) → entries ≤ px → stale_at w i px ≡ false
unfolding inner
outside_right w i px l =
    let p = partition w.house i in
    let sh = take entries (drop (i * entries) w.house.shadows) in
    ap (λ (e : ℕ). stale (frames_of w.house i) p.pages p.table w.memory px e) (get_or-eq_default sh 0 {n = px} (omega (arith, length-take entries (drop (i * entries) w.house.shadows))))
    ∙ empty_not_stale (frames_of w.house i) p.pages p.table w.memory px

pub all_right : (w : World) (i : ℕ) → ((px : ℕ) → px < entries → stale_at w i px ≡ false) → (px : ℕ) → stale_at w i px ≡ false
all_right w i h px = by_test (ltb px entries) (λ t. h px (ltb-true px entries t)) (λ t. outside_right w i px (ltb-false px entries t))

module _ (w : World) where
  -- a partition that has a stale entry, and one that has none
  has_one : (i : ℕ) → has_stale w i ≡ true → (first_page w i < entries) × (stale_at w i (first_page w i) ≡ true)
  has_one i e = let l = ltb-true (first_page w i) entries e in (l, first_holds (stale_at w i) entries l)

  has_none : (i : ℕ) → has_stale w i ≡ false → (px : ℕ) → stale_at w i px ≡ false
  has_none i e = all_right w i (λ px l. first_before (stale_at w i) entries px (let m = ltb-false (first_page w i) entries e in omega arith))

  abbrev who : ℕ
  who = first_from (has_stale w) 0 w.house.count

  pub names_first : NamesFirst w (first_stale w)
  unfolding first_stale
  names_first =
      by_test (ltb who w.house.count)
      (λ t.
      let l = ltb-true who w.house.count t in
      let h = has_one who (first_holds (has_stale w) w.house.count l) in
      rw t (record {
        named = λ _. (l, h.0, h.1);
        before = λ _ i px b. has_none i (first_before (has_stale w) w.house.count i b) px;
        below = λ _ px b. first_before (stale_at w who) entries px b;
        none = λ e. absurd (true≢false e);
      }))
      (λ t. rw t (record {
        named = λ e. absurd (false≢true e);
        before = λ e. absurd (false≢true e);
        below = λ e. absurd (false≢true e);
        none = λ _ i px b. has_none i (first_before (has_stale w) w.house.count i (let m = ltb-false who w.house.count t in omega arith)) px;
      }))

  pub none_named : ((i px : ℕ) → i < w.house.count → stale_at w i px ≡ false) → first_stale w ≡ finding 0 false 0 0
  unfolding first_stale
  none_named h =
      by_test (ltb who w.house.count)
      (λ t.
      let l = ltb-true who w.house.count t in
      let o = has_one who (first_holds (has_stale w) w.house.count l) in
      one_way (stale_at w who (first_page w who)) o.1 (h who (first_page w who) l))
      (λ t. rw t)
