-- What mending leaves as it was, and what it makes of each entry.
use mathlib.Core.Path.{◌≡◌, refl, sym, ap, subst, ◌∙◌}
use mathlib.Core.Bool.{false}
use mathlib.Core.List.{List, ◌++◌}
use Prim.Native.Nat.{ℕ, zero, suc, ◌+◌, ◌*◌, ◌^◌, ◌<◌, ◌≤◌}
use native.Mathlib.Omega.{arith}
use lib.ListN.{length, get_or, take, drop, take-append-drop}
use Rattle.dlx.specs.Parts.{inner, outer}
use Rattle.dlx.proofs.Kept.{either}
use Rattle.dlx.proofs.Parts.{inner_length, outer_length, inner_outer, outer_each, part_each, parts_apart}
use Rattle.dlx.proofs.Tests.{by_test, by_eq}
use Rattle.addresses.specs.Walk.{entries}
use Rattle.addresses.specs.Memory.{stale}
use Rattle.addresses.specs.Premises.{Placed}
use Rattle.addresses.proofs.Stale.{empty_not_stale}
use Rattle.house.specs.Lists.{list_from}
use Rattle.house.specs.House.{all_entries, partition, pages_of, frames_of, shadow_of, turn, with_shadows}
use Rattle.house.specs.Turns.{World, world, stale_at}
use Rattle.house.specs.Sound.{Proper, Undamaged, Typed, Stays}
use Rattle.house.specs.declared.House.{House}
use Rattle.house.proofs.Lists.ByRule.{length_list_from, list_from_at, list_from_same}
use Rattle.house.proofs.Damage.Conditions.{empty_proper}
use Rattle.house.proofs.Damage.Undamaged.{undamaged_gives}
use Rattle.house.proofs.Damage.Changed.{ShadowsRight, same_flags, changed_stays}
use Rattle.staleness.specs.Audit.{kept_at, kept_in, mended_one, mended_to, mended}
use Rattle.staleness.proofs.Searching.{all_right}
use Rattle.staleness.proofs.SoFar.{list_from_self, list_from_each}
use Rattle.staleness.proofs.Verdicts.{AuditDone}

-- ---- all but the shadows

pub mended_rest : (n : ℕ) (w : World) → mended_to n w ≡ world (with_shadows w.house (mended_to n w).house.shadows) w.memory
unfolding mended_to mended_one
mended_rest zero w = refl
mended_rest (suc n) w = ap (λ (x : World). world (with_shadows x.house (mended_to (suc n) w).house.shadows) x.memory) (mended_rest n w)

-- so the next partition's table is walked as before
pub mended_placed : (n i size : ℕ) (w : World) (h : House) (m : List ℕ) → world h m ≡ mended_to n w
    → Placed (frames_of w.house i) (pages_of w.house i) size → Placed (frames_of h i) (pages_of h i) size
mended_placed n i size w h m e p = let q = e ∙ mended_rest n w in rw (ap (λ (x : World). x.house.frames) q, ap (λ (x : World). x.house.parts) q) p

-- ---- each shadow

-- what stays of an entry is the entry or 0
kept_each : (P : ℕ → Type 0) (w : World) (i px : ℕ) → P 0 → P (get_or (shadow_of w.house i) px 0) → P (kept_at w i px)
kept_each P w i px z e = either P (stale_at w i px) (λ _. z) (λ _. e)

module _ (w : World) (long : length w.house.shadows ≡ all_entries) where
  mended_long : (n : ℕ) → n ≤ 8 → length (mended_to n w).house.shadows ≡ all_entries
  unfolding mended_to mended_one
  mended_long zero l = long
  mended_long (suc n) l =
      let s = mended_long n (omega arith) in
      outer_length (mended_to n w).house.shadows (n * entries) entries (omega arith) _ (length_list_from (kept_at (mended_to n w) n) 0 entries) ∙ s

  module _ (n : ℕ) (l : n < 8) where
    room : (i : ℕ) → i < 8 → i * entries + entries ≤ length (mended_to n w).house.shadows
    room i b = omega (arith, mended_long n (omega arith))

    next_own : shadow_of (mended_to (suc n) w).house n ≡ list_from (kept_at (mended_to n w) n) 0 entries
    unfolding mended_to mended_one
    next_own = inner_outer (mended_to n w).house.shadows (n * entries) entries (room n l) _ (length_list_from (kept_at (mended_to n w) n) 0 entries)

    next_other : (i : ℕ) → i < 8 → (i ≡ n → ⊥) → shadow_of (mended_to (suc n) w).house i ≡ shadow_of (mended_to n w).house i
    unfolding mended_to mended_one
    next_other i b d = parts_apart entries (mended_to n w).house.shadows _ n i (room n l) (room i b) (length_list_from (kept_at (mended_to n w) n) 0 entries) d

  -- a partition that is not mended yet, and one that is
  pub mended_later : (n i : ℕ) → n ≤ i → i < 8 → shadow_of (mended_to n w).house i ≡ shadow_of w.house i
  mended_later zero i l b = unfold mended_to in refl
  mended_later (suc n) i l b = next_other n (omega arith) i b (λ e. omega arith) ∙ mended_later n i (omega arith) b

  kept_same : (n : ℕ) → n < 8 → kept_at (mended_to n w) n ≡ kept_at w n
  kept_same n l =
      let p = partition w.house n in
      ap (λ (x : World). kept_at x n) (mended_rest n w)
      ∙ ap (λ (sh : List ℕ). kept_in (frames_of w.house n) p.pages p.table w.memory sh) (mended_later n n (omega arith) l)

  pub mended_own : (n i : ℕ) → i < n → n ≤ 8 → shadow_of (mended_to n w).house i ≡ list_from (kept_at w i) 0 entries
  mended_own zero i l b = absurd (omega arith)
  mended_own (suc n) i l b =
      by_eq i n
      (λ e. rw e (next_own n (omega arith) ∙ ap (λ (f : ℕ → ℕ). list_from f 0 entries) (kept_same n (omega arith))))
      (λ d. next_other n (omega arith) i (omega arith) d ∙ mended_own n i (omega arith) (omega arith))

  pub mended_entry : (n i px : ℕ) → i < n → n ≤ 8 → px < entries → get_or (shadow_of (mended_to n w).house i) px 0 ≡ kept_at w i px
  mended_entry n i px l b m = ap (λ (sh : List ℕ). get_or sh px 0) (mended_own n i l b) ∙ list_from_at (kept_at w i) 0 entries px m

  -- what holds of 0 and of every entry
  pub mended_each : (P : ℕ → Type 0) → P 0 → ((k : ℕ) → P (get_or w.house.shadows k 0)) → (n : ℕ) → n ≤ 8 → (k : ℕ) → P (get_or (mended_to n w).house.shadows k 0)
  unfolding mended_to mended_one
  mended_each P z h zero l k = h k
  mended_each P z h (suc n) l k =
      let g = mended_each P z h n (omega arith) in
      outer_each (mended_to n w).house.shadows (n * entries) entries (room n (omega arith) n (omega arith)) _ (length_list_from (kept_at (mended_to n w) n) 0 entries) P g
      (list_from_each P (kept_at (mended_to n w) n) entries z (λ j. kept_each P (mended_to n w) n j z (part_each P (mended_to n w).house.shadows (n * entries) entries z g j))) k

  -- none of a mended shadow is stale
  pub mended_right : (n i px : ℕ) → i < n → n ≤ 8 → stale_at (mended_to n w) i px ≡ false
  mended_right n i px l b =
      all_right (mended_to n w) i
      (λ px m.
      let p = partition w.house i in
      let fr = frames_of w.house i in
      let f : ℕ → Type 0 = λ (e : ℕ). stale fr p.pages p.table w.memory px e ≡ false in
      subst (λ (x : World). stale (frames_of x.house i) (partition x.house i).pages (partition x.house i).table x.memory px (get_or (shadow_of (mended_to n w).house i) px 0) ≡ false) (sym (mended_rest n w))
      (subst f (sym (mended_entry n i px l b m))
      (by_test (stale_at w i px)
      (λ t. rw t (empty_not_stale fr p.pages p.table w.memory px))
      (λ t. rw t (t))))) px

-- ---- the house stays undamaged

module _ (w : World) (y : Typed w) (d : AuditDone w) where
  abbrev h : House
  h = w.house

  u : Undamaged h
  u = undamaged_gives h d.whole

  abbrev after : List ℕ
  after = (mended_to h.count w).house.shadows

  mended_shadows : ShadowsRight h after
  mended_shadows = record {
    long = mended_long w y.shaped.shadows h.count u.few;
    proper = λ i px l m.
        rw (mended_entry w y.shaped.shadows h.count i px l u.few m)
        (kept_each (Proper (frames_of h i) (pages_of h i)) w i px (empty_proper (frames_of h i) (pages_of h i)) (u.proper i px l m));
    none = λ i k l b m. rw (mended_later w y.shaped.shadows h.count i l b) ((u.unused i l b).shadows k m);
    words = mended_each w y.shaped.shadows (λ x. x < 2 ^ 32) (omega arith) y.shadows h.count u.few;
  }

  pub mended_stays : Stays w (mended w)
  unfolding mended
  mended_stays =
      subst (Stays w) (sym (mended_rest h.count w))
      (changed_stays h w.memory u y _ (turn h.current h.left) after (same_flags h w.memory u y) (record { idle = u.idle; busy = u.busy }) mended_shadows)

-- ---- where nothing is stale nothing changes

module _ (w : World) (long : length w.house.shadows ≡ all_entries) where
  shadow_same : (i : ℕ) → i < 8 → ((px : ℕ) → stale_at w i px ≡ false) → list_from (kept_at w i) 0 entries ≡ shadow_of w.house i
  shadow_same i l h =
      list_from_same (kept_at w i) (λ px. get_or (shadow_of w.house i) px 0) 0 entries (λ px _. rw (h px))
      ∙ list_from_self (shadow_of w.house i) entries (inner_length w.house.shadows (i * entries) entries (omega arith))

  one_same : (i : ℕ) → i < 8 → ((px : ℕ) → stale_at w i px ≡ false) → mended_one w i ≡ w
  unfolding mended_one
  one_same i l h =
      let S = w.house.shadows in
      ap (λ (x : List ℕ). world (with_shadows w.house x) w.memory)
      (ap (λ (x : List ℕ). outer (i * entries) entries S x) (shadow_same i l h)
      ∙ (unfold inner outer in ap (λ (x : List ℕ). take (i * entries) S ++ x) (take-append-drop entries (drop (i * entries) S)) ∙ take-append-drop (i * entries) S))

  pub mended_same : (n : ℕ) → n ≤ 8 → ((i px : ℕ) → i < n → stale_at w i px ≡ false) → mended_to n w ≡ w
  unfolding mended_to
  mended_same zero l h = refl
  mended_same (suc n) l h =
      ap (λ (x : World). mended_one x n) (mended_same n (omega arith) (λ i px b. h i px (omega arith)))
      ∙ one_same n (omega arith) (λ px. h n px (omega arith))
