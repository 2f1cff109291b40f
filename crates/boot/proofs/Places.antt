-- Laws of boot's loops: what each turn adds, and that all turns together make the house's lists.
use mathlib.Core.Path.{◌≡◌, refl, sym, ap, subst, ◌∙◌}
use mathlib.Core.Bool.{Bool, not, true, false}
use mathlib.Core.List.{List, [], ◌∷◌, ◌++◌}
use Prim.Native.Nat.{ℕ, zero, suc, ◌+◌, ◌-◌, ◌*◌, ◌/◌, ◌%◌, ◌<◌, ◌≤◌}
use native.Mathlib.Omega.{arith}
use borrow.Author.Tests.{lt-ltb, le-ltb, ltb-true, ltb-false, leb-true, leb-false}
use lib.Dec.{ltb, leb, eqb}
use lib.ListN.{length, get_or, set, take, drop, replicate, get_or-eq_default}
use lib.Seq.{ext_get_or}
use borrow.Rule.Slice.PartMut.{put_mid}
use Rattle.std.specs.Prelude.{Option, None, Some, MatchOption}
use Rattle.std.specs.Option.{unwrap_or}
use Rattle.std.specs.List.{position, position_or_len}
use Rattle.std.specs.List as std
use Rattle.std.proofs.lemmas.List.Sums.{sum_by-cons, prefix_len-le-length}
use Rattle.std.proofs.lemmas.List.{length-take-le, length-append, length-drop, get_or-take, get_or-drop, get_or-append_right, get_or_append_left}
use Rattle.dlx.specs.Choice.{when◌then◌else◌}
use Rattle.dlx.proofs.Tests.{by_test}
use Rattle.house.specs.Lists.{list_from, any, first_from, between}
use Rattle.house.specs.Damage.{whole_frames}
use Rattle.house.specs.Boot.{sum, offset, laid, pages_wrong, frame_outside, boot_verdict}
use Rattle.house.proofs.Lists.Bounded.{any_none, and_right}
use Rattle.house.proofs.Damage.Conditions.{within}
use Rattle.house.proofs.Boot.Offsets.{offset_in, laid_page, laid_behind}
use Rattle.house.proofs.Calls.Verdicts.{boot_done}
use Rattle.house.proofs.Lists.ByRule.{first_none, any_missed, length_list_from, list_from_at, list_from_same, list_from_replicate, set_list_from}
use Rattle.boot.specs.Places.{filled, Few, Fitting}

-- ---- a list filled from the front

module _ {A : Type 0} (f : ℕ → A) (d : A) (n : ℕ) where
  pub filled_none : replicate n d ≡ filled f d n 0
  filled_none =
      sym (list_from_replicate d 0 n)
      ∙ list_from_same (λ _. d) (λ j. when ltb j 0 then f j else d) 0 n (λ j _. rw (le-ltb j 0 (omega arith)))

  pub filled_more : (i : ℕ) → i < n → set (filled f d n i) i (f i) ≡ filled f d n (i + 1)
  filled_more i l =
      let q : (when ltb i (i + 1) then f i else d) ≡ f i = rw (lt-ltb i (i + 1) (omega arith)) in
      subst (λ (v : A). set (filled f d n i) i v ≡ filled f d n (i + 1)) q
      (set_list_from (λ j. when ltb j i then f j else d) (λ j. when ltb j (i + 1) then f j else d) n i
      (λ j e. by_test (ltb j i)
      (λ t. rw (t, lt-ltb j (i + 1) (omega (arith, ltb-true j i t))))
      (λ t. rw (t, le-ltb j (i + 1) (omega (arith, ltb-false j i t)))))
      l)

  filled_at : (i j : ℕ) → j < n → get_or (filled f d n i) j d ≡ (when ltb j i then f j else d)
  filled_at i j l = list_from_at (λ x. when ltb x i then f x else d) d n j l

  -- a part of them at once
  pub filled_part : (i k : ℕ) (ys : List A) → i + k ≤ n → length ys ≡ k → ((j : ℕ) → j < k → get_or ys j d ≡ f (i + j)) → put_mid i k (filled f d n i) ys ≡ filled f d n (i + k)
  filled_part i k ys l e h =
      let a = filled f d n i in
      let r = drop k (drop i a) in
      let la : length a ≡ n = length_list_from (λ j. when ltb j i then f j else d) 0 n in
      let lz : length (filled f d n (i + k)) ≡ n = length_list_from (λ j. when ltb j (i + k) then f j else d) 0 n in
      let lt : length (take i a) ≡ i = length-take-le i a (omega arith) in
      let long : length (put_mid i k a ys) ≡ n =
      omega (arith, length-append (take i a) (ys ++ r), length-append ys r, length-drop k (drop i a), length-drop i a) in
      ext_get_or d (put_mid i k a ys) (filled f d n (i + k)) (long ∙ sym lz) λ j b.
      let m : j < n = omega arith in
      by_test (ltb j i)
      (λ t.
      let low = ltb-true j i t in
      let same : (when ltb j i then f j else d) ≡ (when ltb j (i + k) then f j else d) = rw (t, lt-ltb j (i + k) (omega arith)) in
      get_or_append_left (take i a) (ys ++ r) d j (omega arith) ∙ get_or-take i a j d low ∙ filled_at i j m ∙ same ∙ sym (filled_at (i + k) j m))
      (λ t.
      let from = ltb-false j i t in
      let past = get_or-append_right (take i a) (ys ++ r) i j d lt from in
      by_test (ltb j (i + k))
      (λ u.
      let low = ltb-true j (i + k) u in
      let at : i + (j - i) ≡ j = omega arith in
      let same : f j ≡ (when ltb j (i + k) then f j else d) = rw u in
      past ∙ get_or_append_left ys r d (j - i) (omega arith) ∙ h (j - i) (omega arith) ∙ ap f at ∙ same ∙ sym (filled_at (i + k) j m))
      (λ u.
      let high = ltb-false j (i + k) u in
      let at : i + (k + (j - i - k)) ≡ j = omega arith in
      let same : (when ltb j i then f j else d) ≡ (when ltb j (i + k) then f j else d) = rw (t, u) in
      past ∙ get_or-append_right ys r k (j - i) d e (omega arith) ∙ get_or-drop k (drop i a) (j - i - k) d ∙ get_or-drop i a (k + (j - i - k)) d
      ∙ ap (λ (x : ℕ). get_or a x d) at ∙ filled_at i j m ∙ same ∙ sym (filled_at (i + k) j m)))

  -- places that the rule gives d need no turn
  pub filled_rest : (i k : ℕ) → i ≤ k → ((j : ℕ) → i ≤ j → j < k → f j ≡ d) → filled f d n i ≡ filled f d n k
  filled_rest i k l h =
      list_from_same (λ j. when ltb j i then f j else d) (λ j. when ltb j k then f j else d) 0 n λ j _.
      by_test (ltb j i)
      (λ t. rw (t, lt-ltb j k (omega (arith, ltb-true j i t))))
      (λ t. by_test (ltb j k)
      (λ u. rw (t, u) (sym (h j (ltb-false j i t) (ltb-true j k u))))
      (λ u. rw (t, u)))

  pub filled_whole : (i : ℕ) → ((j : ℕ) → i ≤ j → f j ≡ d) → filled f d n i ≡ list_from f 0 n
  filled_whole i h =
      list_from_same (λ j. when ltb j i then f j else d) f 0 n λ j _.
      by_test (ltb j i)
      (λ t. rw t)
      (λ t. rw t (sym (h j (ltb-false j i t))))

pub filled_flags : (n i : ℕ) → filled (λ _. true) false n i ≡ list_from (λ j. ltb j i) 0 n
filled_flags n i =
    list_from_same (λ j. when ltb j i then true else false) (λ j. ltb j i) 0 n λ j _. by_test (ltb j i) (λ t. rw t) (λ t. rw t)

-- ---- one partition's frames laid at their place

pub laid_more : (ps fr : List ℕ) (i from n m : ℕ) (places part : List ℕ) → Fitting ps fr → i < length ps → from ≡ offset ps i → n ≡ get_or ps i 0 → m ≡ n
    → places ≡ filled (laid ps fr) 0 2048 (i * 256) → part ≡ take m (drop from fr) → put_mid (i * 256) m places part ≡ filled (laid ps fr) 0 2048 ((i + 1) * 256)
laid_more ps fr i from n m places part g l v p q e y =
    let few = g.few.count in
    let most : get_or ps i 0 ≤ 256 = g.few.pages i in
    let in_list : m ≤ length (drop from fr) = omega (arith, length-drop from fr, g.long, offset_in ps i) in
    ap (λ (x : List ℕ). put_mid (i * 256) m x part) e
    ∙ filled_part (laid ps fr) 0 2048 (i * 256) m part (omega arith) (ap length y ∙ length-take-le m (drop from fr) in_list)
    (λ j b.
    ap (λ (x : List ℕ). get_or x j 0) y
    ∙ get_or-take m (drop from fr) j 0 b
    ∙ get_or-drop from fr j 0
    ∙ ap (λ (x : ℕ). get_or fr (x + j) 0) v
    ∙ sym (laid_page ps fr i j (omega arith) most))
    ∙ filled_rest (laid ps fr) 0 2048 (i * 256 + m) ((i + 1) * 256) (omega arith) (λ j a b. laid_behind ps fr i j (omega arith) b)

-- ---- what std's chains give, in the house's words

first_rest : (p : ℕ → Bool) (k n : ℕ) → first_from p (suc k) n ≡ suc (first_from (λ j. p (suc j)) k n)
unfolding first_from
first_rest p k zero = refl
first_rest p k (suc n) = by_test (p (suc k)) (λ e. rw e) (λ e. rw (e, first_rest p (suc k) n))

first_len : (q : ℕ → Bool) (xs : List ℕ) → position_or_len q xs ≡ first_from (λ i. q (get_or xs i 0)) 0 (length xs)
unfolding first_from
first_len q [] = refl
first_len q (x ∷ xs) =
    by_test (q x)
    (λ e. rw e)
    (λ e. rw (e, first_len q xs) (omega (arith, first_rest (λ i. q (get_or (x ∷ xs) i 0)) 0 (length xs))))

-- the first position, or how many there are
pub first_position : (q : ℕ → Bool) (xs : List ℕ) → unwrap_or (position q xs) (length xs) ≡ first_from (λ i. q (get_or xs i 0)) 0 (length xs)
first_position q xs =
    let most = prefix_len-le-length (λ x. not (q x)) xs in
    by_test (ltb (position_or_len q xs) (length xs))
    (λ e. rw e (first_len q xs))
    (λ e. let z : length xs ≡ position_or_len q xs = omega (arith, ltb-false (position_or_len q xs) (length xs) e, most) in rw e (z ∙ first_len q xs))

pub first_or : (p : ℕ → Bool) (n : ℕ) (r : Option ℕ) → MatchOption r (any p n ≡ false) (λ at. (any p n ≡ true) × (at ≡ first_from p 0 n)) → unwrap_or r n ≡ first_from p 0 n
first_or p n None h = sym (first_none p n h)
first_or p n (Some at) h = h.1

pub sum_is : (ns : List ℕ) → std.sum ns ≡ sum ns
unfolding sum
sum_is [] = refl
sum_is (n ∷ ns) = sum_by-cons (λ x. x) n ns ∙ ap (λ (x : ℕ). n + x) (sum_is ns)

-- ---- what a boot has that nothing refuses

few_of : (ps : List ℕ) → length ps ≤ 8 → ((i : ℕ) → i < length ps → get_or ps i 0 ≤ 256) → Few ps
few_of ps l h = record {
  count = l;
  pages = λ i. by_test (ltb i (length ps))
      (λ t. h i (ltb-true i (length ps) t))
      (λ t. omega (arith, get_or-eq_default ps 0 {n = i} (ltb-false i (length ps) t)));
}

pub few : (ps : List ℕ) → length ps ≤ 8 → any (pages_wrong ps) (length ps) ≡ false → Few ps
few ps l e = few_of ps l (λ i t. (within 1 (get_or ps i 0) 256 (any_none (pages_wrong ps) (length ps) e i t)).1)

-- where no position is outside the memory, each frame has a mark
pub below : (fr : List ℕ) (words r : ℕ) → whole_frames words ≡ true → r ≡ first_from (frame_outside fr words) 0 (length fr) → length fr ≤ r → (k : ℕ) → k < length fr → get_or fr k 0 < 1024
below fr words r w e l k m =
    let size = words / 1024 in
    let small : size ≤ 1024 = leb-true size 1024 (and_right (leb 1 size) (leb size 1024) (and_right (eqb (words % 1024) 0) (between 1 size 1024) w)) in
    let less : get_or fr k 0 < size = leb-false size (get_or fr k 0) (any_none (frame_outside fr words) (length fr) (any_missed (frame_outside fr words) (length fr) r e l) k m) in
    omega (arith, small, less)

pub fitting : (ps : List ℕ) (q : ℕ) (fr : List ℕ) (words : ℕ) → (boot_verdict ps q fr words).number ≡ 0 → Fitting ps fr × (words ≤ 1048576)
fitting ps q fr words e =
    let b = boot_done ps q fr words e in
    (record { few = few_of ps b.count.1 (λ i l. (b.pages i l).1); long = b.long }, omega (arith, b.whole, b.size.1))
