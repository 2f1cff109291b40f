-- Where each partition's frames begin in boot's list, and what stands at each place of the house's frames.
use mathlib.Core.Path.{◌≡◌, refl, ap, ◌∙◌}
use mathlib.Core.List.{List, [], ◌∷◌}
use Prim.Native.Nat.{ℕ, zero, suc, ◌+◌, ◌*◌, ◌/◌, ◌%◌, ◌<◌, ◌≤◌}
use native.Mathlib.Numerals.{add-one}
use native.Mathlib.Omega.{arith}
use borrow.Author.Tests.{lt-ltb, le-ltb}
use lib.ListN.{length, get_or, get_or-eq_default}
use Rattle.dlx.proofs.Tests.{by_eq}
use Rattle.house.specs.Boot.{sum, offset, laid}

pub offset_more : (ps : List ℕ) (i : ℕ) → offset ps (i + 1) ≡ offset ps i + get_or ps i 0
unfolding offset
offset_more ps i = rw add-one

offset_cons : (n : ℕ) (ns : List ℕ) (i : ℕ) → offset (n ∷ ns) (suc i) ≡ n + offset ns i
unfolding offset
offset_cons n ns zero = omega arith
offset_cons n ns (suc i) = omega (arith, offset_cons n ns i)

pub offset_sum : (ps : List ℕ) → offset ps (length ps) ≡ sum ps
unfolding offset sum
offset_sum [] = refl
offset_sum (n ∷ ns) = offset_cons n ns (length ns) ∙ ap (λ (x : ℕ). n + x) (offset_sum ns)

offset_most : (ps : List ℕ) (i : ℕ) → offset ps i ≤ sum ps
unfolding offset sum
offset_most ps zero = omega arith
offset_most [] (suc i) = omega (arith, offset_most [] i)
offset_most (n ∷ ns) (suc i) = omega (arith, offset_cons n ns i, offset_most ns i)

-- partition i's frames stand in the list
pub offset_in : (ps : List ℕ) (i : ℕ) → offset ps i + get_or ps i 0 ≤ sum ps
offset_in ps i = omega (arith, offset_more ps i, offset_most ps (i + 1))

-- and end where the next one's begin, at the latest
pub offset_below : (ps : List ℕ) (i j : ℕ) → i < j → offset ps i + get_or ps i 0 ≤ offset ps j
unfolding offset
offset_below ps i zero l = absurd (omega arith)
offset_below ps i (suc j) l =
    by_eq i j
    (λ e. rw e (omega arith))
    (λ d. omega (arith, offset_below ps i j (omega arith)))

-- ---- what stands at each place

module _ (ps fr : List ℕ) where
  pub laid_page : (i k : ℕ) → k < get_or ps i 0 → get_or ps i 0 ≤ 256 → laid ps fr (i * 256 + k) ≡ get_or fr (offset ps i + k) 0
  unfolding laid
  laid_page i k l b =
      let a : (i * 256 + k) / 256 ≡ i = omega arith in
      let m : (i * 256 + k) % 256 ≡ k = omega arith in
      rw (a, m, lt-ltb k (get_or ps i 0) l)

  pub laid_behind : (i j : ℕ) → i * 256 + get_or ps i 0 ≤ j → j < (i + 1) * 256 → laid ps fr j ≡ 0
  unfolding laid
  laid_behind i j l b =
      let a : j / 256 ≡ i = omega arith in
      rw (a, le-ltb (j % 256) (get_or ps i 0) (omega arith))

  pub laid_after : (j : ℕ) → length ps * 256 ≤ j → laid ps fr j ≡ 0
  unfolding laid
  laid_after j l =
      rw (get_or-eq_default ps 0 {n = j / 256} (omega arith), le-ltb (j % 256) 0 (omega arith))
