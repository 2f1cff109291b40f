-- Laws of the marks: what a frame's mark says of the list, and that a look at it is the definition's search.
use mathlib.Core.Path.{◌≡◌, refl, sym, ap, ◌∙◌}
use mathlib.Core.Bool.{Bool, true, false, ◌||◌}
use mathlib.Core.List.{List}
use Prim.Native.Nat.{ℕ, zero, suc, ◌+◌, ◌<◌}
use native.Mathlib.Numerals.{add-one}
use native.Mathlib.Omega.{arith}
use borrow.Author.Tests.{eq-eqb, ne_eqb}
use lib.ListN.{length, get_or, set, replicate, length-set}
use lib.Seq.{get_or-set_same, get_or-set_other}
use Rattle.dlx.specs.Choice.{when◌then◌else◌}
use Rattle.dlx.proofs.Tests.{by_test, by_eq}
use Rattle.house.specs.Lists.{any, first_from}
use Rattle.house.specs.Damage.{stands}
use Rattle.house.specs.Boot.{stood_earlier}
use Rattle.marks.specs.Marked.{marked, twice_marked}

module _ (fr : List ℕ) (tag : ℕ) (o : List ℕ) where
  pub marked_length : (k : ℕ) → length (marked fr tag o k) ≡ length o
  unfolding marked
  marked_length zero = refl
  marked_length (suc k) = length-set (marked fr tag o k) (get_or fr k 0) tag ∙ marked_length k

  -- one frame more
  pub marked_more : (o' : List ℕ) (k f : ℕ) → o' ≡ marked fr tag o k → f ≡ get_or fr k 0 → set o' f tag ≡ marked fr tag o (k + 1)
  unfolding marked
  marked_more o' k f m e = rw (m, e, add-one)

  -- a frame's mark is the tag where the frame is among the marked ones, else as it was
  pub marked_at : (k f : ℕ) → f < length o → get_or (marked fr tag o k) f 0 ≡ (when stands fr k f then tag else get_or o f 0)
  unfolding marked any
  marked_at zero f l = refl
  marked_at (suc k) f l =
      by_eq f (get_or fr k 0)
      (λ q. rw (eq-eqb (get_or fr k 0) f (sym q))
      (ap (λ (x : ℕ). get_or (set (marked fr tag o k) (get_or fr k 0) tag) x 0) q
      ∙ get_or-set_same (marked fr tag o k) (get_or fr k 0) tag 0 (omega (arith, marked_length k))))
      (λ q. rw (ne_eqb (get_or fr k 0) f (λ e. q (sym e)))
      (get_or-set_other (marked fr tag o k) (get_or fr k 0) f tag 0 q ∙ marked_at k f l))

  module _ (k : ℕ) (l : get_or fr k 0 < length o) where
    -- a mark at the k-th frame: it stands before, or had an owner
    pub mark_found : (get_or (marked fr tag o k) (get_or fr k 0) 0 ≡ 0 → ⊥) → twice_marked o fr k ≡ true
    mark_found h =
        by_test (stands fr k (get_or fr k 0))
        (λ e. rw e)
        (λ e. rw (e, ne_eqb (get_or o (get_or fr k 0) 0) 0 (λ z. h (marked_at k (get_or fr k 0) l ∙ rw e z))))

    pub mark_free : 0 < tag → get_or (marked fr tag o k) (get_or fr k 0) 0 ≡ 0 → twice_marked o fr k ≡ false
    mark_free t h =
        by_test (stands fr k (get_or fr k 0))
        (λ e. absurd (let z : tag ≡ 0 = rw e at (sym (marked_at k (get_or fr k 0) l) ∙ h) in omega arith))
        (λ e. let z : get_or o (get_or fr k 0) 0 ≡ 0 = rw e at (sym (marked_at k (get_or fr k 0) l) ∙ h) in
        rw (e, eq-eqb _ _ z))

-- ---- where no frame has an owner yet, the first with a mark is the first that stood earlier

zeros_at : (n f : ℕ) → get_or (replicate {A = ℕ} n 0) f 0 ≡ 0
zeros_at zero f = refl
zeros_at (suc n) zero = refl
zeros_at (suc n) (suc f) = zeros_at n f

or_false : (b : Bool) → (b || false) ≡ b
or_false true = refl
or_false false = refl

first_same : (p q : ℕ → Bool) (k n : ℕ) → ((i : ℕ) → p i ≡ q i) → first_from p k n ≡ first_from q k n
unfolding first_from
first_same p q k zero h = refl
first_same p q k (suc n) h = rw (h k, first_same p q (suc k) n h)

pub first_unowned : (fr : List ℕ) (n m : ℕ) → first_from (twice_marked (replicate n 0) fr) 0 m ≡ first_from (stood_earlier fr) 0 m
first_unowned fr n m =
    first_same (twice_marked (replicate n 0) fr) (stood_earlier fr) 0 m
    (λ k. rw (zeros_at n (get_or fr k 0)) (or_false (stood_earlier fr k)))
