-- Laws of searches with a bound.
use mathlib.Core.Path.{◌≡◌, refl, sym, subst, ◌∙◌}
use mathlib.Core.Bool.{Bool, true, false, ◌&&◌, ◌||◌, or-true, and-false}
use Prim.Native.Nat.{ℕ, zero, suc, ◌+◌, ◌<◌}
use native.Mathlib.Numerals.{add-one}
use native.Mathlib.Omega.{arith}
use borrow.Author.Tests.{eqb-true, eqb-false, ltb-true, ltb-false}
use lib.Dec.{eqb, ltb}
use Rattle.dlx.proofs.Tests.{by_test}
use Rattle.house.specs.Lists.{all, any}

-- ---- Bools

pub or_left : (a b : Bool) → (a || b) ≡ false → a ≡ false
or_left true b e = e
or_left false b e = refl

pub or_right : (a b : Bool) → (a || b) ≡ false → b ≡ false
or_right true b e = cc
or_right false b e = e

pub or_none : {a b : Bool} → a ≡ false → b ≡ false → (a || b) ≡ false
or_none e f = rw (e, f)

pub and_right : (a b : Bool) → (a && b) ≡ true → b ≡ true
and_right true b e = e
and_right false b e = cc

-- a test cannot come out both ways
pub one_way : {P : Type 0} (b : Bool) → b ≡ true → b ≡ false → P
one_way b e f = absurd (let z : ◌≡◌ {A = Bool} true false = sym e ∙ f in let y : ◌≡◌ {A = ℕ} 0 1 = cc in omega arith)

-- two numbers in order
pub by_order : {P : Type 0} (a b : ℕ) → (a < b → P) → (a ≡ b → P) → (b < a → P) → P
by_order a b f g h =
    by_test (ltb a b)
    (λ t. f (ltb-true a b t))
    (λ t. by_test (ltb b a)
    (λ u. h (ltb-true b a u))
    (λ u. let x = ltb-false a b t in let y = ltb-false b a u in g (omega arith)))

-- two tests are one where each gives the other
pub same_test : (a b : Bool) → (a ≡ true → b ≡ true) → (b ≡ true → a ≡ true) → a ≡ b
same_test true b f g = sym (f refl)
same_test false true f g = g refl
same_test false false f g = refl

-- ---- all and any

module _ (p : ℕ → Bool) where
  -- one turn more, and the way out, of a loop that tests p
  pub all_more : (n : ℕ) → all p n ≡ true → p n ≡ true → all p (n + 1) ≡ true
  unfolding all
  all_more n e f = rw (add-one, f) e

  pub all_no : (n i : ℕ) → i < n → p i ≡ false → all p n ≡ false
  unfolding all
  all_no zero i l f = absurd (omega arith)
  all_no (suc n) i l f =
      by_test (eqb i n)
      (λ e. rw (subst (λ (x : ℕ). p x ≡ false) (eqb-true i n e) f))
      (λ e. rw (all_no n i (omega (arith, eqb-false i n e)) f) (and-false (p n)))

  -- what it says of each
  pub all_at : (n : ℕ) → all p n ≡ true → (k : ℕ) → k < n → p k ≡ true
  all_at n e k l = by_test (p k) (λ q. q) (λ q. one_way (all p n) e (all_no n k l q))

  pub all_from : (n : ℕ) → ((k : ℕ) → k < n → p k ≡ true) → all p n ≡ true
  unfolding all
  all_from zero h = refl
  all_from (suc n) h = rw (h n (omega arith)) (all_from n (λ k l. h k (omega arith)))

  pub any_more : (n : ℕ) → any p n ≡ false → p n ≡ false → any p (n + 1) ≡ false
  unfolding any
  any_more n e f = rw (add-one, f) e

  pub any_yes : (n i : ℕ) → i < n → p i ≡ true → any p n ≡ true
  unfolding any
  any_yes zero i l f = absurd (omega arith)
  any_yes (suc n) i l f =
      by_test (eqb i n)
      (λ e. rw (subst (λ (x : ℕ). p x ≡ true) (eqb-true i n e) f))
      (λ e. rw (any_yes n i (omega (arith, eqb-false i n e)) f) (or-true (p n)))

  -- where one is found, and that none is
  pub any_at : (n : ℕ) → any p n ≡ true → (k : ℕ) × (k < n) × (p k ≡ true)
  unfolding any
  any_at zero e = let z : ◌≡◌ {A = ℕ} 0 1 = cc in absurd (omega arith)
  any_at (suc n) e =
      by_test (p n)
      (λ q. (n, omega arith, q))
      (λ q. let r = any_at n (rw q at e) in (r.0, omega (arith, r.1), r.2))

  pub any_none : (n : ℕ) → any p n ≡ false → (k : ℕ) → k < n → p k ≡ false
  any_none n e k l = by_test (p k) (λ q. one_way (any p n) (any_yes n k l q) e) (λ q. q)

  pub any_from : (n : ℕ) → ((k : ℕ) → k < n → p k ≡ false) → any p n ≡ false
  unfolding any
  any_from zero h = refl
  any_from (suc n) h = rw (h n (omega arith)) (any_from n (λ k l. h k (omega arith)))

-- two tests that agree below n
pub any_same : (p q : ℕ → Bool) (n : ℕ) → ((k : ℕ) → k < n → p k ≡ q k) → any p n ≡ any q n
unfolding any
any_same p q zero h = refl
any_same p q (suc n) h = rw (h n (omega arith), any_same p q n (λ k l. h k (omega arith)))

pub all_same : (p q : ℕ → Bool) (n : ℕ) → ((k : ℕ) → k < n → p k ≡ q k) → all p n ≡ all q n
unfolding all
all_same p q zero h = refl
all_same p q (suc n) h = rw (h n (omega arith), all_same p q n (λ k l. h k (omega arith)))
