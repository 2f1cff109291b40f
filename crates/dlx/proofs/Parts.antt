-- A part of a list, and the list with another part in its place.
use Prim.Native.Nat.{ℕ, ◌+◌, ◌-◌, ◌*◌, ◌<◌, ◌≤◌}
use mathlib.Core.Path.{◌≡◌, sym, subst, ◌∙◌, ap}
use mathlib.Core.List.{List, ◌++◌}
use native.Mathlib.Nat.{suc-mul, mul-le-mul_right}
use native.Mathlib.Omega.{arith}
use borrow.Author.Tests.{ltb-true, ltb-false}
use lib.ListN.{length, get_or, take, drop, replicate, length-append, length-take, length-drop, length-replicate, get_or-append, get_or-eq_default}
use lib.Seq.{get_or-append-add, get_or-take, get_or-drop, ext_get_or, take_at, drop_at, length-take-le}
use lib.Dec.{ltb}
use Rattle.dlx.proofs.Tests.{by_test, get_or_replicate_same}
use Rattle.dlx.specs.Parts.{inner, outer}

-- an element of a part
pub part_at : (m : List ℕ) (a s i : ℕ) → i < s → get_or (inner a s m) i 0 ≡ get_or m (a + i) 0
unfolding inner
part_at m a s i h = get_or-take s (drop a m) i 0 h ∙ get_or-drop a m i 0

-- what holds of every element, and of 0, holds of a part's
pub part_each : (P : ℕ → Type 0) (m : List ℕ) (a s : ℕ) → P 0 → ((i : ℕ) → P (get_or m i 0)) → (i : ℕ) → P (get_or (inner a s m) i 0)
unfolding inner
part_each P m a s z h i =
    by_test (ltb i s)
    (λ t. rw (part_at m a s i (ltb-true i s t)) (h (a + i)))
    (λ t. rw (get_or-eq_default (take s (drop a m)) 0 {n = i} (omega (arith, length-take s (drop a m), ltb-false i s t))) z)

module _ (m : List ℕ) (a s : ℕ) (fits : a + s ≤ length m) where
  pub inner_length : length (inner a s m) ≡ s
  unfolding inner
  inner_length = length-take-le s (drop a m) (omega (arith, length-drop a m))

  module _ (k : List ℕ) (e : length k ≡ s) where
    pub outer_length : length (outer a s m k) ≡ length m
    unfolding outer
    outer_length =
        length-append (take a m) (k ++ drop s (drop a m))
        ∙ omega (arith, length-append k (drop s (drop a m)), length-drop s (drop a m), length-drop a m, length-take-le a m (omega arith))

    pub inner_outer : inner a s (outer a s m k) ≡ k
    unfolding inner outer
    inner_outer =
        ap (take s) (drop_at (take a m) (k ++ drop s (drop a m)) a (length-take-le a m (omega arith)))
        ∙ take_at k (drop s (drop a m)) s e

    -- what stands before the part, and behind it
    pub outer_low : (i : ℕ) → i < a → get_or (outer a s m k) i 0 ≡ get_or m i 0
    unfolding outer
    outer_low i l =
        get_or-append (take a m) (k ++ drop s (drop a m)) 0 i (omega (arith, length-take-le a m (omega arith)))
        ∙ get_or-take a m i 0 l

    pub outer_high : (i : ℕ) → get_or (outer a s m k) (a + (s + i)) 0 ≡ get_or m (a + (s + i)) 0
    unfolding outer
    outer_high i =
        let t = length-take-le a m (omega arith) in
        ap (λ (x : ℕ). get_or (take a m ++ (k ++ drop s (drop a m))) (x + (s + i)) 0) (sym t)
        ∙ get_or-append-add (take a m) (k ++ drop s (drop a m)) (s + i) 0
        ∙ ap (λ (x : ℕ). get_or (k ++ drop s (drop a m)) (x + i) 0) (sym e)
        ∙ get_or-append-add k (drop s (drop a m)) i 0
        ∙ get_or-drop s (drop a m) i 0
        ∙ get_or-drop a m (s + i) 0

    -- what holds of every element of both lists
    pub outer_each : (P : ℕ → Type 0) → ((i : ℕ) → P (get_or m i 0)) → ((i : ℕ) → P (get_or k i 0)) → (i : ℕ) → P (get_or (outer a s m k) i 0)
    outer_each P f g i =
        by_test (ltb i a)
        (λ t. rw (outer_low i (ltb-true i a t)) (f i))
        (λ t.
        let l = ltb-false i a t in
        by_test (ltb i (a + s))
        (λ u.
        let n = ltb-true i (a + s) u in
        let z : i ≡ a + (i - a) = omega arith in
        rw (ap (λ (x : ℕ). get_or (outer a s m k) x 0) z ∙ sym (part_at (outer a s m k) a s (i - a) (omega arith)) ∙ ap (λ (x : List ℕ). get_or x (i - a) 0) inner_outer) (g (i - a)))
        (λ u.
        let n = ltb-false i (a + s) u in
        let z : i ≡ a + (s + (i - (a + s))) = omega arith in
        rw (ap (λ (x : ℕ). get_or (outer a s m k) x 0) z ∙ outer_high (i - (a + s)) ∙ ap (λ (x : ℕ). get_or m x 0) (sym z)) (f i)))

-- another part is as it was
part_same : (m m' : List ℕ) (b s : ℕ) → b + s ≤ length m → length m' ≡ length m → ((i : ℕ) → i < s → get_or m' (b + i) 0 ≡ get_or m (b + i) 0) → inner b s m' ≡ inner b s m
part_same m m' b s g e f =
    let l = inner_length m' b s (omega arith) in
    ext_get_or 0 _ _ (l ∙ sym (inner_length m b s g)) λ i h.
    let q : i < s = omega arith in
    part_at m' b s i q ∙ f i q ∙ sym (part_at m b s i q)

pub inner_other : (m k : List ℕ) (a b s : ℕ) → a + s ≤ length m → b + s ≤ length m → length k ≡ s → b + s ≤ a → inner b s (outer a s m k) ≡ inner b s m
inner_other m k a b s f g e l = part_same m (outer a s m k) b s g (outer_length m a s f k e) (λ i q. outer_low m a s f k e (b + i) (omega arith))

pub inner_above : (m k : List ℕ) (a b s : ℕ) → a + s ≤ length m → b + s ≤ length m → length k ≡ s → a + s ≤ b → inner b s (outer a s m k) ≡ inner b s m
inner_above m k a b s f g e l =
    part_same m (outer a s m k) b s g (outer_length m a s f k e) λ i q.
    let z : b + i ≡ a + (s + (b + i - (a + s))) = omega arith in
    ap (λ (x : ℕ). get_or (outer a s m k) x 0) z ∙ outer_high m a s f k e (b + i - (a + s)) ∙ ap (λ (x : ℕ). get_or m x 0) (sym z)

-- ---- another partition's part, of s places each

before : (s i j : ℕ) → i < j → i * s + s ≤ j * s
before s i j l = subst (λ (x : ℕ). x ≤ j * s) (suc-mul i s) (mul-le-mul_right s (omega arith))

pub parts_apart : (s : ℕ) (m k : List ℕ) (i j : ℕ) → i * s + s ≤ length m → j * s + s ≤ length m → length k ≡ s → (j ≡ i → ⊥) → inner (j * s) s (outer (i * s) s m k) ≡ inner (j * s) s m
parts_apart s m k i j f g e d =
    by_test (ltb j i)
    (λ t. inner_other m k (i * s) (j * s) s f g e (before s j i (ltb-true j i t)))
    (λ t. let l = ltb-false j i t in inner_above m k (i * s) (j * s) s f g e (before s i j (omega arith)))

-- a part put in place twice is the last one
module _ (m : List ℕ) (a s : ℕ) (fits : a + s ≤ length m) (k l : List ℕ) (e : length k ≡ s) where
  pub outer_outer : outer a s (outer a s m k) l ≡ outer a s m l
  unfolding outer
  outer_outer =
      let t = length-take-le a m (omega arith) in
      simp (
        take_at (take a m) (k ++ drop s (drop a m)) a t,
        drop_at (take a m) (k ++ drop s (drop a m)) a t,
        drop_at k (drop s (drop a m)) s e,
      )

-- a part of a repeated element
pub inner_replicate : (a s n : ℕ) → a + s ≤ n → inner a s (replicate n 0) ≡ replicate s 0
inner_replicate a s n f =
    let g : a + s ≤ length (replicate {A = ℕ} n 0) = omega (arith, length-replicate {A = ℕ} n 0) in
    ext_get_or 0 _ _ (inner_length (replicate n 0) a s g ∙ sym (length-replicate {A = ℕ} s 0)) λ i m.
    part_at (replicate n 0) a s i (omega (arith, inner_length (replicate n 0) a s g))
    ∙ get_or_replicate_same n 0 (a + i)
    ∙ sym (get_or_replicate_same s 0 i)
