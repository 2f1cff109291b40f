-- What a word's reading, and a sum and a difference of two, are bounded by; that bits tell a number; that an extended field reads as the field.
use mathlib.Core.Path.{◌≡◌, refl, sym, ap, subst, ◌∙◌}
use mathlib.Core.Bool.{Bool, true, false, cond}
use Prim.Native.Nat.{ℕ, zero, suc, ◌+◌, ◌-◌, ◌*◌, ◌%◌, ◌^◌, ◌≤◌, ◌<◌}
use native.Mathlib.Nat.{mod-lt}
use native.Mathlib.Omega.{arith}
use borrow.Author.Tests.{lt-ltb, le-ltb, eq-eqb, ne_eqb, eqb-true, eqb-false, ltb-true, ltb-false}
use lib.Dec.{ltb, eqb}
use lib.IntN.{ℤ, pos, negsuc, neg_ℤ, sub_ℕ, ◌+ℤ◌, ◌-ℤ◌}
use lib.Signed.{mag}
use mir.Syntax.{w64}
use mir.Val.{SFits, of_z, to_z}
use mir.ValLaws.{to_z-of_z}
use Rattle.dlx.specs.Choice.{when◌then◌else◌}
use Rattle.dlx.specs.Words.{read_in, reading_of, eq_z, outside_of, extended_by}

cut : (t : Bool) (x : ℕ) → ltb x (2 ^ 31) ≡ t → x < 2 ^ 32 → mag (when t then pos x else sub_ℕ x (2 ^ 32)) < 2 ^ 31
cut true x e h = omega (arith, ltb-true x (2 ^ 31) e)
cut false x e h = simp (lt-ltb x (2 ^ 32) h) (omega (arith, ltb-false x (2 ^ 31) e))

mag_read : (x : ℕ) → x < 2 ^ 32 → mag (reading_of x) < 2 ^ 31
unfolding read_in
mag_read x h = cut (ltb x (2 ^ 31)) x refl h

mag_cond : (t : Bool) (a b : ℕ) → mag (cond t (negsuc (b - suc a)) (pos (a - b))) ≤ a + b
mag_cond true a b = omega arith
mag_cond false a b = omega arith

mag_neg : (y : ℤ) → mag (neg_ℤ y) ≤ suc (mag y)
mag_neg (pos zero) = omega arith
mag_neg (pos (suc n)) = omega arith
mag_neg (negsuc n) = omega arith

mag_add : (x y : ℤ) → mag (x +ℤ y) ≤ suc (mag x + mag y)
mag_add (pos a) (pos b) = omega arith
mag_add (pos a) (negsuc b) = omega (arith, mag_cond (ltb a (suc b)) a (suc b))
mag_add (negsuc a) (pos b) = omega (arith, mag_cond (ltb b (suc a)) b (suc a))
mag_add (negsuc a) (negsuc b) = omega arith

-- the exact sum and the exact difference of two words' readings fit an i64
fits : (x y : ℤ) → mag x + mag y < 2 ^ 32 → SFits w64 (x +ℤ y)
fits x y h = record { sfits = omega (arith, mag_add x y) }

module _ (a b : ℕ) (h : a < 2 ^ 32) (k : b < 2 ^ 32) where
  pub sum_fits : SFits w64 (reading_of a +ℤ reading_of b)
  sum_fits = fits (reading_of a) (reading_of b) (omega (arith, mag_read a h, mag_read b k))

  pub difference_fits : SFits w64 (reading_of a -ℤ reading_of b)
  difference_fits = fits (reading_of a) (neg_ℤ (reading_of b)) (omega (arith, mag_neg (reading_of b), mag_read a h, mag_read b k))

-- what a local of a signed number z is read back as
pub kept : {z v : ℤ} → z ≡ v → mag z < 2 ^ 63 → to_z w64 (of_z w64 z) ≡ v
kept {z} e h = to_z-of_z w64 z (record { sfits = h }) ∙ e

-- the result of an operation on two such locals fits one too, and is outside where the exact result is
module _ (op : ℤ → ℤ → ℤ) {x y u v : ℤ} (p : x ≡ u) (q : y ≡ v) (h : mag x < 2 ^ 63) (k : mag y < 2 ^ 63) (f : SFits w64 (op u v)) where
  exact : op (to_z w64 (of_z w64 x)) (to_z w64 (of_z w64 y)) ≡ op u v
  exact = simp (kept p h, kept q k)

  pub result_fits : SFits w64 (op (to_z w64 (of_z w64 x)) (to_z w64 (of_z w64 y)))
  result_fits = subst (λ (z : ℤ). SFits w64 z) (sym exact) f

  pub result_outside : {b : Bool} → b ≡ outside_of (to_z w64 (of_z w64 (op (to_z w64 (of_z w64 x)) (to_z w64 (of_z w64 y))))) → b ≡ outside_of (op u v)
  result_outside e = e ∙ ap outside_of (to_z-of_z w64 _ result_fits ∙ exact)

-- a number's bits tell it
module _ (a b : ℕ) where
  flip : (t : Bool) → a < 2 ^ 63 → b < 2 ^ 63 → eqb a b ≡ t → eqb (2 ^ 64 - suc a) (2 ^ 64 - suc b) ≡ t
  flip true h k e = eq-eqb (2 ^ 64 - suc a) (2 ^ 64 - suc b) (omega (arith, eqb-true a b e))
  flip false h k e = ne_eqb (2 ^ 64 - suc a) (2 ^ 64 - suc b) (λ q. eqb-false a b e (omega arith))

  apart : a < 2 ^ 63 → b < 2 ^ 63 → a ≡ 2 ^ 64 - suc b → ⊥
  apart h k e = omega arith

pub same_bits : (x y : ℤ) → SFits w64 x → SFits w64 y → eqb (of_z w64 x) (of_z w64 y) ≡ eq_z x y
same_bits (pos a) (pos b) f g = refl
same_bits (pos a) (negsuc b) f g = ne_eqb _ _ (apart a b f.sfits g.sfits)
same_bits (negsuc a) (pos b) f g = ne_eqb _ _ (λ e. apart b a g.sfits f.sfits (sym e))
same_bits (negsuc a) (negsuc b) f g = flip a b (eqb a b) f.sfits g.sfits refl

-- the word that a field is extended to reads as the field does: sign extension, once over the width
module _ (h f : ℕ) (small : h ≤ 2 ^ 30) (below : f < h * 2) where
  reads : (t : Bool) → ltb f h ≡ t → reading_of (when t then f else f + (2 ^ 32 - h * 2)) ≡ (when t then pos f else sub_ℕ f (h * 2))
  unfolding read_in
  reads true e = simp (lt-ltb f (2 ^ 31) (omega (arith, ltb-true f h e)))
  reads false e =
      let k = ltb-false f h e in
      let w = f + (2 ^ 32 - h * 2) in
      simp (le-ltb w (2 ^ 31) (omega arith), lt-ltb w (2 ^ 32) (omega arith), lt-ltb f (h * 2) below) (ap negsuc (omega arith))

pub extended_reads : (h x : ℕ) → 0 < h → h ≤ 2 ^ 30 → reading_of (extended_by h x) ≡ read_in h (x % (h * 2))
unfolding read_in extended_by
extended_reads h x p q = reads h (x % (h * 2)) q (mod-lt x {m = h * 2} (omega arith)) (ltb (x % (h * 2)) h) refl
