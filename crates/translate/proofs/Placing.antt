-- A store's field as the code puts it, once over the width; and what the bits of a store's opcode tell.
use mathlib.Core.Path.{◌≡◌, refl, sym, ap, subst, ◌∙◌}
use mathlib.Core.Bool.{true}
use Prim.Native.Nat.{ℕ, ◌+◌, ◌-◌, ◌*◌, ◌/◌, ◌%◌, ◌^◌, ◌<◌, ◌≤◌}
use native.Mathlib.Nat.{mod-lt, le_trans, div-one, div-mul-le_self, mod-le, mul-le-mul_right}
use native.Mathlib.Omega.{arith}
use borrow.Author.Tests.{eqb-true}
use lib.Pow.{pow_pos, shl_exact}
use Rattle.dlx.specs.Fields.{field, put, place, aligned, storing, width, placed}
use Rattle.dlx.proofs.Fields.{put_word, put_whole, by_store, inside_word}

module _ (w k v x : ℕ) (inside : k + w ≤ 32) where
  -- nothing is shifted out of the word
  shifted : (y : ℕ) → y < 2 ^ w → (y * 2 ^ k) % 2 ^ 32 ≡ y * 2 ^ k
  shifted y h = shl_exact w k 32 h (omega arith)

  lowest : field w 0 v ≡ v % 2 ^ w
  unfolding field
  lowest = ap (λ (y : ℕ). y % 2 ^ w) (div-one v)

  code_put : x - (x / 2 ^ k % 2 ^ w * 2 ^ k) % 2 ^ 32 + (v % 2 ^ w * 2 ^ k) % 2 ^ 32 ≡ put w k v x
  unfolding put field
  code_put =
      ap (λ (y : ℕ). x - y + (v % 2 ^ w * 2 ^ k) % 2 ^ 32) (shifted (x / 2 ^ k % 2 ^ w) (mod-lt (x / 2 ^ k) (pow_pos w)))
      ∙ ap (λ (y : ℕ). x - x / 2 ^ k % 2 ^ w * 2 ^ k + y) (shifted (v % 2 ^ w) (mod-lt v (pow_pos w)))
      ∙ ap (λ (y : ℕ). x - x / 2 ^ k % 2 ^ w * 2 ^ k + y * 2 ^ k) (sym lowest)

  code_less : (x / 2 ^ k % 2 ^ w * 2 ^ k) % 2 ^ 32 ≤ x
  code_less =
      le_trans (mod-le (x / 2 ^ k % 2 ^ w * 2 ^ k) (2 ^ 32))
      (le_trans (mul-le-mul_right (2 ^ k) (mod-le (x / 2 ^ k) (2 ^ w))) (div-mul-le_self x (2 ^ k)))

-- ---- by the opcode's bits

module _ (o a v x : ℕ) (s : storing o ≡ true) (g : aligned (width o) a ≡ true) where
  pub places_word : v < 2 ^ 32 → x < 2 ^ 32 → o / 2 % 2 ≡ 1 → v ≡ placed o a v x
  unfolding placed width
  places_word h l e = by_store (λ o. aligned (width o) a ≡ true → o / 2 % 2 ≡ 1 → v ≡ placed o a v x) o s
      (λ _ e. omega arith) (λ _ e. omega arith)
      (λ g _. let z : place a ≡ 0 = omega (arith, eqb-true (a % 4) 0 g) in rw z (sym (put_whole v x h l))) g e

  pub half : (o / 2 % 2 ≡ 1 → ⊥) → o % 2 ≡ 1 → width o ≡ 16
  unfolding width
  half = by_store (λ o. (o / 2 % 2 ≡ 1 → ⊥) → o % 2 ≡ 1 → width o ≡ 16) o s (λ _ e. omega arith) (λ _ _. refl) (λ n _. absurd (n refl))

  pub byte : (o / 2 % 2 ≡ 1 → ⊥) → (o % 2 ≡ 1 → ⊥) → width o ≡ 8
  unfolding width
  byte = by_store (λ o. (o / 2 % 2 ≡ 1 → ⊥) → (o % 2 ≡ 1 → ⊥) → width o ≡ 8) o s (λ _ _. refl) (λ _ n. absurd (n refl)) (λ n _. absurd (n refl))

  -- of a width w, which is this opcode's
  module _ (w : ℕ) (is : width o ≡ w) where
    fits : a % 4 * 8 + w ≤ 32
    fits = subst (λ (y : ℕ). a % 4 * 8 + y ≤ 32) is (omega (arith, inside_word o a g))

    pub places_less : (x / 2 ^ (a % 4 * 8) % 2 ^ w * 2 ^ (a % 4 * 8)) % 2 ^ 32 ≤ x
    places_less = code_less w (a % 4 * 8) v x fits

    pub places_field : x - (x / 2 ^ (a % 4 * 8) % 2 ^ w * 2 ^ (a % 4 * 8)) % 2 ^ 32 + (v % 2 ^ w * 2 ^ (a % 4 * 8)) % 2 ^ 32 ≡ placed o a v x
    unfolding placed
    places_field =
        let e : a % 4 * 8 ≡ place a = omega arith in
        code_put w (a % 4 * 8) v x fits ∙ ap (λ (y : ℕ). put w y v x) e ∙ ap (λ (y : ℕ). put y (place a) v x) (sym is)

    pub places_lt : x < 2 ^ 32 → x - (x / 2 ^ (a % 4 * 8) % 2 ^ w * 2 ^ (a % 4 * 8)) % 2 ^ 32 + (v % 2 ^ w * 2 ^ (a % 4 * 8)) % 2 ^ 32 < 2 ^ 32
    places_lt h = subst (λ (y : ℕ). y < 2 ^ 32) (sym (code_put w (a % 4 * 8) v x fits)) (put_word w (a % 4 * 8) v x fits h)
