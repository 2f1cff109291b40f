-- Placement, once over the width: what is put is read back, every other field stays, and the result is no longer than the word was.
use mathlib.Core.Path.{◌≡◌, refl, sym, ap, subst, ◌∙◌}
use mathlib.Core.Bool.{Bool, true, false, ◌||◌}
use Prim.Native.Nat.{ℕ, ◌+◌, ◌-◌, ◌*◌, ◌/◌, ◌%◌, ◌^◌, ◌<◌, ◌≤◌}
use native.Mathlib.Nat.{mod-lt, add-mul}
use native.Mathlib.Omega.{arith}
use borrow.Author.Tests.{eqb-true}
use lib.Arith.{digits_lt}
use lib.Dec.{eqb}
use lib.Pow as pow
use lib.Pow.{pow_pos, pow_mono, pow-add, shr_lt, shr-shr, split, high, low, mod-mod-pow}
use Rattle.dlx.specs.Choice.{when◌then◌else◌}
use Rattle.dlx.specs.Fields.{field, put, place, aligned, loading, storing, width, placed}

cancel : (p q r l : ℕ) → p + q + l - q + r ≡ p + r + l
cancel p q r l = omega arith

-- a field, seen from below and from above it
module _ (w k : ℕ) where
  pub field_lt : (x : ℕ) → field w k x < 2 ^ w
  unfolding field
  field_lt x = mod-lt (x / 2 ^ k) (pow_pos w)

  -- it depends on the bits below its end alone
  field_low : (x n : ℕ) → w + k ≤ n → field w k (x % 2 ^ n) ≡ field w k x
  unfolding field
  field_low x n h =
      let e : n - (w + k) + (w + k) ≡ n = omega arith in
      sym (pow.field (x % 2 ^ n) w k)
      ∙ ap (λ (y : ℕ). y / 2 ^ k) (subst (λ (m : ℕ). x % 2 ^ m % 2 ^ (w + k) ≡ x % 2 ^ (w + k)) e (mod-mod-pow x (n - (w + k)) (w + k)))
      ∙ pow.field x w k

  -- and on the bits from its place on
  field_high : (x n : ℕ) → n ≤ k → field w k x ≡ field w (k - n) (x / 2 ^ n)
  unfolding field
  field_high x n h =
      let e : n + (k - n) ≡ k = omega arith in
      ap (λ (y : ℕ). y % 2 ^ w) (subst (λ (m : ℕ). x / 2 ^ m ≡ x / 2 ^ n / 2 ^ (k - n)) e (sym (shr-shr x n (k - n))))

module _ (w k : ℕ) where
  -- x with the field g
  over : ℕ → ℕ → ℕ
  over g x = (x / 2 ^ k / 2 ^ w * 2 ^ w + g) * 2 ^ k + x % 2 ^ k

  over_own : (x : ℕ) → over (field w k x) x ≡ x
  unfolding field over
  over_own x = ap (λ (y : ℕ). y * 2 ^ k + x % 2 ^ k) (split (x / 2 ^ k) w) ∙ split x k

  -- what is put is the lowest bits of v over the field that stood there
  put_over : (v x : ℕ) → put w k v x ≡ over (field w 0 v) x
  unfolding put over
  put_over v x =
      let H = x / 2 ^ k / 2 ^ w * 2 ^ w in
      let f = field w k x in
      let g = field w 0 v in
      let l = x % 2 ^ k in
      let own : (H + f) * 2 ^ k + l ≡ x = over_own x in
      ap (λ (y : ℕ). y - f * 2 ^ k + g * 2 ^ k) (sym own)
      ∙ ap (λ (y : ℕ). y + l - f * 2 ^ k + g * 2 ^ k) (add-mul H f (2 ^ k))
      ∙ cancel (H * 2 ^ k) (f * 2 ^ k) (g * 2 ^ k) l
      ∙ ap (λ (y : ℕ). y + l) (sym (add-mul H g (2 ^ k)))

  module _ (g x : ℕ) where
    over_upper : over g x / 2 ^ k ≡ x / 2 ^ k / 2 ^ w * 2 ^ w + g
    unfolding over
    over_upper = high (x / 2 ^ k / 2 ^ w * 2 ^ w + g) k (mod-lt x (pow_pos k))

    over_below : over g x % 2 ^ k ≡ x % 2 ^ k
    unfolding over
    over_below = low (x / 2 ^ k / 2 ^ w * 2 ^ w + g) k (mod-lt x (pow_pos k))

    over_field : g < 2 ^ w → field w k (over g x) ≡ g
    unfolding field
    over_field h = ap (λ (y : ℕ). y % 2 ^ w) over_upper ∙ low (x / 2 ^ k / 2 ^ w) w h

    over_above : g < 2 ^ w → over g x / 2 ^ (k + w) ≡ x / 2 ^ (k + w)
    over_above h =
        sym (shr-shr (over g x) k w) ∙ ap (λ (y : ℕ). y / 2 ^ w) over_upper ∙ high (x / 2 ^ k / 2 ^ w) w h ∙ shr-shr x k w

    -- no longer than x, where the field ends inside n bits
    over_lt : (n : ℕ) → g < 2 ^ w → k + w ≤ n → x < 2 ^ n → over g x < 2 ^ n
    unfolding over
    over_lt n h e l =
        let m = n - (k + w) in
        let s : m + w + k ≡ n = omega arith in
        let q : x / 2 ^ k < 2 ^ (m + w) = shr_lt (m + w) k (subst (λ (y : ℕ). x < 2 ^ y) (sym s) l) in
        let t : x / 2 ^ k / 2 ^ w * 2 ^ w + g < 2 ^ (m + w) =
        subst (λ (y : ℕ). x / 2 ^ k / 2 ^ w * 2 ^ w + g < y) (sym (pow-add 2 m w)) (digits_lt (shr_lt m w q) h) in
        subst (λ (y : ℕ). over g x < 2 ^ y) s
        (subst (λ (y : ℕ). over g x < y) (sym (pow-add 2 (m + w) k)) (digits_lt t (mod-lt x (pow_pos k))))

  -- ---- the laws of placement

  module _ (v x : ℕ) where
    -- what is put is read back
    pub put_field : field w k (put w k v x) ≡ field w 0 v
    put_field = ap (λ (y : ℕ). field w k y) (put_over v x) ∙ over_field (field w 0 v) x (field_lt w 0 v)

    -- a field below it stays, and so does one above it
    pub put_below : (w' k' : ℕ) → k' + w' ≤ k → field w' k' (put w k v x) ≡ field w' k' x
    put_below w' k' h =
        ap (λ (y : ℕ). field w' k' y) (put_over v x)
        ∙ sym (field_low w' k' (over (field w 0 v) x) k (omega arith))
        ∙ ap (λ (y : ℕ). field w' k' y) (over_below (field w 0 v) x)
        ∙ field_low w' k' x k (omega arith)

    pub put_above : (w' k' : ℕ) → k + w ≤ k' → field w' k' (put w k v x) ≡ field w' k' x
    put_above w' k' h =
        ap (λ (y : ℕ). field w' k' y) (put_over v x)
        ∙ field_high w' k' (over (field w 0 v) x) (k + w) h
        ∙ ap (λ (y : ℕ). field w' (k' - (k + w)) y) (over_above (field w 0 v) x (field_lt w 0 v))
        ∙ sym (field_high w' k' x (k + w) h)

    -- the result is a word where x is one and the field stands inside it
    pub put_word : k + w ≤ 32 → x < 2 ^ 32 → put w k v x < 2 ^ 32
    put_word h l = subst (λ (y : ℕ). y < 2 ^ 32) (sym (put_over v x)) (over_lt (field w 0 v) x 32 (field_lt w 0 v) h l)

-- at width 32 it is the whole word
pub field_whole : (x : ℕ) → x < 2 ^ 32 → field 32 0 x ≡ x
unfolding field
field_whole x h = omega arith

pub put_whole : (v x : ℕ) → v < 2 ^ 32 → x < 2 ^ 32 → put 32 0 v x ≡ v
unfolding put field
put_whole v x h l = omega arith

-- ---- loads and stores

-- an opcode of a load's is one of five, one of a store's one of three
module _ (P : ℕ → Type 0) (o : ℕ) where
  one : (k : ℕ) → P k → eqb o k ≡ true → P o
  one k p e = subst P (sym (eqb-true o k e)) p

  or_either : (a b : Bool) → (a || b) ≡ true → (a ≡ true → P o) → (b ≡ true → P o) → P o
  or_either true b h f g = f refl
  or_either false b h f g = g h

  pub by_load : loading o ≡ true → P 32 → P 33 → P 35 → P 36 → P 37 → P o
  by_load h a b c d e =
      or_either (eqb o 32 || eqb o 33 || eqb o 35 || eqb o 36) (eqb o 37) h
      (λ h. or_either (eqb o 32 || eqb o 33 || eqb o 35) (eqb o 36) h
      (λ h. or_either (eqb o 32 || eqb o 33) (eqb o 35) h (λ h. or_either (eqb o 32) (eqb o 33) h (one 32 a) (one 33 b)) (one 35 c))
      (one 36 d))
      (one 37 e)

  pub by_store : storing o ≡ true → P 40 → P 41 → P 43 → P o
  by_store h a b c =
      or_either (eqb o 40 || eqb o 41) (eqb o 43) h (λ h. or_either (eqb o 40) (eqb o 41) h (one 40 a) (one 41 b)) (one 43 c)

-- by cases over the three widths
pub either_width : (P : ℕ → Type 0) (o : ℕ) → P 8 → P 16 → P 32 → P (width o)
unfolding width
either_width P o a b c = pick P (eqb o 32 || eqb o 36 || eqb o 40) a (pick P (eqb o 33 || eqb o 37 || eqb o 41) b c)
  where
    pick : (P : ℕ → Type 0) (t : Bool) {x y : ℕ} → P x → P y → P (when t then x else y)
    pick P true p q = p
    pick P false p q = q

-- a half word never spans two words: what an aligned address reaches stands inside its word
pub inside_word : (o a : ℕ) → aligned (width o) a ≡ true → place a + width o ≤ 32
inside_word o a = either_width (λ w. aligned w a ≡ true → place a + w ≤ 32) o
    (λ _. omega arith) (λ e. omega (arith, eqb-true (a % 2) 0 e)) (λ e. omega (arith, eqb-true (a % 4) 0 e))

-- a store leaves a word
pub placed_word : (o a v x : ℕ) → aligned (width o) a ≡ true → x < 2 ^ 32 → placed o a v x < 2 ^ 32
unfolding placed
placed_word o a v x e h = put_word (width o) (place a) v x (inside_word o a e) h
