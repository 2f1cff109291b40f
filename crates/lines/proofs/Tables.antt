-- Tests that are computed over the whole table, and what they give at each row.
use mathlib.Core.Path.{◌≡◌, refl}
use mathlib.Core.Bool.{Bool, true, false, not, ◌&&◌, ◌||◌}
use mathlib.Core.List.{List, [], ◌∷◌}
use Prim.Native.Nat.{ℕ, zero, suc, ◌*◌, ◌^◌, ◌<◌, ◌≤◌}
use native.Mathlib.Omega.{arith}
use borrow.Author.Tests.{eqb-true, eqb-false, leb-true, not-true}
use lib.Dec.{eqb, leb}
use lib.ListN.{length, get_or}
use Rattle.dlx.proofs.Tests.{by_test, and_left}
use Rattle.decimal.specs.Texts.{ascii}
use Rattle.decimal.proofs.Same.{and_right}
use Rattle.lines.specs.declared.Style.{Style}
use Rattle.lines.specs.declared.Style.TheVariants.{Absent, Number, Register, Signed}
use Rattle.lines.specs.declared.Kind.{Kind}
use Rattle.lines.specs.declared.Kind.TheVariants.{Unused, Rs1, Rs2, Rd, RdOfR, Special, Short, High, Long, Whole}
use Rattle.lines.specs.declared.Operand.{Operand}
use Rattle.lines.specs.Table.{operand_at, Row, named, unnamed, row_at}
use Rattle.lines.specs.Lines.{column, place_from, lettered, letters_of, marked, scanned, scan_from, start, style_of}

-- ---- tests of lists and of places

abbrev pub all : {A : Type 0} → (A → Bool) → List A → Bool
all f [] = true
all f (x ∷ xs) = f x && all f xs

pub all_at : {A : Type 0} (f : A → Bool) (xs : List A) (d : A) → all f xs ≡ true → f d ≡ true → (i : ℕ) → f (get_or xs i d) ≡ true
all_at f [] d e q i = q
all_at f (x ∷ xs) d e q zero = and_left (f x) (all f xs) e
all_at f (x ∷ xs) d e q (suc i) = all_at f xs d (and_right (f x) (all f xs) e) q i

-- every number below n passes
abbrev pub below : (ℕ → Bool) → ℕ → Bool
below f zero = true
below f (suc n) = f n && below f n

pub below_at : (f : ℕ → Bool) (n : ℕ) → below f n ≡ true → (i : ℕ) → i < n → f i ≡ true
below_at f zero e i l = absurd (omega arith)
below_at f (suc n) e i l =
    by_test (eqb i n)
    (λ q. rw (eqb-true i n q) (and_left (f n) (below f n) e))
    (λ q. below_at f n (and_right (f n) (below f n) e) i (let d = eqb-false i n q in omega arith))

-- ---- operands: what their styles ask of their sizes

unfoldable pub sized : Style → ℕ → Bool
sized Absent m = eqb m 1
sized Number m = true
sized Register m = true
sized Signed m = eqb m (2 ^ 16) || eqb m (2 ^ 26)

unfoldable pub sane : Operand → Bool
sane o = leb 1 o.size && leb o.size (2 ^ 32) && sized o.style o.size && leb 1 o.scale && leb (o.size * o.scale) (2 ^ 32)

sane_at : (k : Kind) → sane (operand_at k) ≡ true
unfolding sane sized operand_at
sane_at Unused = refl
sane_at Rs1 = refl
sane_at Rs2 = refl
sane_at Rd = refl
sane_at RdOfR = refl
sane_at Special = refl
sane_at Short = refl
sane_at High = refl
sane_at Long = refl
sane_at Whole = refl

module _ (k : Kind) where
  pub size_some : 1 ≤ (operand_at k).size
  unfolding sane
  size_some = let o = operand_at k in leb-true 1 o.size (and_left _ (leb o.size (2 ^ 32)) (and_left _ (sized o.style o.size) (and_left _ (leb 1 o.scale) (and_left _ (leb (o.size * o.scale) (2 ^ 32)) (sane_at k)))))

  pub size_word : (operand_at k).size ≤ 2 ^ 32
  unfolding sane
  size_word = let o = operand_at k in leb-true o.size (2 ^ 32) (and_right (leb 1 o.size) _ (and_left _ (sized o.style o.size) (and_left _ (leb 1 o.scale) (and_left _ (leb (o.size * o.scale) (2 ^ 32)) (sane_at k)))))

  pub size_style : sized (operand_at k).style (operand_at k).size ≡ true
  unfolding sane
  size_style = let o = operand_at k in and_right (leb 1 o.size && leb o.size (2 ^ 32)) _ (and_left _ (leb 1 o.scale) (and_left _ (leb (o.size * o.scale) (2 ^ 32)) (sane_at k)))

  pub scale_some : 1 ≤ (operand_at k).scale
  unfolding sane
  scale_some = let o = operand_at k in leb-true 1 o.scale (and_right (leb 1 o.size && leb o.size (2 ^ 32) && sized o.style o.size) _ (and_left _ (leb (o.size * o.scale) (2 ^ 32)) (sane_at k)))

  pub field_word : (operand_at k).size * (operand_at k).scale ≤ 2 ^ 32
  unfolding sane
  field_word = let o = operand_at k in leb-true (o.size * o.scale) (2 ^ 32) (and_right (leb 1 o.size && leb o.size (2 ^ 32) && sized o.style o.size && leb 1 o.scale) _ (sane_at k))

-- ---- rows: operands stand at the end, only the last is signed; the letters lead back to the row; names have no minus and no newline

unfoldable pub present : Style → Bool
present Absent = false
present Number = true
present Register = true
present Signed = true

-- unless it is absent, the operand has no sign, and this holds
unfoldable pub plainly : Style → Bool → Bool
plainly Absent b = true
plainly Number b = b
plainly Register b = b
plainly Signed b = false

unfoldable pub shaped : Row → Bool
shaped r = plainly (style_of r.first) (present (style_of r.second) && present (style_of r.third)) && plainly (style_of r.second) (present (style_of r.third))

abbrev pub clean : List ℕ → Bool
clean bs = all (λ (b : ℕ). not (eqb b 10)) bs

unfoldable pub sound_name : Row → Bool
sound_name r = not (scan_from start r.name).minus && clean r.name && leb (length r.name) 6

shaped_all : all shaped named && shaped unnamed ≡ true
unfolding shaped plainly present operand_at named unnamed ascii
shaped_all = refl

pub shaped_at : (r : ℕ) → shaped (row_at r) ≡ true
unfolding row_at
shaped_at r = all_at shaped named unnamed (and_left (all shaped named) (shaped unnamed) shaped_all) (and_right (all shaped named) (shaped unnamed) shaped_all) r

names_all : all sound_name named && sound_name unnamed ≡ true
unfolding sound_name scan_from scanned named unnamed ascii
names_all = refl

names_at : (r : ℕ) → sound_name (row_at r) ≡ true
unfolding row_at
names_at r = all_at sound_name named unnamed (and_left (all sound_name named) (sound_name unnamed) names_all) (and_right (all sound_name named) (sound_name unnamed) names_all) r

module _ (r : ℕ) where
  pub name_plus : (scan_from start (row_at r).name).minus ≡ false
  unfolding sound_name
  name_plus = let n = (row_at r).name in not-true (scan_from start n).minus (and_left (not (scan_from start n).minus) (clean n) (and_left _ (leb (length n) 6) (names_at r)))

  pub name_clean : clean (row_at r).name ≡ true
  unfolding sound_name
  name_clean = let n = (row_at r).name in and_right (not (scan_from start n).minus) (clean n) (and_left _ (leb (length n) 6) (names_at r))

  pub name_short : length (row_at r).name ≤ 6
  unfolding sound_name
  name_short = let n = (row_at r).name in leb-true (length n) 6 (and_right (not (scan_from start n).minus && clean n) (leb (length n) 6) (names_at r))

-- the letters lead back
back : ℕ → Bool
back r = eqb (lettered (letters_of (row_at r))) r

back_all : below back 46 ≡ true
unfolding back lettered letters_of column place_from row_at named unnamed marked scan_from scanned operand_at ascii
back_all = refl

pub letters_back : (r : ℕ) → r < 46 → lettered (letters_of (row_at r)) ≡ r
unfolding back
letters_back r l = eqb-true (lettered (letters_of (row_at r))) r (below_at back 46 back_all r l)
