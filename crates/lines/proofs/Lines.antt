-- The candidate of a line is the word of which it is the line.
use mathlib.Core.Path.{◌≡◌, refl, sym, ap, subst, ◌∙◌}
use mathlib.Core.Logic.{◌↔◌}
use mathlib.Core.Bool.{Bool, true, false, not, ◌&&◌, ◌||◌}
use mathlib.Core.List.{List, [], ◌∷◌, ◌++◌}
use Prim.Native.Nat.{ℕ, zero, suc, ◌+◌, ◌-◌, ◌/◌, ◌%◌, ◌^◌, ◌<◌, ◌≤◌}
use native.Mathlib.Nat.{mod-lt, mod-one, mod-eq_of_lt}
use native.Mathlib.Omega.{arith}
use borrow.Author.Tests.{eqb-true, ltb-true, ltb-false, le-leb, ne_eqb}
use lib.Dec.{eqb, leb, ltb}
use lib.ListN.{length, length-append}
use Rattle.dlx.proofs.Tests.{by_test, and_left}
use Rattle.decimal.specs.Decimals.{digit, decimal, signed_text}
use Rattle.decimal.specs.Texts.{same}
use Rattle.decimal.proofs.Decimals.{one_digit, more_digits, few_digits}
use Rattle.decimal.proofs.Same.{and_right, same_refl, same_eq}
use Rattle.lines.specs.declared.Style.{Style}
use Rattle.lines.specs.declared.Style.TheVariants.{Absent, Number, Register, Signed}
use Rattle.lines.specs.declared.Kind.{Kind}
use Rattle.lines.specs.Table.{operand_at, Row, named, unnamed, row_at}
use Rattle.lines.specs.Lines.{written, field_of, operand_text, text_by, code_of, bare_of, made, remade, within, fits, place_from, column, coded, place_of, line_of, start, scan_from, marked, style_of, letters_of, lettered, last_of, candidate_by, candidate, right}
use Rattle.lines.specs.declared.Scan.{Scan}
use Rattle.lines.proofs.Scans.{scan_more, passed, scan_written, letters_passed}
use Rattle.lines.proofs.Tables.{sized, size_some, size_word, size_style, present, plainly, shaped, shaped_at, clean, name_plus, name_clean, name_short, letters_back}

-- ---- what operands leave behind

first_moved : (y : Style) (m v : ℕ) (s : Scan) → present y ≡ true → (passed y m v s).first ≡ s.second
unfolding passed present
first_moved Absent m v s e = cc
first_moved Number m v s e = refl
first_moved Register m v s e = refl
first_moved Signed m v s e = by_test (ltb v (m / 2)) (λ q. rw (q, passed)) (λ q. rw (q, passed))

second_moved : (y : Style) (m v : ℕ) (s : Scan) → present y ≡ true → (passed y m v s).second ≡ s.third
unfolding passed present
second_moved Absent m v s e = cc
second_moved Number m v s e = refl
second_moved Register m v s e = refl
second_moved Signed m v s e = by_test (ltb v (m / 2)) (λ q. rw (q, passed)) (λ q. rw (q, passed))

minus_kept : (y : Style) (b : Bool) (m v : ℕ) (s : Scan) → plainly y b ≡ true → (passed y m v s).minus ≡ s.minus
unfolding passed plainly
minus_kept Absent b m v s e = refl
minus_kept Number b m v s e = refl
minus_kept Register b m v s e = refl
minus_kept Signed b m v s e = cc

-- a number x that stands for the operand v of m values, where x is what the operand left, if it is there
plain_value : (y : Style) (b : Bool) (m v x : ℕ) (s : Scan) → plainly y b ≡ true → (b ≡ true → x ≡ (passed y m v s).third) → sized y m ≡ true → v < m → x % m ≡ v
unfolding passed plainly sized
plain_value Absent b m v x s e f k l = let q = eqb-true m 1 k in rw (q, mod-one x) (omega arith)
plain_value Number b m v x s e f k l = rw (f e) (mod-eq_of_lt l)
plain_value Register b m v x s e f k l = rw (f e) (mod-eq_of_lt l)
plain_value Signed b m v x s e f k l = cc

-- a negative number comes back modulo the size
below_zero : (m v : ℕ) → eqb m (2 ^ 16) || eqb m (2 ^ 26) ≡ true → v < m → (2 ^ 32 - (m - v)) % m ≡ v
below_zero m v e l =
    by_test (eqb m (2 ^ 16))
    (λ q. let p = eqb-true m (2 ^ 16) q in rw p (let l' : v < 2 ^ 16 = rw p at l in omega arith))
    (λ q. let p = eqb-true m (2 ^ 26) (rw q at e) in rw p (let l' : v < 2 ^ 26 = rw p at l in omega arith))

last_value : (y : Style) (m v : ℕ) (s : Scan) → s.minus ≡ false → sized y m ≡ true → v < m → last_of (passed y m v s) % m ≡ v
unfolding passed sized
last_value Absent m v s n k l = let q = eqb-true m 1 k in rw (q, mod-one (last_of s)) (omega arith)
last_value Number m v s n k l = rw n (mod-eq_of_lt l)
last_value Register m v s n k l = rw n (mod-eq_of_lt l)
last_value Signed m v s n k l =
    by_test (ltb v (m / 2))
    (λ q. rw (q, passed, n) (mod-eq_of_lt l))
    (λ q. rw (q, passed) (below_zero m v k l))

-- ---- a line by a row

pub field_below : (k : Kind) (w : ℕ) → field_of (operand_at k) w < (operand_at k).size
field_below k w = mod-lt (w / (operand_at k).scale) (size_some k)

-- what the text of an operand leaves
leaves : Kind → ℕ → Scan → Scan
leaves k w s = let o = operand_at k in passed o.style o.size (field_of o w) s

scan_operand : (k : Kind) (w : ℕ) (s : Scan) → scan_from s (operand_text k w) ≡ leaves k w s
unfolding operand_text leaves
scan_operand k w s = let o = operand_at k in scan_written o.style o.size (field_of o w) s (field_below k w) (size_word k)

scan_text : (r : Row) (w : ℕ) (s : Scan) → scan_from s (text_by r w) ≡ leaves r.third w (leaves r.second w (leaves r.first w (scan_from s r.name)))
unfolding text_by
scan_text r w s =
    rw (
      scan_more s r.name (operand_text r.first w ++ (operand_text r.second w ++ operand_text r.third w)),
      scan_more (scan_from s r.name) (operand_text r.first w) (operand_text r.second w ++ operand_text r.third w),
      scan_operand r.first w (scan_from s r.name),
      scan_more (leaves r.first w (scan_from s r.name)) (operand_text r.second w) (operand_text r.third w),
      scan_operand r.second w (leaves r.first w (scan_from s r.name)),
    )
    (scan_operand r.third w (leaves r.second w (leaves r.first w (scan_from s r.name))))

module _ (r : Row) (w : ℕ) (s : Scan) (plus : s.minus ≡ false) (ok : shaped r ≡ true) where
  s1 : Scan
  s1 = leaves r.first w s

  s2 : Scan
  s2 = leaves r.second w s1

  s3 : Scan
  s3 = leaves r.third w s2

  ok_first : plainly (style_of r.first) (present (style_of r.second) && present (style_of r.third)) ≡ true
  unfolding shaped
  ok_first = and_left _ (plainly (style_of r.second) (present (style_of r.third))) ok

  ok_second : plainly (style_of r.second) (present (style_of r.third)) ≡ true
  unfolding shaped
  ok_second = and_right (plainly (style_of r.first) (present (style_of r.second) && present (style_of r.third))) _ ok

  minus_two : s2.minus ≡ false
  unfolding s2 s1 leaves
  minus_two =
      minus_kept (style_of r.second) (present (style_of r.third)) _ _ s1 ok_second
      ∙ minus_kept (style_of r.first) (present (style_of r.second) && present (style_of r.third)) _ _ s ok_first
      ∙ plus

  third_value : last_of s3 % (operand_at r.third).size ≡ field_of (operand_at r.third) w
  unfolding s3 leaves
  third_value = last_value (style_of r.third) (operand_at r.third).size (field_of (operand_at r.third) w) s2 minus_two (size_style r.third) (field_below r.third w)

  second_value : s3.second % (operand_at r.second).size ≡ field_of (operand_at r.second) w
  unfolding s3 s2 leaves
  second_value =
      plain_value (style_of r.second) (present (style_of r.third)) (operand_at r.second).size (field_of (operand_at r.second) w) s3.second s1 ok_second
      (λ e. second_moved (style_of r.third) _ _ s2 e) (size_style r.second) (field_below r.second w)

  first_value : s3.first % (operand_at r.first).size ≡ field_of (operand_at r.first) w
  unfolding s3 s2 s1 leaves
  first_value =
      plain_value (style_of r.first) (present (style_of r.second) && present (style_of r.third)) (operand_at r.first).size (field_of (operand_at r.first) w) s3.first s ok_first
      (λ e. first_moved (style_of r.third) _ _ s2 (and_right (present (style_of r.second)) (present (style_of r.third)) e)
      ∙ second_moved (style_of r.second) _ _ s1 (and_left (present (style_of r.second)) (present (style_of r.third)) e))
      (size_style r.first) (field_below r.first w)

  made_again : made r s3.first s3.second (last_of s3) ≡ remade r w
  unfolding made remade
  made_again = rw (first_value, second_value, third_value)

  letters_all : s3.letters ≡ marked (style_of r.third) (marked (style_of r.second) (marked (style_of r.first) s.letters))
  unfolding s3 s2 s1 leaves
  letters_all =
      letters_passed (style_of r.third) _ _ s2
      ∙ ap (marked (style_of r.third)) (letters_passed (style_of r.second) _ _ s1 ∙ ap (marked (style_of r.second)) (letters_passed (style_of r.first) _ _ s))

-- the candidate of a line by a row is the word itself, where its ignored fields are 0
pub candidate_text : (i w : ℕ) → i < 46 → remade (row_at i) w ≡ w → candidate (text_by (row_at i) w) ≡ w
unfolding candidate candidate_by s3 s2 s1 letters_of
candidate_text i w l e =
    let r = row_at i in
    let s = scan_from start r.name in
    let n = name_plus i in
    let ok = shaped_at i in
    let f = letters_all r w s n ok in
    rw (scan_text r w start, f, letters_back i l) (made_again r w s n ok ∙ e)

-- ---- the line of a word

place_bound : (j : ℕ) (xs : List ℕ) (n : ℕ) → place_from j xs n ≤ j + length xs
unfolding place_from
place_bound j [] n = omega arith
place_bound j (x ∷ xs) n =
    by_test (eqb x n)
    (λ q. rw (q, place_from) (omega arith))
    (λ q. rw (q, place_from) (omega (arith, place_bound (suc j) xs n)))

pub column_length : (f : Row → ℕ) (rs : List Row) → length (column f rs) ≡ length rs
unfolding column
column_length f [] = refl
column_length f (r ∷ rs) = ap suc (column_length f rs)

named_length : length named ≡ 45
unfolding named
named_length = refl

pub coded_bound : (c : ℕ) → coded c ≤ 45
unfolding coded
coded_bound c = omega (arith, place_bound 0 (column (λ (r : Row). r.code) named) c, column_length (λ (r : Row). r.code) named, named_length)

pub lettered_bound : (l : ℕ) → lettered l ≤ 45
unfolding lettered
lettered_bound l = omega (arith, place_bound 0 (column letters_of named) l, column_length letters_of named, named_length)

pub place_of_bound : (w : ℕ) → place_of w ≤ 45
unfolding place_of
place_of_bound w = by_test (fits (row_at (coded (code_of w))) w) (λ q. rw q (coded_bound (code_of w))) (λ q. rw q (omega (arith, named_length)))

pub fits_remade : (r : Row) (w : ℕ) → fits r w ≡ true → remade r w ≡ w
unfolding fits
fits_remade r w e =
    eqb-true (remade r w) w
    (and_left _ (within r.first w) (and_left _ (within r.second w) (and_left _ (within r.third w) e)))

unnamed_remade : (w : ℕ) → w < 2 ^ 32 → remade (row_at (length named)) w ≡ w
unfolding row_at named unnamed remade made bare_of operand_at
unnamed_remade w l = omega arith

pub place_remade : (w : ℕ) → w < 2 ^ 32 → remade (row_at (place_of w)) w ≡ w
unfolding place_of
place_remade w l =
    by_test (fits (row_at (coded (code_of w))) w)
    (λ q. rw q (fits_remade (row_at (coded (code_of w))) w q))
    (λ q. rw q (unnamed_remade w l))

-- THEOREM: the candidate of a word's line is the word
pub candidate_line : (w : ℕ) → w < 2 ^ 32 → candidate (line_of w) ≡ w
unfolding line_of
candidate_line w l = candidate_text (place_of w) w (omega (arith, place_of_bound w)) (place_remade w l)

-- THEOREM: two words have two lines
pub line_injective : (w v : ℕ) → w < 2 ^ 32 → v < 2 ^ 32 → line_of w ≡ line_of v → w ≡ v
line_injective w v l k e = sym (candidate_line w l) ∙ ap candidate e ∙ candidate_line v k

-- ---- how long a line is

written_short : (y : Style) (m v : ℕ) → v < m → m ≤ 2 ^ 32 → length (written y m v) ≤ 12
unfolding written signed_text
written_short Absent m v l k = omega arith
written_short Number m v l k = omega (arith, few_digits 9 v (omega arith))
written_short Register m v l k = omega (arith, few_digits 9 v (omega arith))
written_short Signed m v l k =
    by_test (ltb v (m / 2))
    (λ q. rw (q, signed_text) (omega (arith, few_digits 9 v (omega arith))))
    (λ q. rw (q, signed_text) (omega (arith, few_digits 9 (m - v) (omega arith))))

pub operand_short : (k : Kind) (w : ℕ) → length (operand_text k w) ≤ 12
unfolding operand_text
operand_short k w = let o = operand_at k in written_short o.style o.size (field_of o w) (field_below k w) (size_word k)

pub line_short : (w : ℕ) → length (line_of w) ≤ 42
unfolding line_of text_by
line_short w =
    let r = row_at (place_of w) in
    let x = operand_text r.first w in
    let y = operand_text r.second w in
    let z = operand_text r.third w in
    omega (
      arith,
      name_short (place_of w),
      operand_short r.first w,
      operand_short r.second w,
      operand_short r.third w,
      length-append r.name (x ++ (y ++ z)),
      length-append x (y ++ z),
      length-append y z,
    )

-- ---- a line has no newline in it

pub clean_more : (a b : List ℕ) → clean a ≡ true → clean b ≡ true → clean (a ++ b) ≡ true
clean_more [] b e f = f
clean_more (x ∷ a) b e f = rw (and_left (not (eqb x 10)) (clean a) e) (clean_more a b (and_right (not (eqb x 10)) (clean a) e) f)

digit_clean : (n : ℕ) → clean (digit n ∷ []) ≡ true
digit_clean n = rw (ne_eqb (48 + n % 10) 10 (omega arith))

decimal_clean_in : (k n : ℕ) → n ≤ k → clean (decimal n) ≡ true
decimal_clean_in zero n l = rw (one_digit n (omega arith)) (digit_clean n)
decimal_clean_in (suc k) n l =
    by_test (ltb n 10)
    (λ q. rw (one_digit n (ltb-true n 10 q)) (digit_clean n))
    (λ q.
    let p : 10 ≤ n = ltb-false n 10 q in
    rw (more_digits n p) (clean_more (decimal (n / 10)) (digit n ∷ []) (decimal_clean_in k (n / 10) (omega arith)) (digit_clean n)))

decimal_clean : (n : ℕ) → clean (decimal n) ≡ true
decimal_clean n = decimal_clean_in n n (omega arith)

written_clean : (y : Style) (m v : ℕ) → clean (written y m v) ≡ true
unfolding written signed_text
written_clean Absent m v = refl
written_clean Number m v = decimal_clean v
written_clean Register m v = decimal_clean v
written_clean Signed m v = by_test (ltb v (m / 2)) (λ q. rw (q, signed_text) (decimal_clean v)) (λ q. rw (q, signed_text) (decimal_clean (m - v)))

pub line_clean : (w : ℕ) → clean (line_of w) ≡ true
unfolding line_of text_by operand_text
line_clean w =
    let r = row_at (place_of w) in
    clean_more r.name _ (name_clean (place_of w))
    (clean_more (operand_text r.first w) _ (written_clean _ _ _) (clean_more (operand_text r.second w) (operand_text r.third w) (written_clean _ _ _) (written_clean _ _ _)))

-- ---- right lines

-- THEOREM: a word's line is right
pub right_line : (w : ℕ) → w < 2 ^ 32 → right (line_of w) ≡ true
unfolding right
right_line w l = rw (candidate_line w l, le-leb (length (line_of w)) 80 (omega (arith, line_short w))) (same_refl (line_of w))

pub candidate_word : (l : List ℕ) → candidate l < 2 ^ 32
unfolding candidate candidate_by made
candidate_word l = omega arith

-- THEOREM: a right line is the line of the word that it gives
pub right_taken : (l : List ℕ) → right l ≡ true → line_of (candidate l) ≡ l
unfolding right
right_taken l e = same_eq (line_of (candidate l)) l (and_right (leb (length l) 80) (same (line_of (candidate l)) l) e)

-- THEOREM: a line is wrong exactly if it is the line of no word
pub right_exactly : (l : List ℕ) → (right l ≡ true) ↔ ((w : ℕ) × (w < 2 ^ 32) × (line_of w ≡ l))
right_exactly l = (
  λ e. (candidate l, candidate_word l, right_taken l e),
  λ (w, b, e). subst (λ (x : List ℕ). right x ≡ true) e (right_line w b),
)
