-- A word byte by byte.
use mathlib.Core.Path.{◌≡◌, refl}
use mathlib.Core.Bool.{Bool, true, false, ◌&&◌, ◌||◌}
use mathlib.Core.List.{List, [], ◌∷◌}
use Prim.Native.Nat.{ℕ, suc, ◌+◌, ◌-◌, ◌*◌, ◌<◌, ◌≤◌}
use native.Mathlib.Numerals.{add-one}
use native.Mathlib.Omega.{arith}
use borrow.Author.Tests.{lt-leb, le-leb, leb-true}
use lib.Dec.{leb}
use lib.ListN.{length, get_or, drop, drop_of_length-le}
use lib.Seq.{drop-cons}
use Rattle.dlx.proofs.Kept.{either}
use Rattle.decimal.proofs.Same.{and_right}
use Rattle.std.proofs.Common.{Option, None, Some, IfSome}
use Rattle.command.specs.Words.{with_digit, with_digits, number_of}

-- ---- one of two

pub either_yes : {a : Bool} (b : Bool) → a ≡ true → true ≡ a || b
either_yes b e = rw e

pub either_no : {a b r : Bool} → a ≡ false → r ≡ b → r ≡ a || b
either_no e f = rw e f

-- ---- one digit more

module _ (most : ℕ) (n : Option ℕ) (b : ℕ) where
  pub digit_none : n ≡ None → None ≡ with_digit most n b
  unfolding with_digit
  digit_none e = rw e

  pub digit_over : (v : ℕ) → n ≡ Some v → (leb 48 b && leb b 57) ≡ true → most < v * 10 + (b - 48) → None ≡ with_digit most n b
  unfolding with_digit
  digit_over v e d o = simp (e, d, lt-leb (v * 10 + (b - 48)) most o)

  pub digit_in : (v x : ℕ) → n ≡ Some v → (leb 48 b && leb b 57) ≡ true → x ≡ v * 10 + (b - 48) → x ≤ most → Some x ≡ with_digit most n b
  unfolding with_digit
  digit_in v x e d i o = simp (e, d, ← i, le-leb x most o)

pub digit_other : (most : ℕ) (n : Option ℕ) (b : ℕ) → (leb 48 b && leb b 57) ≡ false → None ≡ with_digit most n b
unfolding with_digit
digit_other most None b e = refl
digit_other most (Some n) b e = simp e

-- ---- a word's digits: what is left from here is what was to read from the start

pub digits_on : (most : ℕ) (n n' t : Option ℕ) (word : List ℕ) (i : ℕ) → i < length word → with_digits most n (drop i word) ≡ t → n' ≡ with_digit most n (get_or word i 0)
    → with_digits most n' (drop (i + 1) word) ≡ t
unfolding with_digits
digits_on most n n' t word i l e f = rw (add-one i, f) (rw (drop-cons word i 0 l) at e)

pub digits_done : (most : ℕ) (n t : Option ℕ) (word : List ℕ) (i : ℕ) → length word ≤ i → with_digits most n (drop i word) ≡ t → n ≡ t
unfolding with_digits
digits_done most n t word i l e = rw (drop_of_length-le word l) at e

pub none_empty : (most : ℕ) (word : List ℕ) → length word ≡ 0 → None ≡ number_of most word
unfolding number_of
none_empty most [] e = refl
none_empty most (b ∷ bs) e = absurd (let l : suc (length bs) ≡ 0 = e in omega arith)

pub number_some : (most : ℕ) (n : Option ℕ) (word : List ℕ) → (length word ≡ 0 → ⊥) → n ≡ with_digits most (Some 0) word → n ≡ number_of most word
unfolding number_of
number_some most n [] z e = absurd (z refl)
number_some most n (b ∷ bs) z e = e
