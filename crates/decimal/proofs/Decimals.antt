-- A number in decimals, digit by digit, and how many digits it has.
use mathlib.Core.Path.{◌≡◌, refl}
use mathlib.Core.Bool.{Bool, true, false}
use mathlib.Core.List.{[], ◌∷◌, ◌++◌}
use Prim.Native.Nat.{ℕ, zero, suc, ◌+◌, ◌/◌, ◌^◌, ◌<◌, ◌≤◌}
use native.Mathlib.Nat.{pow-suc}
use native.Mathlib.Omega.{arith}
use borrow.Author.Tests.{lt-ltb, le-ltb, ltb-true, ltb-false}
use lib.Dec.{ltb}
use lib.ListN.{length, length-append}
use Rattle.decimal.specs.Decimals.{digit, decimal_in, decimal}

-- a test decided either way, with its equation
pub by_test : {P : Type 0} (b : Bool) → (b ≡ true → P) → (b ≡ false → P) → P
by_test true f g = f refl
by_test false f g = g refl

one_in : (k n : ℕ) → n < 10 → decimal_in k n ≡ digit n ∷ []
unfolding decimal_in
one_in zero n l = refl
one_in (suc k) n l = rw (lt-ltb n 10 l, decimal_in)

more_in : (k n : ℕ) → 10 ≤ n → decimal_in (suc k) n ≡ decimal_in k (n / 10) ++ (digit n ∷ [])
unfolding decimal_in
more_in k n l = rw (le-ltb n 10 l, decimal_in)

-- any bound will do that is large enough
any_bound : (k j n : ℕ) → n ≤ k → n ≤ j → decimal_in k n ≡ decimal_in j n
any_bound zero j n p q = rw (one_in zero n (omega arith), one_in j n (omega arith))
any_bound (suc k) zero n p q = rw (one_in (suc k) n (omega arith), one_in zero n (omega arith))
any_bound (suc k) (suc j) n p q =
    by_test (ltb n 10)
    (λ e. let l = ltb-true n 10 e in rw (one_in (suc k) n l, one_in (suc j) n l))
    (λ e.
    let l = ltb-false n 10 e in
    rw (more_in k n l, more_in j n l, any_bound k j (n / 10) (omega arith) (omega arith)))

pub one_digit : (n : ℕ) → n < 10 → decimal n ≡ digit n ∷ []
unfolding decimal
one_digit n l = one_in n n l

pub more_digits : (n : ℕ) → 10 ≤ n → decimal n ≡ decimal (n / 10) ++ (digit n ∷ [])
unfolding decimal
more_digits zero l = absurd (omega arith)
more_digits (suc n) l = rw (more_in n (suc n) l, any_bound n (suc n / 10) (suc n / 10) (omega arith) (omega arith))

one_length : (n : ℕ) → n < 10 → length (decimal n) ≡ 1
one_length n l = rw (one_digit n l)

more_length : (n : ℕ) → 10 ≤ n → length (decimal n) ≡ length (decimal (n / 10)) + 1
more_length n l = rw (more_digits n l) (length-append (decimal (n / 10)) (digit n ∷ []))

-- a number below 10 ^ (k + 1) has at most k + 1 digits
pub few_digits : (k n : ℕ) → n < 10 ^ suc k → length (decimal n) ≤ suc k
few_digits zero n l = omega (arith, one_length n l)
few_digits (suc k) n l =
    by_test (ltb n 10)
    (λ e. omega (arith, one_length n (ltb-true n 10 e)))
    (λ e. omega (arith, few_digits k (n / 10) (omega (arith, pow-suc 10 (suc k), ltb-false n 10 e)), more_length n (ltb-false n 10 e)))
