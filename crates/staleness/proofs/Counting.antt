-- Laws of a count.
use mathlib.Core.Path.{◌≡◌, refl}
use mathlib.Core.Bool.{Bool, true, false}
use Prim.Native.Nat.{ℕ, zero, suc, ◌+◌, ◌<◌}
use native.Mathlib.Numerals.{add-one}
use native.Mathlib.Omega.{arith}
use Rattle.dlx.proofs.Tests.{by_test, by_eq}
use Rattle.staleness.specs.Audit.{count_of}

module _ (p : ℕ → Bool) where
  pub count_yes : (n : ℕ) → p n ≡ true → count_of p (n + 1) ≡ count_of p n + 1
  unfolding count_of
  count_yes n e = rw (add-one n, e) refl

  pub count_no : (n : ℕ) → p n ≡ false → count_of p (n + 1) ≡ count_of p n
  unfolding count_of
  count_no n e = rw (add-one n, e) (omega arith)

  -- none is counted exactly where it holds of none
  pub count_none : (n : ℕ) → ((k : ℕ) → k < n → p k ≡ false) → count_of p n ≡ 0
  unfolding count_of
  count_none zero h = refl
  count_none (suc n) h = rw (h n (omega arith), count_none n (λ k l. h k (omega arith))) refl

  pub count_some : (n : ℕ) → count_of p n ≡ 0 → (k : ℕ) → k < n → p k ≡ false
  unfolding count_of
  count_some zero z k l = absurd (omega arith)
  count_some (suc n) z k l =
      by_eq k n
      (λ e. rw e (by_test (p n) (λ t. absurd (omega (arith, rw t at z))) (λ t. t)))
      (λ d. count_some n (omega (arith, z)) k (omega arith))
