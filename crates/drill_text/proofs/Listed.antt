-- Laws of the words that are not 0: that there are none, and which is the last.
use Rattle.std.proofs.Common.{◌≡◌, ◌↔◌, ℕ, zero, suc, ◌+◌, ◌<◌, ◌≤◌, Bool, eqb, List, length, get_or, take, MatchOption, Option, None, Some, IsTrue, refl, sym, ◌∙◌, arith, length-take-le, eq-eqb, ne_eqb, eqb-true}
use Rattle.dlx.proofs.Kept.{either}
use Rattle.dlx.proofs.Tests.{by_eq}
use Rattle.house.proofs.Lists.Bounded.{same_test, all_at, all_from}
use Rattle.drill_text.specs.Partitions.{zeros_of, listed_to, listed_of}

pub all_zeros : (s : List ℕ) (b : Bool) → (IsTrue b ↔ ((k : ℕ) → k < length s → get_or s k 0 ≡ 0)) → b ≡ zeros_of s
unfolding zeros_of
all_zeros s b h = same_test b (zeros_of s) (λ t. all_from _ (length s) (λ k l. eq-eqb _ 0 (h.0 t k l))) (λ t. h.1 (λ k l. eqb-true _ 0 (all_at _ (length s) t k l)))

module _ (s : List ℕ) where
  abbrev Last : ℕ → Type 0
  Last i = (i < length s) × (get_or s i 0 ≡ 0 → ⊥) × ((k : ℕ) → i < k → k < length s → get_or s k 0 ≡ 0)

  up_to : (i n : ℕ) → Last i → i < n → n ≤ length s → listed_to s n ≡ i + 1
  unfolding listed_to
  up_to i zero h l m = absurd (omega arith)
  up_to i (suc n) h l m =
      by_eq n i
      (λ e. rw (ne_eqb (get_or s n 0) 0 (rw e h.1)) (omega (arith, e)))
      (λ e. rw (eq-eqb (get_or s n 0) 0 (h.2 n (omega arith) (omega arith))) (up_to i n h (omega arith) (omega arith)))

  none_to : (n : ℕ) → ((k : ℕ) → k < length s → get_or s k 0 ≡ 0) → n ≤ length s → listed_to s n ≡ 0
  unfolding listed_to
  none_to zero h m = refl
  none_to (suc n) h m = rw (eq-eqb (get_or s n 0) 0 (h n (omega arith))) (none_to n h (omega arith))

  -- so many up to the last, where there is one
  pub last_listed : (r : Option ℕ) (n : ℕ) → MatchOption r ((k : ℕ) → k < length s → get_or s k 0 ≡ 0) Last → MatchOption r (n ≡ 0) (λ i. n ≡ i + 1) → n ≡ listed_of s
  unfolding listed_of
  last_listed None n h e = e ∙ sym (none_to (length s) h (omega arith))
  last_listed (Some i) n h e = e ∙ sym (up_to i (length s) h h.0 (omega arith))

-- there are no more than there are words
listed_below : (s : List ℕ) (n : ℕ) → listed_to s n ≤ n
unfolding listed_to
listed_below s zero = omega arith
listed_below s (suc n) = either (λ x. x ≤ suc n) (eqb (get_or s n 0) 0) (λ _. omega (arith, listed_below s n)) (λ _. omega arith)

pub listed_within : (s : List ℕ) → listed_of s ≤ length s
unfolding listed_of
listed_within s = listed_below s (length s)

-- the words up to it, as they are lent: so many, and no more than there are
module _ (s : List ℕ) {n : ℕ} (e : n ≡ listed_of s) where
  pub listed_length : length (take n s) ≡ n
  listed_length = length-take-le n s (omega (arith, e, listed_within s))

  pub listed_most : length (take n s) ≤ length s
  listed_most = omega (arith, listed_length, e, listed_within s)
