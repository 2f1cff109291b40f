-- Laws of the damage check's chains: what std's `any` says of a part of a list, in the house's words.
use mathlib.Core.Path.{◌≡◌, refl, sym, ap, ◌∙◌}
use mathlib.Core.Bool.{Bool, true, false, ◌||◌}
use mathlib.Core.List.{List, [], ◌∷◌}
use Prim.Native.Nat.{ℕ, zero, suc}
use lib.ListN.{length, get_or, take}
use Rattle.std.specs.List.{list_any}
use Rattle.std.proofs.lemmas.List.{get_or-take}
use Rattle.house.specs.Lists.{any}
use Rattle.house.proofs.Lists.Bounded.{any_same}

or_swap : (a b c : Bool) → (a || (b || c)) ≡ (b || (a || c))
or_swap true true c = refl
or_swap true false c = refl
or_swap false b c = refl

any_front : (p : ℕ → Bool) (n : ℕ) → any p (suc n) ≡ (p 0 || any (λ k. p (suc k)) n)
unfolding any
any_front p zero = refl
any_front p (suc n) = ap (λ (b : Bool). p (suc n) || b) (any_front p n) ∙ or_swap (p (suc n)) (p 0) (any (λ k. p (suc k)) n)

module _ {A : Type 0} (test : A → Bool) (d : A) where
  pub any_list : (xs : List A) → list_any test xs ≡ any (λ k. test (get_or xs k d)) (length xs)
  unfolding any
  any_list [] = refl
  any_list (x ∷ xs) = ap (λ (b : Bool). test x || b) (any_list xs) ∙ sym (any_front (λ k. test (get_or (x ∷ xs) k d)) (length xs))

  -- of the first n
  pub any_first : (xs : List A) (n : ℕ) → length (take n xs) ≡ n → list_any test (take n xs) ≡ any (λ k. test (get_or xs k d)) n
  any_first xs n l =
      any_list (take n xs)
      ∙ ap (any (λ k. test (get_or (take n xs) k d))) l
      ∙ any_same (λ k. test (get_or (take n xs) k d)) (λ k. test (get_or xs k d)) n (λ k m. ap test (get_or-take n xs k d m))
