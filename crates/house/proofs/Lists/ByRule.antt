-- Laws of the search for the first, and of lists by a rule.
use mathlib.Core.Path.{◌≡◌, refl, sym, ap, subst, ◌∙◌}
use mathlib.Core.Bool.{Bool, true, false}
use mathlib.Core.List.{◌∷◌}
use Prim.Native.Nat.{ℕ, zero, suc, ◌+◌, ◌<◌, ◌≤◌}
use native.Mathlib.Omega.{arith}
use borrow.Author.Tests.{lt-ltb, le-ltb}
use lib.Dec.{ltb}
use lib.ListN.{length, get_or, set, replicate, length-set}
use lib.Seq.{ext_get_or, get_or-set_same, get_or-set_other}
use Rattle.dlx.proofs.Kept.{either}
use Rattle.dlx.proofs.Tests.{by_test, by_eq}
use Rattle.house.specs.Lists.{list_from, any, first_from}
use Rattle.house.proofs.Lists.Bounded.{any_at, any_none}

-- ---- the first

module _ (p : ℕ → Bool) where
  first_from_lem : (k n i : ℕ) → k ≤ i → i < k + n → ((j : ℕ) → k ≤ j → j < i → p j ≡ false) → p i ≡ true → first_from p k n ≡ i
  unfolding first_from
  first_from_lem k zero i l b h f = absurd (omega arith)
  first_from_lem k (suc n) i l b h f =
      by_eq i k
      (λ e. rw (subst (λ (x : ℕ). p x ≡ true) e f) (sym e))
      (λ e. rw (h k (omega arith) (omega arith)) (first_from_lem (suc k) n i (omega arith) (omega arith) (λ j a. h j (omega arith)) f))

  none_from : (k n : ℕ) → ((j : ℕ) → k ≤ j → j < k + n → p j ≡ false) → first_from p k n ≡ k + n
  unfolding first_from
  none_from k zero h = omega arith
  none_from k (suc n) h =
      let q : suc k + n ≡ k + suc n = omega arith in
      rw (h k (omega arith) (omega arith)) (none_from (suc k) n (λ j a b. h j (omega arith) (omega arith)) ∙ q)

  first_most : (k n i : ℕ) → k ≤ i → i < k + n → p i ≡ true → first_from p k n ≤ i
  unfolding first_from
  first_most k zero i l b f = absurd (omega arith)
  first_most k (suc n) i l b f =
      either (λ x. x ≤ i) (p k)
      (λ _. l)
      (λ e. by_eq i k
      (λ q. absurd (let t = subst (λ (x : ℕ). p x ≡ true) q f in let y : ◌≡◌ {A = ℕ} 0 1 = cc in omega arith))
      (λ q. first_most (suc k) n i (omega arith) (omega arith) f))

  -- the two ways out of a loop that looks for the first
  pub first_is : (n i : ℕ) → any p i ≡ false → i < n → p i ≡ true → first_from p 0 n ≡ i
  first_is n i e l f = first_from_lem 0 n i (omega arith) (omega arith) (λ j _ b. any_none p i e j b) f

  pub first_none : (n : ℕ) → any p n ≡ false → first_from p 0 n ≡ n
  first_none n e = none_from 0 n (λ j _ b. any_none p n e j (omega arith)) ∙ omega arith

  -- one search gives both the test and the detail
  pub any_first : (n : ℕ) → any p n ≡ ltb (first_from p 0 n) n
  any_first n =
      by_test (any p n)
      (λ e. let r = any_at p n e in rw e (sym (lt-ltb (first_from p 0 n) n (omega (arith, r.1, first_most 0 n r.0 (omega arith) (omega (arith, r.1)) r.2)))))
      (λ e. rw e (sym (le-ltb (first_from p 0 n) n (omega (arith, first_none n e)))))

  pub any_found : (n r : ℕ) → r ≡ first_from p 0 n → r < n → any p n ≡ true
  any_found n r e l = any_first n ∙ lt-ltb (first_from p 0 n) n (omega arith)

  pub any_missed : (n r : ℕ) → r ≡ first_from p 0 n → n ≤ r → any p n ≡ false
  any_missed n r e l = any_first n ∙ le-ltb (first_from p 0 n) n (omega arith)

-- ---- lists by a rule

module _ {A : Type 0} where
  pub length_list_from : (f : ℕ → A) (k n : ℕ) → length (list_from f k n) ≡ n
  unfolding list_from
  length_list_from f k zero = refl
  length_list_from f k (suc n) = ap suc (length_list_from f (suc k) n)

  pub get_or_list_from : (f : ℕ → A) (d : A) (k n i : ℕ) → i < n → get_or (list_from f k n) i d ≡ f (k + i)
  unfolding list_from
  get_or_list_from f d k zero i l = absurd (omega arith)
  get_or_list_from f d k (suc n) zero l = ap f (omega arith)
  get_or_list_from f d k (suc n) (suc i) l = get_or_list_from f d (suc k) n i (omega arith) ∙ ap f (omega arith)

  pub list_from_at : (f : ℕ → A) (d : A) (n i : ℕ) → i < n → get_or (list_from f 0 n) i d ≡ f i
  list_from_at f d n i l = get_or_list_from f d 0 n i l ∙ ap f (omega arith)

  pub list_from_same : (f g : ℕ → A) (k n : ℕ) → ((i : ℕ) → i < k + n → f i ≡ g i) → list_from f k n ≡ list_from g k n
  unfolding list_from
  list_from_same f g k zero h = refl
  list_from_same f g k (suc n) h = rw (h k (omega arith), list_from_same f g (suc k) n (λ i l. h i (omega arith)))

  pub list_from_replicate : (d : A) (k n : ℕ) → list_from (λ _. d) k n ≡ replicate n d
  unfolding list_from
  list_from_replicate d k zero = refl
  list_from_replicate d k (suc n) = ap (λ l. d ∷ l) (list_from_replicate d (suc k) n)

  -- one element set, where the rules differ there alone
  pub set_list_from : (f g : ℕ → A) (n i : ℕ) → ((j : ℕ) → (j ≡ i → ⊥) → f j ≡ g j) → i < n → set (list_from f 0 n) i (g i) ≡ list_from g 0 n
  set_list_from f g n i h l =
      ext_get_or (g i) _ _ (length-set (list_from f 0 n) i (g i) ∙ length_list_from f 0 n ∙ sym (length_list_from g 0 n)) λ j b.
      let m : j < n = omega (arith, length-set (list_from f 0 n) i (g i), length_list_from f 0 n) in
      let z : 0 + j ≡ j = omega arith in
      let t = get_or_list_from g (g i) 0 n j m ∙ ap g z in
      by_eq j i
      (λ e. ap (λ (x : ℕ). get_or (set (list_from f 0 n) i (g i)) x (g i)) e ∙ get_or-set_same (list_from f 0 n) i (g i) (g i) (omega (arith, length_list_from f 0 n)) ∙ ap g (sym e) ∙ sym t)
      (λ e. get_or-set_other (list_from f 0 n) i j (g i) (g i) e ∙ get_or_list_from f (g i) 0 n j m ∙ ap f z ∙ h j e ∙ sym t)
