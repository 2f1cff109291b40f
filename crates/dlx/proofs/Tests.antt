-- Cases on tests and on equality, and elements of lists after a store: what the other proofs share.
use mathlib.Core.Path.{◌≡◌, refl, sym, ◌∙◌}
use mathlib.Core.Bool.{Bool, true, false, ◌&&◌}
use mathlib.Core.List.{List, [], ◌∷◌}
use Prim.Native.Nat.{ℕ, zero, suc, ◌<◌}
use native.Mathlib.Decide.{ℕ_discrete}
use lib.ListN.{length, get_or, set, replicate}
use lib.Seq.{get_or-set_same, get_or-set_other}
use Rattle.dlx.specs.Choice.{when◌then◌else◌}

-- a test decided either way, with its equation
pub by_test : {P : Type 0} (b : Bool) → (b ≡ true → P) → (b ≡ false → P) → P
by_test true f g = f refl
by_test false f g = g refl

-- a relation of two choices by one test, branch by branch
pub either_both : {A B : Type 0} (R : A → B → Type 0) (b : Bool) {x y : A} {x' y' : B} → (b ≡ true → R x x') → (b ≡ false → R y y') → R (when b then x else y) (when b then x' else y')
either_both R true f g = f refl
either_both R false f g = g refl

pub and_left : (b c : Bool) → (b && c) ≡ true → b ≡ true
and_left true c e = refl
and_left false c e = e

pub by_eq : {P : Type 0} (a b : ℕ) → (a ≡ b → P) → ((a ≡ b → ⊥) → P) → P
by_eq a b f g = elim (ℕ_discrete a b) [ yes q ↦ f q | no q ↦ g q ]

pub get_or_replicate_same : (m a i : ℕ) → get_or (replicate m a) i a ≡ a
get_or_replicate_same zero a i = refl
get_or_replicate_same (suc m) a zero = refl
get_or_replicate_same (suc m) a (suc i) = get_or_replicate_same m a i

pub get_or_set_default : {A : Type 0} (l : List A) (i : ℕ) (d : A) → get_or (set l i d) i d ≡ d
get_or_set_default [] i d = refl
get_or_set_default (x ∷ xs) zero d = refl
get_or_set_default (x ∷ xs) (suc i) d = get_or_set_default xs i d

-- one word stored at i of l and at i' of l', seen at j and at j'
pub set_both : (l l' : List ℕ) (i i' j j' x : ℕ) → i < length l → i' < length l' → (j ≡ i → j' ≡ i') → (j' ≡ i' → j ≡ i) → get_or l j 0 ≡ get_or l' j' 0
    → get_or (set l i x) j 0 ≡ get_or (set l' i' x) j' 0
set_both l l' i i' j j' x h h' f g e =
    by_eq j i
    (λ q. rw (q, f q, get_or-set_same l i x 0 h, get_or-set_same l' i' x 0 h'))
    (λ q. get_or-set_other l i j x 0 q ∙ e ∙ sym (get_or-set_other l' i' j' x 0 (λ q'. q (g q'))))
