-- Marks: 0 for a frame that has no owner, else its owner's tag.
use Rattle.std.specs.Prelude.{Bool, not, ◌||◌, List, ℕ, zero, suc, eqb, get_or, set}
use Rattle.house.specs.Lists.{first_from}
use Rattle.house.specs.Damage.{stands}

-- the first k frames of a list, marked
unfoldable pub marked : List ℕ → ℕ → List ℕ → ℕ → List ℕ
marked fr tag o zero = o
marked fr tag o (suc k) = set (marked fr tag o k) (get_or fr k 0) tag

-- the k-th frame stands before it in its list, or has an owner
abbrev pub twice_marked : List ℕ → List ℕ → ℕ → Bool
twice_marked o fr k = stands fr k (get_or fr k 0) || not (eqb (get_or o (get_or fr k 0) 0) 0)

-- the first such position of n, or n: marking ends there
abbrev pub first_twice : List ℕ → List ℕ → ℕ → ℕ
first_twice o fr n = first_from (twice_marked o fr) 0 n
