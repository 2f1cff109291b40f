-- Lists by a rule, and searches with a bound.
use Rattle.std.specs.Prelude.{Bool, true, false, ◌&&◌, ◌||◌, List, [], ◌∷◌, ℕ, zero, suc, leb}
use Rattle.dlx.specs.Choice.{when◌then◌else◌}

-- f k, f (k + 1) and on, n of them
unfoldable pub list_from : {A : Type 0} → (ℕ → A) → ℕ → ℕ → List A
list_from f k zero = []
list_from f k (suc n) = f k ∷ list_from f (suc k) n

-- p holds of every number below n, or of some
unfoldable pub all : (ℕ → Bool) → ℕ → Bool
all p zero = true
all p (suc n) = p n && all p n

unfoldable pub any : (ℕ → Bool) → ℕ → Bool
any p zero = false
any p (suc n) = p n || any p n

-- the first of the n numbers from k on of which p holds
unfoldable pub first_from : (ℕ → Bool) → ℕ → ℕ → ℕ
first_from p k zero = k
first_from p k (suc n) = when p k then k else first_from p (suc k) n

abbrev pub between : ℕ → ℕ → ℕ → Bool
between a n b = leb a n && leb n b
