-- A number in decimals, and one with a sign.
use Rattle.std.specs.Prelude.{true, false, List, [], ◌∷◌, ◌++◌, ℕ, zero, suc, ◌+◌, ◌-◌, ◌/◌, ◌%◌, ltb}

-- the last digit of n in ASCII
abbrev pub digit : ℕ → ℕ
digit n = 48 + n % 10

-- n in decimals, of at most k + 1 digits (unlike `if`, `elim` computes no branch but the one that applies)
unfoldable pub decimal_in : ℕ → ℕ → List ℕ
decimal_in zero n = digit n ∷ []
decimal_in (suc k) n = elim (ltb n 10) [ true ↦ digit n ∷ [] | false ↦ decimal_in k (n / 10) ++ (digit n ∷ []) ]

-- n in decimals: n + 1 digits are always enough
unfoldable pub decimal : ℕ → List ℕ
decimal n = decimal_in n n

-- a number of m values with a sign: in the upper half it stands for v - m
unfoldable pub signed_text : ℕ → ℕ → List ℕ
signed_text m v = elim (ltb v (m / 2)) [ true ↦ decimal v | false ↦ 45 ∷ decimal (m - v) ]
