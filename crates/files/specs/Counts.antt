-- How many bytes a read brought, and where a text ends in a buffer.
use Rattle.std.specs.Prelude.{◌≡◌, ℕ, ◌≤◌, min, List, length, take, ℤ, pos, negsuc}

-- `&xs[..n]` is in bounds and has n bytes
abbrev pub IsPrefixLen : ℕ → List ℕ → Type 0
IsPrefixLen n xs = (n ≤ length xs) × (n ≡ length (take n xs))

-- what a read answered, brought into `0..=most`
abbrev pub clamp_len : ℤ → ℕ → ℕ
clamp_len (pos k) most = min k most
clamp_len (negsuc k) most = 0

-- what a read into a buffer of n bytes may answer: how many bytes it brought, at most n; or -1, where it failed
abbrev pub Moved : ℕ → ℤ → Type 0
Moved n (pos k) = k ≤ n
Moved n (negsuc k) = k ≡ 0
