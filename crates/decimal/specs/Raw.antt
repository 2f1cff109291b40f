-- Words as raw bytes.
use Rattle.std.specs.Prelude.{List, [], ◌∷◌, ◌++◌, ℕ, ◌/◌, ◌%◌, ◌^◌}

-- a word's four bytes, the lowest first
unfoldable pub low_first : ℕ → List ℕ
low_first w = w % 256 ∷ w / 256 % 256 ∷ w / 2 ^ 16 % 256 ∷ w / 2 ^ 24 ∷ []

-- the bytes of one word behind the other
unfoldable pub raw : List ℕ → List ℕ
raw [] = []
raw (w ∷ ws) = low_first w ++ raw ws
