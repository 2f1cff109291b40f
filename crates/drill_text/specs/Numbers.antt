-- Decimal numbers as bytes.
use Rattle.std.specs.Prelude.{ℕ, List, ◌++◌, length, slice_index}
use Rattle.decimal.specs.Decimals.{decimal}
use Rattle.decimal.specs.Texts.{ascii, joined}

-- a space and the number
unfoldable pub number_of : ℕ → List ℕ
number_of n = ascii " " ++ decimal n

unfoldable pub numbers_of : List ℕ → List ℕ
numbers_of words = joined (λ i. number_of (slice_index words i)) (length words)
