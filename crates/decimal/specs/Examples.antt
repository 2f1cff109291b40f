-- Worked examples: each some bytes, and the text that they are. proofs/Checked.antt checks them by a single claim.
use Rattle.std.specs.Prelude.{Bool, true, ◌&&◌, List, [], ◌∷◌, ℕ, ◌-◌, ◌^◌}
use Prim.Native.String.{String}
use Rattle.decimal.specs.Decimals.{decimal, signed_text}
use Rattle.decimal.specs.Texts.{ascii, same}

unfoldable pub all : List (List ℕ × String) → Bool
all [] = true
all ((bytes, text) ∷ rest) = same bytes (ascii text) && all rest

unfoldable pub numbers : List (List ℕ × String)
numbers =
    (decimal 0, "0")
    ∷ (decimal 9, "9")
    ∷ (decimal 10, "10")
    ∷ (decimal 1007, "1007")
    ∷ (decimal (2 ^ 64 - 1), "18446744073709551615")
    -- [a word with its sign] 0, the largest, the smallest and -1, and half a byte's
    ∷ (signed_text (2 ^ 32) 0, "0")
    ∷ (signed_text (2 ^ 32) (2 ^ 31 - 1), "2147483647")
    ∷ (signed_text (2 ^ 32) (2 ^ 31), "-2147483648")
    ∷ (signed_text (2 ^ 32) (2 ^ 32 - 1), "-1")
    ∷ (signed_text (2 ^ 8) 128, "-128")
    ∷ []
