-- The words of a command.
use Rattle.std.specs.Prelude.{Bool, ◌&&◌, ◌||◌, Option, None, Some, List, [], ◌∷◌, ℕ, ◌+◌, ◌-◌, ◌*◌, leb}
use Rattle.dlx.specs.Choice.{when◌then◌else◌}
use Rattle.decimal.specs.Texts.{ascii, same}

unfoldable pub asks_help : List ℕ → Bool
asks_help word = same word (ascii "-h") || same word (ascii "--help")

-- ---- a number, at most so much

-- the number with the digit b behind it; none where b is no digit, or the number too large
unfoldable pub with_digit : ℕ → Option ℕ → ℕ → Option ℕ
with_digit most None b = None
with_digit most (Some n) b =
    let v = n * 10 + (b - 48) in
    when leb 48 b && leb b 57 && leb v most then Some v else None

unfoldable pub with_digits : ℕ → Option ℕ → List ℕ → Option ℕ
with_digits most n [] = n
with_digits most n (b ∷ bs) = with_digits most (with_digit most n b) bs

-- the number that a word says: it has one digit or more
unfoldable pub number_of : ℕ → List ℕ → Option ℕ
number_of most [] = None
number_of most (b ∷ bs) = with_digits most (Some 0) (b ∷ bs)
