-- What a line is: a word in decimals, or an instruction of a listing.
use Rattle.std.specs.Prelude.{ℕ, ◌-◌, ◌%◌, ◌^◌, Bool, true, false, ◌&&◌, ◌||◌, Option, None, is_some, option_map, unwrap_or, List, [], ◌∷◌, ◌++◌, length, ◌==◌, nat_le}
use Rattle.dlx.specs.Choice.{when◌then◌else◌}
use Rattle.decimal.specs.Texts.{ascii, same}
use Rattle.command.specs.Words.{number_of}
use Rattle.lines.specs.Lines.{candidate, right}

-- the word of a number with a minus before it: as much below 2 ^ 32
unfoldable pub negated : Option ℕ → Option ℕ
negated n = option_map (λ v. (2 ^ 32 - v) % 2 ^ 32) n

-- the word that a line says: a decimal below 2 ^ 32, or a minus and one of at most 2 ^ 31
unfoldable pub word_said : List ℕ → Option ℕ
word_said [] = None
word_said (b ∷ bs) = when b == 45 then negated (number_of (2 ^ 31) bs) else number_of (2 ^ 32 - 1) (b ∷ bs)

-- ---- zeros before a word, however many: behind a line's first zero, and before any other byte, a zero tells nothing

unfoldable pub idle : Bool → List ℕ → ℕ → Bool
idle true l b = b == 48 && (same l (ascii "0") || same l (ascii "-0"))
idle false l b = false

-- a line without them; its beginning, k, has none
unfoldable pub bared_from : Bool → List ℕ → List ℕ → List ℕ
bared_from d k [] = k
bared_from d k (b ∷ bs) = bared_from d (when idle d k b then k else k ++ (b ∷ [])) bs

abbrev pub bared : Bool → List ℕ → List ℕ
bared d l = bared_from d [] l

-- ---- a line without them is right, where words are asked for in decimals, or instructions
unfoldable pub right_by : Bool → List ℕ → Bool
right_by true l = nat_le (length l) 80 && is_some (word_said l)
right_by false l = right l

-- and its word
unfoldable pub word_by : Bool → List ℕ → ℕ
word_by true l = unwrap_or (word_said l) 0
word_by false l = candidate l
