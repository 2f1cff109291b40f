-- Worked examples. proofs/Checked.antt checks them by a single claim.
use Rattle.std.specs.Prelude.{Bool, true, false, not, ◌&&◌, List, [], ◌∷◌, ℕ, ◌-◌, ◌^◌, eqb}
use Rattle.std.specs.Option.{is_none, option_map_or}
use Prim.Native.String.{String}
use Rattle.decimal.specs.Texts.{ascii}
use Rattle.command.specs.Words.{asks_help, number_of}

unfoldable pub says : ℕ → String → ℕ → Bool
says most word n = option_map_or (λ v. eqb v n) (number_of most (ascii word)) false

unfoldable pub says_none : ℕ → String → Bool
says_none most word = is_none (number_of most (ascii word))

unfoldable pub words : List Bool
words =
    says (2 ^ 32 - 1) "0" 0
    ∷ says (2 ^ 32 - 1) "4096" 4096
    ∷ says (2 ^ 32 - 1) "007" 7
    -- the largest, and one more
    ∷ says (2 ^ 32 - 1) "4294967295" (2 ^ 32 - 1)
    ∷ says_none (2 ^ 32 - 1) "4294967296"
    ∷ says (2 ^ 64 - 1) "18446744073709551615" (2 ^ 64 - 1)
    ∷ says_none (2 ^ 64 - 1) "18446744073709551616"
    -- no digit; the bytes before 0 and behind 9; a sign; a space; a number in hexadecimals
    ∷ says_none (2 ^ 64 - 1) ""
    ∷ says_none (2 ^ 64 - 1) "1/2"
    ∷ says_none (2 ^ 64 - 1) "1:2"
    ∷ says_none (2 ^ 64 - 1) "-1"
    ∷ says_none (2 ^ 64 - 1) "1 "
    ∷ says_none (2 ^ 64 - 1) "0x10"
    -- help
    ∷ asks_help (ascii "-h")
    ∷ asks_help (ascii "--help")
    ∷ not (asks_help (ascii "-"))
    ∷ not (asks_help (ascii "-help"))
    ∷ []

unfoldable pub all : List Bool → Bool
all [] = true
all (b ∷ bs) = b && all bs
