-- Worked examples: a text read byte by byte, in two pieces. proofs/Checked.antt checks them by a single claim.
use Rattle.std.specs.Prelude.{ℕ, ◌-◌, ◌^◌, Bool, true, false, not, ◌&&◌, List, [], ◌∷◌, ◌++◌, replicate, ◌==◌, Option, Some, None}
use Rattle.decimal.specs.Texts.{ascii, same}
use Rattle.texts.specs.Numbers.{bared, right_by, word_by}
use Rattle.texts.specs.Reading.{going, fed, finished}

-- the number of the wrong line, 0 for none
abbrev pub wrong_number : Option ℕ → ℕ
wrong_number (Some n) = n
wrong_number None = 0

-- the lines, the wrong one, the line at hand and the words, over an output of three words, each 9
unfoldable pub comes : Bool → List ℕ → List ℕ → ℕ → ℕ → List ℕ → List ℕ → Bool
comes d a b n w l ws =
    let g = finished d (fed d (fed d (going [] 0 None (replicate 3 9)) a) b) in
    (g.lines == n) && wrong_number g.wrong == w && same g.line l && same g.words ws

unfoldable pub texts : List Bool
texts =
    comes false [] [] 0 0 [] (9 ∷ 9 ∷ 9 ∷ [])
    -- [texts in pieces] cut inside a line, and a last line without a newline
    ∷ comes false (ascii "rfe\njr") (ascii " r1") 2 0 [] (4227858432 ∷ 1478492160 ∷ 9 ∷ [])
    ∷ comes false (ascii "rfe\njr") (ascii " r1\n") 2 0 [] (4227858432 ∷ 1478492160 ∷ 9 ∷ [])
    -- the first wrong line stays, and nothing behind it is looked at
    ∷ comes false (ascii "rfe\njr r32") (ascii "\nrfe\nnop\n") 2 2 (ascii "jr r32") (4227858432 ∷ 9 ∷ 9 ∷ [])
    -- of a line that is too long 81 bytes stay
    ∷ comes false (replicate 80 114) (replicate 9 114) 1 1 (replicate 81 114) (9 ∷ 9 ∷ 9 ∷ [])
    -- words without room are counted
    ∷ comes false (ascii "rfe\nword 1\nword 2\n") (ascii "word 3\n") 4 0 [] (4227858432 ∷ 1 ∷ 2 ∷ [])
    ∷ []

-- ---- words in decimals

-- a line says this word, or none
unfoldable pub says : List ℕ → ℕ → Bool
says l w = let k = bared true l in right_by true k && word_by true k == w

unfoldable pub says_none : List ℕ → Bool
says_none l = not (right_by true (bared true l))

unfoldable pub numbers : List Bool
numbers =
    -- [a word with a minus] as much below 2 ^ 32, down to -2147483648
    says (ascii "-1") (2 ^ 32 - 1)
    ∷ says (ascii "-2147483648") (2 ^ 31)
    ∷ says_none (ascii "-2147483649")
    -- [a word without a minus] up to 4294967295
    ∷ says (ascii "0") 0
    ∷ says (ascii "2147483648") (2 ^ 31)
    ∷ says (ascii "4294967295") (2 ^ 32 - 1)
    ∷ says_none (ascii "4294967296")
    -- [zeros before a word] change nothing, and -0 is 0
    ∷ says (ascii "007") 7
    ∷ says (ascii "-0") 0
    ∷ says (ascii "-001") (2 ^ 32 - 1)
    -- [no digit] an empty line, and a lone minus
    ∷ says_none []
    ∷ says_none (ascii "-")
    -- [anything else on a line] a second minus or a later one, a plus, a blank, a return, a NUL, hexadecimals; the bytes before 0 and behind 9
    ∷ says_none (ascii "--1")
    ∷ says_none (ascii "1-")
    ∷ says_none (ascii "+1")
    ∷ says_none (ascii " 1")
    ∷ says_none (ascii "1 ")
    ∷ says_none (ascii "- 1")
    ∷ says_none (49 ∷ 13 ∷ [])
    ∷ says_none (49 ∷ 0 ∷ [])
    ∷ says_none (ascii "0x10")
    ∷ says_none (ascii "1/")
    ∷ says_none (ascii ":1")
    -- [a long line] 89 zeros and a number, with a minus and without; 89 digits that are no zeros; 89 zeros and something else
    ∷ says (replicate 89 48 ++ (55 ∷ [])) 7
    ∷ says (45 ∷ replicate 89 48 ++ (55 ∷ [])) (2 ^ 32 - 7)
    ∷ says (replicate 89 48) 0
    ∷ says_none (replicate 89 49)
    ∷ says_none (replicate 89 48 ++ (45 ∷ []))
    ∷ says_none (replicate 89 48 ++ ascii "4294967296")
    ∷ says_none (48 ∷ 45 ∷ replicate 89 48)
    ∷ []

-- [texts of numbers] cut inside a line, with and without the last newline; an empty line; an instruction; 89 zeros before a number; 89 other digits; more than there is room for
unfoldable pub in_decimals : List Bool
in_decimals =
    comes true [] [] 0 0 [] (9 ∷ 9 ∷ 9 ∷ [])
    ∷ comes true (ascii "11800\n-") (ascii "1") 2 0 [] (11800 ∷ (2 ^ 32 - 1) ∷ 9 ∷ [])
    ∷ comes true (ascii "11800\n-") (ascii "1\n") 2 0 [] (11800 ∷ (2 ^ 32 - 1) ∷ 9 ∷ [])
    ∷ comes true (ascii "1\n") (ascii "\n2\n") 2 2 [] (1 ∷ 9 ∷ 9 ∷ [])
    ∷ comes true (ascii "1\nrf") (ascii "e\n2\n-\n") 2 2 (ascii "rfe") (1 ∷ 9 ∷ 9 ∷ [])
    ∷ comes true (replicate 80 48) (replicate 9 48 ++ ascii "7\n-0") 2 0 [] (7 ∷ 0 ∷ 9 ∷ [])
    ∷ comes true (replicate 80 49) (replicate 9 49) 1 1 (replicate 81 49) (9 ∷ 9 ∷ 9 ∷ [])
    ∷ comes true (ascii "1\n2\n3\n") (ascii "4\n") 4 0 [] (1 ∷ 2 ∷ 3 ∷ [])
    ∷ []

unfoldable pub all : List Bool → Bool
all [] = true
all (b ∷ bs) = b && all bs
