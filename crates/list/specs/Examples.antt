-- Worked examples: each some bytes, and the text that they are. proofs/Checked.antt checks them by a single claim.
use Rattle.std.specs.Prelude.{List, [], ◌∷◌, ◌++◌, ℕ, replicate}
use Prim.Native.String.{String}
use Rattle.house.specs.House.{no_house}
use Rattle.house.specs.Boot.{verdict}
use Rattle.house.specs.Turns.{world}
use Rattle.house.specs.Calls.{answered}
use Rattle.lines.specs.Listings.{listing}
use Rattle.list.specs.Frame.{frame_text}
use Rattle.list.specs.Words.{words_in, no_rest, rest_behind, words_behind}

unfoldable pub texts : List (List ℕ × String)
texts =
    (listing (words_in []), "")
    ∷ (listing (words_in (5 ∷ 0 ∷ 1 ∷ 32 ∷ 8 ∷ 0 ∷ 1 ∷ 172 ∷ [])), "addi r1 r0 5\nsw r1 r0 8\n")
    -- [raw words] fewer than four bytes are no word
    ∷ (listing (words_in (4 ∷ 3 ∷ 2 ∷ 1 ∷ 7 ∷ 7 ∷ 7 ∷ [])), "word 16909060\n")
    -- cut inside a word: first nothing, then the word
    ∷ (listing (words_behind no_rest (47 ∷ 8 ∷ 67 ∷ [])), "")
    ∷ (listing (words_behind (rest_behind no_rest (47 ∷ 8 ∷ 67 ∷ [])) (0 ∷ 0 ∷ [])), "set r1 r2 r3\n")
    -- [a frame] the words of frame 1, and none of frame 0 before it
    ∷ (frame_text 1 (answered (verdict 0 0) (world no_house (replicate 1024 1 ++ (536936453 ∷ 2885746696 ∷ [])))), "addi r1 r0 5\nsw r1 r0 8\n")
    ∷ (frame_text 3 (answered (verdict 15 14) (world no_house [])), "refused 15 14\n")
    ∷ []
