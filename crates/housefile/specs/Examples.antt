-- House files and what they are.
use Rattle.std.specs.Prelude.{ℕ, zero, suc, ◌/◌, ◌%◌, ◌^◌, Bool, true, false, ◌&&◌, List, [], ◌∷◌, ◌++◌, length, take, replicate, ◌==◌, slice_index}
use Rattle.housefile.specs.Records.{Reading, wrong, right, verdict_of, reading_of}
use Rattle.housefile.specs.Reader.{no_read, fed, answer_of}

-- ---- files

-- a word's four bytes
unfoldable pub bytes : ℕ → List ℕ
bytes w = w % 256 ∷ w / 256 % 256 ∷ w / 2 ^ 16 % 256 ∷ w / 2 ^ 24 ∷ []

unfoldable pub words : List ℕ → List ℕ
words [] = []
words (w ∷ ws) = bytes w ++ words ws

unfoldable pub times : ℕ → List ℕ → List ℕ
times zero bs = []
times (suc n) bs = bs ++ times n bs

-- a record of a kind and a body
unfoldable pub made : ℕ → List ℕ → List ℕ
made kind body = bytes (length body) ++ (kind % 256 ∷ kind / 256 ∷ body)

-- q 2 and 3 steps
unfoldable pub turns : List ℕ
turns = made 1 (words (2 ∷ 3 ∷ []))

unfoldable pub list : List ℕ → List ℕ
list frames = made 2 (words frames)

-- frame i: its first word, and the others
unfoldable pub frame : ℕ → ℕ → ℕ → List ℕ
frame i first other = made 3 (bytes i ++ words (first ∷ replicate 1023 other))

unfoldable pub end : List ℕ
end = made 4 []

-- ---- what a reading is

-- 15, at an offset
unfoldable pub is_wrong : ℕ → Reading → Bool
is_wrong at a = (verdict_of a).number == 15 && (verdict_of a).detail == at

unfoldable pub same : List ℕ → List ℕ → Bool
same [] [] = true
same [] (y ∷ ys) = false
same (x ∷ xs) [] = false
same (x ∷ xs) (y ∷ ys) = x == y && same xs ys

-- turns of 2 steps, a run of 3, these page counts and frames, and of the memory what p says
unfoldable pub is_right : List ℕ → List ℕ → (List ℕ → Bool) → Reading → Bool
is_right pages frames p (wrong at) = false
is_right pages frames p (right f) = f.q == 2 && f.run == 3 && same f.pages pages && same f.frames frames && p f.memory

unfoldable pub word : ℕ → ℕ → List ℕ → Bool
word i w memory = slice_index memory i == w

-- read as a whole, and byte by byte
unfoldable pub both : (Reading → Bool) → List ℕ → Bool
both p bs = p (reading_of bs) && p (answer_of (fed no_read bs))

unfoldable pub wrong_at : ℕ → List ℕ → Bool
wrong_at at = both (is_wrong at)

unfoldable pub says : List ℕ → List ℕ → List ℕ → Bool
says pages frames = both (is_right pages frames (word 0 0))

-- ---- the examples

unfoldable pub files : List Bool
files =
    -- a list; two; an empty one and one that names frame 0, which are boot's to refuse; one of 256 frames; eight lists
    says (1 ∷ []) (1 ∷ []) (turns ++ (list (1 ∷ []) ++ end))
    ∷ says (1 ∷ 2 ∷ []) (5 ∷ 0xFFFFFFFF ∷ 0x04030201 ∷ []) (turns ++ (list (5 ∷ []) ++ (list (0xFFFFFFFF ∷ 0x04030201 ∷ []) ++ end)))
    ∷ says (0 ∷ []) [] (turns ++ (list [] ++ end))
    ∷ says (2 ∷ []) (0 ∷ 3 ∷ []) (turns ++ (list (0 ∷ 3 ∷ []) ++ end))
    ∷ says (256 ∷ []) (replicate 256 9) (turns ++ (list (replicate 256 9) ++ end))
    ∷ says (replicate 8 1) (replicate 8 9) (turns ++ (times 8 (list (9 ∷ [])) ++ end))
    -- a ninth list
    ∷ wrong_at 94 (turns ++ (times 9 (list (9 ∷ [])) ++ end))
    -- a list of 1,028 bytes, and one of 6
    ∷ wrong_at 14 (turns ++ (list (replicate 257 9) ++ end))
    ∷ wrong_at 14 (turns ++ (made 2 (replicate 6 0) ++ end))
    -- an empty file; a header cut short; a body cut short; an end before kind 4
    ∷ wrong_at 0 []
    ∷ wrong_at 24 (turns ++ (list (1 ∷ []) ++ take 5 end))
    ∷ wrong_at 24 (turns ++ (list (1 ∷ []) ++ take 13 (list (1 ∷ 2 ∷ []))))
    ∷ wrong_at 24 (turns ++ list (1 ∷ []))
    -- a byte after kind 4
    ∷ wrong_at 30 (turns ++ (list (1 ∷ []) ++ (end ++ (0 ∷ []))))
    -- no kind 1; two; no kind 2; a kind 3 before it
    ∷ wrong_at 0 (list (1 ∷ []) ++ end)
    ∷ wrong_at 14 (turns ++ (turns ++ (list (1 ∷ []) ++ end)))
    ∷ wrong_at 14 (turns ++ end)
    ∷ wrong_at 14 (turns ++ (frame 0 1 1 ++ (list (1 ∷ []) ++ end)))
    -- a kind 1 of 12 bytes; a kind 4 of one; kinds 0, 5 and 257
    ∷ wrong_at 0 (made 1 (words (2 ∷ 3 ∷ 4 ∷ [])) ++ (list (1 ∷ []) ++ end))
    ∷ wrong_at 24 (turns ++ (list (1 ∷ []) ++ made 4 (0 ∷ [])))
    ∷ wrong_at 24 (turns ++ (list (1 ∷ []) ++ (made 0 [] ++ end)))
    ∷ wrong_at 24 (turns ++ (list (1 ∷ []) ++ (made 5 [] ++ end)))
    ∷ wrong_at 0 (made 257 (words (2 ∷ 3 ∷ [])) ++ (list (1 ∷ []) ++ end))
    -- frame 16; a frame of 4,096 bytes
    ∷ wrong_at 24 (turns ++ (list (1 ∷ []) ++ (frame 16 1 1 ++ end)))
    ∷ wrong_at 24 (turns ++ (list (1 ∷ []) ++ (made 3 (replicate 4096 0) ++ end)))
    -- frame 0 may be filled, and a later frame replaces (as a whole only: `reads` says that byte by byte gives the same)
    ∷ is_right (1 ∷ []) (1 ∷ []) (λ m. word 0 8 m && word 1 9 m && word 1023 9 m && word 1024 0 m) (reading_of (turns ++ (list (1 ∷ []) ++ (frame 0 7 7 ++ (frame 0 8 9 ++ end)))))
    -- frame 15 is the last; a list after a frame
    ∷ is_right (1 ∷ []) (1 ∷ []) (λ m. word 15359 0 m && word 15360 3 m && word 16383 4 m) (reading_of (turns ++ (list (1 ∷ []) ++ (frame 15 3 4 ++ end))))
    ∷ is_wrong 4130 (reading_of (turns ++ (list (1 ∷ []) ++ (frame 15 3 4 ++ (list (1 ∷ []) ++ end)))))
    ∷ []

unfoldable pub all : List Bool → Bool
all [] = true
all (b ∷ bs) = b && all bs
