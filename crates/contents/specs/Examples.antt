-- Worked examples: the file of three partitions, whose frames 0 and 2 hold words. proofs/Checked.antt checks them by a single claim.
use Rattle.std.specs.Prelude.{Bool, true, ◌&&◌, List, [], ◌∷◌, ◌++◌, ℕ, ◌+◌, ◌*◌, take, drop, replicate}
use Rattle.decimal.specs.Texts.{same}
use Rattle.housefile.specs.Records.{File, file}
use Rattle.contents.specs.Contents.{before_frames, contents_file}

-- frame 0 has 7 in its first word and 0x01020304 in its last, frame 2 has 8 in its second
unfoldable pub memory : List ℕ
memory = (7 ∷ replicate 1022 0) ++ ((0x01020304 ∷ replicate 1025 0) ++ (8 ∷ replicate 14334 0))

unfoldable pub three : File
three = file 400 2000 (2 ∷ 1 ∷ 3 ∷ []) (15 ∷ 1 ∷ 9 ∷ 4 ∷ 5 ∷ 0x0A0B0C0D ∷ []) memory

unfoldable pub written : List ℕ
written = contents_file three

-- so many bytes from an offset on
unfoldable pub part : ℕ → ℕ → List ℕ → Bool
part at n bs = same (take n (drop at written)) bs

unfoldable pub files : List Bool
files =
    -- [contents: lists] kind 1 and a kind 2 for each partition, byte for byte
    same (before_frames 400 2000 (2 ∷ 1 ∷ 3 ∷ []) (15 ∷ 1 ∷ 9 ∷ 4 ∷ 5 ∷ 0x0A0B0C0D ∷ []))
    (8 ∷ 0 ∷ 0 ∷ 0 ∷ 1 ∷ 0 ∷ 0x90 ∷ 1 ∷ 0 ∷ 0 ∷ 0xD0 ∷ 7 ∷ 0 ∷ 0
    ∷ 8 ∷ 0 ∷ 0 ∷ 0 ∷ 2 ∷ 0 ∷ 15 ∷ 0 ∷ 0 ∷ 0 ∷ 1 ∷ 0 ∷ 0 ∷ 0
    ∷ 4 ∷ 0 ∷ 0 ∷ 0 ∷ 2 ∷ 0 ∷ 9 ∷ 0 ∷ 0 ∷ 0
    ∷ 12 ∷ 0 ∷ 0 ∷ 0 ∷ 2 ∷ 0 ∷ 4 ∷ 0 ∷ 0 ∷ 0 ∷ 5 ∷ 0 ∷ 0 ∷ 0 ∷ 0x0D ∷ 0x0C ∷ 0x0B ∷ 0x0A ∷ [])
    -- [contents: frames] all 16, from 0 upwards: head, number and first word of frames 0, 2 and 15, the last word of frame 0; kind 4, and nothing behind it
    ∷ part 56 14 (4 ∷ 16 ∷ 0 ∷ 0 ∷ 3 ∷ 0 ∷ 0 ∷ 0 ∷ 0 ∷ 0 ∷ 7 ∷ 0 ∷ 0 ∷ 0 ∷ [])
    ∷ part 4158 4 (4 ∷ 3 ∷ 2 ∷ 1 ∷ [])
    ∷ part (56 + 2 * 4106) 18 (4 ∷ 16 ∷ 0 ∷ 0 ∷ 3 ∷ 0 ∷ 2 ∷ 0 ∷ 0 ∷ 0 ∷ 0 ∷ 0 ∷ 0 ∷ 0 ∷ 8 ∷ 0 ∷ 0 ∷ 0 ∷ [])
    ∷ part (56 + 15 * 4106) 12 (4 ∷ 16 ∷ 0 ∷ 0 ∷ 3 ∷ 0 ∷ 15 ∷ 0 ∷ 0 ∷ 0 ∷ 0 ∷ 0 ∷ [])
    ∷ part (56 + 16 * 4106) 9 (0 ∷ 0 ∷ 0 ∷ 0 ∷ 4 ∷ 0 ∷ [])
    ∷ []

unfoldable pub all : List Bool → Bool
all [] = true
all (b ∷ bs) = b && all bs
