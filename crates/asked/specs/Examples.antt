-- Worked examples. proofs/Checked.antt checks them by a single claim.
use Rattle.std.specs.Prelude.{ℕ, Bool, true, false, not, Ok, Err, is_err, ◌&&◌, List, [], ◌∷◌, replicate, ◌==◌}
use Rattle.std.specs.Option.{is_none, option_map_or}
use Prim.Native.String.{String}
use Rattle.decimal.specs.Texts.{ascii, same}
use Rattle.asked.specs.Words.{row_of, counted, name_length, address_of}
use Rattle.asked.specs.declared.asked.Asked.{Asked}
use Rattle.asked.specs.declared.asked.Awaits.{Awaits}
use Rattle.asked.specs.declared.asked.Awaits.TheVariants.{Partition, Frames, Image, ImageOrPartition}
use Rattle.asked.specs.Asked.{Going, going, nothing, took_words}

-- ---- frame lists, over seven places of 9, from the third on

unfoldable pub lists : String → ℕ → List ℕ → Bool
lists word n frames =
    let r = row_of 2 (replicate 7 9) (ascii word) in
    elim (counted r) [ Ok count ↦ count == n | Err so_far ↦ false ] && same r.frames frames

unfoldable pub no_list : String → Bool
no_list word = is_err (counted (row_of 2 (replicate 7 9) (ascii word)))

-- the same, with how many numbers had ended before a wrong byte
unfoldable pub no_list_behind : String → ℕ → Bool
no_list_behind word n = elim (counted (row_of 2 (replicate 7 9) (ascii word))) [ Ok count ↦ false | Err so_far ↦ option_map_or (λ k. k == n) so_far false ]

-- the same, where a number has no digit
unfoldable pub no_digit : String → Bool
no_digit word = elim (counted (row_of 2 (replicate 7 9) (ascii word))) [ Ok count ↦ false | Err so_far ↦ is_none so_far ]

-- ---- images

unfoldable pub image : String → ℕ → ℕ → Bool
image word name address =
    (name_length (ascii word) == name) && option_map_or (λ x. x == address) (address_of (ascii word)) false

unfoldable pub no_image : String → Bool
no_image word = is_none (address_of (ascii word))

-- ---- words, over four page counts, eight frames and four images

unfoldable pub texts : List String → List (List ℕ)
texts [] = []
texts (word ∷ words) = ascii word ∷ texts words

unfoldable pub asked : List String → Going
asked words = took_words (going (Ok nothing) (replicate 4 0) (replicate 8 0) (replicate 12 0)) 4 (texts words)

-- 0 `partition`; 1 its frames; 2 its first image; 3 another one, or `partition`
abbrev pub index : Awaits → ℕ
index Partition = 0
index Frames = 1
index Image = 2
index ImageOrPartition = 3

-- what the next word has to be, the partition at hand, and the frames and images so far
unfoldable pub stands : Asked → ℕ → ℕ → ℕ → ℕ → Bool
stands a next owner total images = index a.awaits == next && a.owner == owner && a.total == total && a.images == images

-- where the words stand, and the lists
unfoldable pub comes : List String → ℕ → ℕ → ℕ → ℕ → List ℕ → List ℕ → List ℕ → Bool
comes words next owner total images pages frames table =
    let g = asked words in
    elim g.asked [ Ok a ↦ stands a next owner total images | Err a ↦ false ]
    && same g.pages pages && same g.frames frames && same g.table table

unfoldable pub wrong_words : List String → Bool
wrong_words words = is_err (asked words).asked

-- the same, with where the words stood
unfoldable pub wrong_where : List String → ℕ → ℕ → ℕ → ℕ → Bool
wrong_where words next owner total images = elim (asked words).asked [ Ok a ↦ false | Err a ↦ stands a next owner total images ]

unfoldable pub words : List Bool
words =
    -- [noon: frame lists] none; one; two; leading zeros; the largest number, and one more; as many as there is room for, and one more, which counts
    lists "" 0 (9 ∷ 9 ∷ 9 ∷ 9 ∷ 9 ∷ 9 ∷ 9 ∷ [])
    ∷ lists "5" 1 (9 ∷ 9 ∷ 5 ∷ 9 ∷ 9 ∷ 9 ∷ 9 ∷ [])
    ∷ lists "15,1" 2 (9 ∷ 9 ∷ 15 ∷ 1 ∷ 9 ∷ 9 ∷ 9 ∷ [])
    ∷ lists "007,0" 2 (9 ∷ 9 ∷ 7 ∷ 0 ∷ 9 ∷ 9 ∷ 9 ∷ [])
    ∷ lists "4294967295" 1 (9 ∷ 9 ∷ 0xFFFFFFFF ∷ 9 ∷ 9 ∷ 9 ∷ 9 ∷ [])
    ∷ no_list "4294967296"
    ∷ lists "1,2,3,4,5" 5 (9 ∷ 9 ∷ 1 ∷ 2 ∷ 3 ∷ 4 ∷ 5 ∷ [])
    ∷ lists "1,2,3,4,5,6" 6 (9 ∷ 9 ∷ 1 ∷ 2 ∷ 3 ∷ 4 ∷ 5 ∷ [])
    -- a comma before, behind, alone and twice; a space, a letter, a sign, a point
    ∷ no_list ",1"
    ∷ no_list "1,"
    ∷ no_list ","
    ∷ no_list "1,,2"
    ∷ no_list "1, 2"
    ∷ no_list "1,b"
    ∷ no_list "-1"
    ∷ no_list "1.2"
    -- how many numbers had ended before a wrong byte, and numbers with no digit
    ∷ no_list_behind "7,8,4b,6" 2
    ∷ no_list_behind "b" 0
    ∷ no_digit "7,8,4,,6"
    ∷ no_digit "7,8,4,"
    -- [noon: image words] no address; one; behind the last @; no name; none behind the @, no number, one too large
    ∷ image "bridge" 6 0
    ∷ image "bridge@8" 6 8
    ∷ image "b@4@12" 3 12
    ∷ image "@16" 0 16
    ∷ image "b@4294967295" 1 0xFFFFFFFF
    ∷ no_image "b@"
    ∷ no_image "b@4@"
    ∷ no_image "b@x4"
    ∷ no_image "b@-4"
    ∷ no_image "b@4294967296"
    -- [noon: its words] partition by partition, image by image, each with the word that named it
    ∷ comes ("partition" ∷ []) 1 0 0 0 (0 ∷ 0 ∷ 0 ∷ 0 ∷ []) (replicate 8 0) (replicate 12 0)
    ∷ comes ("partition" ∷ "3,1" ∷ []) 2 0 2 0 (2 ∷ 0 ∷ 0 ∷ 0 ∷ []) (3 ∷ 1 ∷ 0 ∷ 0 ∷ 0 ∷ 0 ∷ 0 ∷ 0 ∷ []) (replicate 12 0)
    ∷ comes ("partition" ∷ "3,1" ∷ "a" ∷ "b@20" ∷ []) 3 0 2 2 (2 ∷ 0 ∷ 0 ∷ 0 ∷ []) (3 ∷ 1 ∷ 0 ∷ 0 ∷ 0 ∷ 0 ∷ 0 ∷ 0 ∷ []) (0 ∷ 0 ∷ 6 ∷ 0 ∷ 20 ∷ 7 ∷ 0 ∷ 0 ∷ 0 ∷ 0 ∷ 0 ∷ 0 ∷ [])
    ∷ comes ("partition" ∷ "3,1" ∷ "a" ∷ "partition" ∷ "2,5,4" ∷ "b@20" ∷ "partition" ∷ "7" ∷ "c@8" ∷ [])
    3
    2
    6
    3
    (2 ∷ 3 ∷ 1 ∷ 0 ∷ [])
    (3 ∷ 1 ∷ 2 ∷ 5 ∷ 4 ∷ 7 ∷ 0 ∷ 0 ∷ [])
    (0 ∷ 0 ∷ 6 ∷ 1 ∷ 20 ∷ 9 ∷ 2 ∷ 8 ∷ 12 ∷ 0 ∷ 0 ∷ 0 ∷ [])
    -- a first word that is another; a list that is none; addresses that are no multiples of 4, and one that is no number
    ∷ wrong_words ("part" ∷ [])
    ∷ wrong_words ("partition" ∷ "a" ∷ [])
    ∷ wrong_words ("partition" ∷ "3" ∷ "a@2" ∷ [])
    ∷ wrong_words ("partition" ∷ "3" ∷ "a@6" ∷ [])
    ∷ wrong_words ("partition" ∷ "3" ∷ "a@b" ∷ [])
    -- no image of a partition; in a folder it may have that name
    ∷ wrong_words ("partition" ∷ "3" ∷ "partition" ∷ [])
    ∷ not (wrong_words ("partition" ∷ "3" ∷ "./partition" ∷ []))
    -- a wrong word stays wrong
    ∷ wrong_words ("partition" ∷ "3" ∷ "a@2" ∷ "a" ∷ [])
    -- where the words stood, whatever comes behind the wrong one: at a list, and at an image
    ∷ wrong_where ("partition" ∷ "3,1,4,5" ∷ "a" ∷ "b" ∷ "partition" ∷ "9" ∷ "c" ∷ "partition" ∷ "2,b" ∷ "7" ∷ []) 1 2 5 3
    ∷ wrong_where ("partition" ∷ "3,1" ∷ "a" ∷ "partition" ∷ "2,5,4,6" ∷ "b@20" ∷ "c@8" ∷ "d@40" ∷ "e@2" ∷ "partition" ∷ []) 3 1 6 4
    -- 64 images, and one more
    ∷ not (wrong_words ("partition" ∷ "3" ∷ replicate 64 "a"))
    ∷ wrong_words ("partition" ∷ "3" ∷ replicate 65 "a")
    ∷ []

unfoldable pub all : List Bool → Bool
all [] = true
all (b ∷ bs) = b && all bs
