-- Worked examples. proofs/Checked.antt checks them by a single claim.
use Rattle.std.specs.Prelude.{ℕ, ◌+◌, ◌*◌, Bool, true, ◌&&◌, Option, None, Some, List, [], ◌∷◌, replicate, ◌==◌, slice_index}
use Rattle.decimal.specs.Texts.{ascii, same}
use Rattle.laying.specs.Laid.{laid_words, sum_words, count_of, fault_of, memory_of}
use Rattle.laying.specs.declared.Fault.{Fault}
use Rattle.laying.specs.declared.Fault.TheVariants.{PartOfAWord, BeyondThePages, OnAnother}
use Rattle.laying.specs.Slip.{slip_text}

-- ---- three words from word 1,023 on of a partition that has the frames 2 and 1, in four frames of 9

unfoldable pub bytes : List ℕ
bytes = 1 ∷ 2 ∷ 3 ∷ 4 ∷ 5 ∷ 0 ∷ 0 ∷ 0 ∷ 0xFF ∷ 0xFF ∷ 0xFF ∷ 0xFF ∷ []

unfoldable pub memory : List ℕ
memory = laid_words (2 ∷ 1 ∷ []) 1023 bytes (replicate 4096 9) (count_of bytes)

unfoldable pub holds : List ℕ → ℕ → ℕ → Bool
holds m i w = slice_index m i == w

-- ---- two partitions: frames 3 and 1, and 2; the second image of the first lies in its second page

unfoldable pub table : List ℕ
table = 0 ∷ 0 ∷ 4 ∷ 0 ∷ 4100 ∷ 5 ∷ 1 ∷ 8 ∷ 6 ∷ []

unfoldable pub laid : List ℕ
laid = memory_of (2 ∷ 1 ∷ []) (3 ∷ 1 ∷ 2 ∷ []) table (λ k. (k + 1) ∷ 0 ∷ 0 ∷ 0 ∷ (10 * (k + 1)) ∷ 0 ∷ 0 ∷ 0 ∷ []) 3

-- ---- why an image is not laid: partitions of 2 pages and of 1; image 0 has 10 words from 400 on, image 1 none at 420, image 2 is the one to be laid

-- 0 for none; 1 no whole number of words; 2 a word beyond the pages; 3 a word where another image has one
abbrev pub index : Option Fault → ℕ
index None = 0
index (Some PartOfAWord) = 1
index (Some BeyondThePages) = 2
index (Some OnAnother) = 3

unfoldable pub fault : ℕ → ℕ → ℕ → ℕ → Bool
fault owner address size n = index (fault_of (2 ∷ 1 ∷ []) (0 ∷ 400 ∷ 4 ∷ 0 ∷ 420 ∷ 5 ∷ owner ∷ address ∷ 6 ∷ []) (10 ∷ 0 ∷ []) 2 size) == n

unfoldable pub images : List Bool
images =
    -- [noon: laid] across the end of a page, into the frames by their order in the list; the words before, behind and in the other frames stay
    holds memory 3071 0x04030201
    ∷ holds memory 1024 5
    ∷ holds memory 1025 0xFFFFFFFF
    ∷ holds memory 3070 9
    ∷ holds memory 1026 9
    ∷ holds memory 2048 9
    ∷ holds memory 0 9
    -- two partitions and three images over zeros
    ∷ holds laid 3072 1
    ∷ holds laid 3073 10
    ∷ holds laid 1025 2
    ∷ holds laid 1026 20
    ∷ holds laid 2050 3
    ∷ holds laid 2051 30
    ∷ holds laid 1024 0
    ∷ holds laid 2048 0
    -- [noon: sums] none, one, two and three words; modulo 2^32
    ∷ (sum_words bytes 0 == 0)
    ∷ (sum_words bytes 1 == 0x04030201)
    ∷ (sum_words bytes 2 == 0x04030206)
    ∷ (sum_words bytes 3 == 0x04030205)
    -- [noon: image faults] no whole number of words: 46 bytes, and 47; 0 bytes, and 4
    ∷ fault 0 800 46 1
    ∷ fault 0 800 47 1
    ∷ fault 0 800 0 0
    ∷ fault 0 800 4 0
    -- to the end of two pages, and of one; a word more; bytes that are no words first
    ∷ fault 0 8188 4 0
    ∷ fault 0 8188 8 2
    ∷ fault 1 4092 4 0
    ∷ fault 1 4092 8 2
    ∷ fault 0 8192 0 0
    ∷ fault 0 8196 0 2
    ∷ fault 1 4092 9 1
    -- up to the other, and a word into it; from its last word on, and behind it; in the other partition; none within it, and beyond the pages first
    ∷ fault 0 396 4 0
    ∷ fault 0 396 8 3
    ∷ fault 0 436 4 3
    ∷ fault 0 440 4 0
    ∷ fault 1 400 40 0
    ∷ fault 0 408 0 0
    ∷ fault 0 396 8000 2
    -- [noon: slip] every number another one
    ∷ same (slip_text 1 4096 20 4294967295) (ascii "partition 1, address 4096: 20 words, sum 4294967295: ")
    ∷ []

unfoldable pub all : List Bool → Bool
all [] = true
all (b ∷ bs) = b && all bs
