-- Images laid into a memory: raw words, little-endian, into a partition's pages from a guest address on.
use Rattle.std.specs.Prelude.{ℕ, zero, suc, ◌+◌, ◌*◌, ◌/◌, ◌%◌, min, max, Bool, not, ◌&&◌, Option, None, Some, List, length, take, drop, replicate, ◌==◌, nat_lt, slice_index, slice_set}
use Rattle.dlx.specs.Choice.{when◌then◌else◌}
use Rattle.dlx.specs.Words.{plus}
use Rattle.addresses.specs.Memory.{place}
use Rattle.house.specs.Lists.{any}
use Rattle.housefile.specs.Records.{number}
use Rattle.contents.specs.Contents.{list_words}
use Rattle.laying.specs.declared.Fault.{Fault}
use Rattle.laying.specs.declared.Fault.TheVariants.{PartOfAWord, BeyondThePages, OnAnother}

-- ---- one image

-- word k of raw bytes
unfoldable pub word_at : List ℕ → ℕ → ℕ
word_at bytes k = number (take 4 (drop (4 * k) bytes))

-- the memory with its first n words, from word `first` on of the partition that has these frames
unfoldable pub laid_words : List ℕ → ℕ → List ℕ → List ℕ → ℕ → List ℕ
laid_words frames first bytes m zero = m
laid_words frames first bytes m (suc n) = slice_set (laid_words frames first bytes m n) (place frames (first + n)) (word_at bytes n)

-- the sum of its first n words, modulo 2^32
unfoldable pub sum_words : List ℕ → ℕ → ℕ
sum_words bytes zero = 0
sum_words bytes (suc n) = plus (sum_words bytes n) (word_at bytes n)

-- how many words there are
abbrev pub count_of : List ℕ → ℕ
count_of bytes = length bytes / 4

-- ---- image k of a table: its partition, its address, and the word that named it

abbrev pub owner_of : List ℕ → ℕ → ℕ
owner_of table k = slice_index table (3 * k)

abbrev pub address_in : List ℕ → ℕ → ℕ
address_in table k = slice_index table (3 * k + 1)

abbrev pub first_word : List ℕ → ℕ → ℕ
first_word table k = address_in table k / 4

-- a word of image j, of so many, stands where one of n words of image k would
abbrev pub meeting : List ℕ → List ℕ → ℕ → ℕ → ℕ → Bool
meeting table counts k n j =
    (owner_of table j == owner_of table k)
    && nat_lt (max (first_word table j) (first_word table k)) (min (first_word table j + slice_index counts j) (first_word table k + n))

-- why image k, of so many bytes, is not laid behind those before it: no whole number of words; a word beyond the pages; a word where another image of the same
-- partition has one
unfoldable pub fault_of : List ℕ → List ℕ → List ℕ → ℕ → ℕ → Option Fault
fault_of pages table counts k size =
    when not (size % 4 == 0) then Some PartOfAWord else
    when nat_lt (4096 * slice_index pages (owner_of table k)) (address_in table k + size) then Some BeyondThePages else
    when any (meeting table counts k (size / 4)) k then Some OnAnother else
    None

-- ---- all of them

-- the memory with image k
unfoldable pub laid_image : List ℕ → List ℕ → List ℕ → ℕ → List ℕ → List ℕ → List ℕ
laid_image pages frames table k bytes m = laid_words (list_words pages frames (owner_of table k)) (first_word table k) bytes m (count_of bytes)

-- 16 frames of zeros with the first n images, by the bytes of each
unfoldable pub memory_of : List ℕ → List ℕ → List ℕ → (ℕ → List ℕ) → ℕ → List ℕ
memory_of pages frames table images zero = replicate 16384 0
memory_of pages frames table images (suc n) = laid_image pages frames table n (images n) (memory_of pages frames table images n)
