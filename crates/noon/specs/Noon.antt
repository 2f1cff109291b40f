-- What noon refuses, and what it may write and tell: from its words and from what it read of the images.
use Rattle.std.specs.Prelude.{◌≡◌, Ok, OnOk, List, ℕ, ◌+◌, ◌<◌, min, eqb, length, get_or, take, set}
use Rattle.dlx.specs.Choice.{when◌then◌else◌}
use Rattle.house.specs.Boot.{Verdict, verdict}
use Rattle.house.specs.Calls.{Answered}
use Rattle.housefile.specs.Records.{File, file, reading_of}
use Rattle.night_run.specs.Ran.{ran_of}
use Rattle.contents.specs.Contents.{contents_file}
use Rattle.asked.specs.Asked.{Going, going, took_word, took_words, at_first}
use Rattle.asked.specs.declared.asked.Asked.{Asked}
use Rattle.asked.specs.declared.asked.Awaits.TheVariants.{ImageOrPartition}
use Rattle.laying.specs.Laid.{count_of, sum_words, laid_image, memory_of}

-- the night's refusal; 0 and 0 where it runs
unfoldable pub night_refusal : Answered → Verdict
night_refusal a = when eqb a.verdict.number 0 then verdict 0 0 else a.verdict

-- the night boots and runs the file of these contents
abbrev pub Runs : File → Type 0
Runs f = (ran_of (reading_of (contents_file f))).verdict.number ≡ 0

-- ---- its words

-- this is what n words ask for, the first of which is word 4
abbrev pub Asks : Asked → List ℕ → List ℕ → List ℕ → ℕ → Type 0
Asks a pages frames table n = (words : List (List ℕ)) × (length words + 4 ≡ n) × (going (Ok a) pages frames table ≡ took_words at_first 4 words)

-- these lists and this table are what all the words ask for; of pages, frames and images as many are kept as there is room for
pub record Given (pages frames table : List ℕ) (images : ℕ) : Type 0 where
  pub asked : Asked
  pub counts : List ℕ
  pub lists : List ℕ
  pub given : ℕ
  pub asks : Asks asked counts lists table given
  pub ended : asked.awaits ≡ ImageOrPartition
  pub paged : pages ≡ take (min (asked.owner + 1) 65) counts
  pub framed : frames ≡ take (min asked.total 2048) lists
  pub named : images ≡ min asked.images 64

-- word n is the next
abbrev pub AsksNext : Going → Going → ℕ → Type 0
AsksNext g g' n = OnOk g'.asked ((word : List ℕ) × (g' ≡ took_word g n word))

-- ---- its images

-- the first n are laid into zeros, with the number of the words of each and their sum
pub record Laid (pages frames table counts sums memory : List ℕ) (n : ℕ) : Type 0 where
  pub images : ℕ → List ℕ
  pub laid : memory ≡ memory_of pages frames table images n
  pub counted : (j : ℕ) → j < n → get_or counts j 0 ≡ count_of (images j)
  pub summed : (j : ℕ) → j < n → get_or sums j 0 ≡ sum_words (images j) (count_of (images j))

abbrev pub LaidAll : List ℕ → List ℕ → List ℕ → List ℕ → ℕ → Type 0
LaidAll pages frames table memory n = (counts : List ℕ) × (sums : List ℕ) × Laid pages frames table counts sums memory n

-- image k is the next
pub record LaidNext (pages frames table : List ℕ) (k : ℕ) (counts sums memory counts' sums' memory' : List ℕ) : Type 0 where
  pub image : List ℕ
  pub laid : memory' ≡ laid_image pages frames table k image memory
  pub counted : counts' ≡ set counts k (count_of image)
  pub summed : sums' ≡ set sums k (sum_words image (count_of image))

-- ---- the contents of what is written

pub record Made (q run : ℕ) (pages frames table memory : List ℕ) (images : ℕ) : Type 0 where
  pub given : Given pages frames table images
  pub laid : LaidAll pages frames table memory images
  pub runs : Runs (file q run pages frames memory)
