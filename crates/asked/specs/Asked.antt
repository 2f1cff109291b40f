-- What noon's words from the first `partition` on ask for: page counts, frame lists and images.
use Rattle.std.specs.Prelude.{ℕ, ◌+◌, ◌*◌, ◌%◌, Bool, true, false, ◌&&◌, None, Some, Result, Ok, Err, List, [], ◌∷◌, replicate, ◌==◌, nat_lt, slice_set}
use Rattle.dlx.specs.Choice.{when◌then◌else◌}
use Rattle.dlx.specs.Words.{plus}
use Rattle.decimal.specs.Texts.{ascii, same}
use Rattle.asked.specs.Words.{row_of, counted, address_of}
use Rattle.asked.specs.declared.asked.Asked.{Asked}
use Rattle.asked.specs.declared.asked.Awaits.{Awaits}
use Rattle.asked.specs.declared.asked.Awaits.TheVariants.{Partition, Frames, Image, ImageOrPartition}

-- where the words stand, or stood when one was wrong; the page counts; the frames; and for each image its partition, its address and which word named it
pub record Going : Type 0 where
  pub asked : Result Asked Asked
  pub pages : List ℕ
  pub frames : List ℕ
  pub table : List ℕ

abbrev pub going : Result Asked Asked → List ℕ → List ℕ → List ℕ → Going
going a pages frames table = record { asked = a; pages = pages; frames = frames; table = table }

-- the first word has to be `partition`
abbrev pub nothing : Asked
nothing = record { awaits = Partition; owner = 0; total = 0; images = 0 }

abbrev pub wrong_word : Asked → Going → Going
wrong_word a g = going (Err a) g.pages g.frames g.table

-- what the next word has to be, by number
abbrev pub awaits_of : ℕ → Awaits
awaits_of n =
    when n == 0 then Partition else
    when n == 1 then Frames else
    when n == 3 then ImageOrPartition else
    Image

-- the next word has to be the frames of this partition
abbrev pub awaiting_frames : Asked → ℕ → Asked
awaiting_frames a owner = record { awaits = Frames; owner = owner; total = a.total; images = a.images }

-- ---- one word

-- a partition's frames, behind those of the others; what has no room is not kept, and then boot refuses
unfoldable pub framed : Asked → Going → List ℕ → Going
framed a g word =
    let r = row_of a.total g.frames word in
    elim (counted r) [
      | Ok n ↦
          going
          (Ok (record { awaits = Image; owner = a.owner; total = plus a.total n; images = a.images }))
          (slice_set g.pages a.owner n)
          r.frames
          g.table
      | Err n ↦ going (Err a) g.pages r.frames g.table
    ]

-- an image, which word n names: its address is a multiple of 4; there are at most 64
unfoldable pub imaged : Asked → Going → ℕ → List ℕ → Going
imaged a g n word =
    let k = 3 * a.images in
    elim (address_of word) [
      | None ↦ wrong_word a g
      | Some x ↦
          when x % 4 == 0 && nat_lt a.images 64 then
          going
          (Ok (record { awaits = ImageOrPartition; owner = a.owner; total = a.total; images = a.images + 1 }))
          g.pages
          g.frames
          (slice_set (slice_set (slice_set g.table k a.owner) (k + 1) x) (k + 2) n)
          else wrong_word a g
    ]

-- a word by what it has to be, and by whether it is `partition`
abbrev pub took_next : Awaits → Bool → Asked → Going → ℕ → List ℕ → Going
took_next Partition true a g n word = going (Ok (awaiting_frames a 0)) g.pages g.frames g.table
took_next Partition false a g n word = wrong_word a g
took_next Frames named a g n word = framed a g word
took_next Image true a g n word = wrong_word a g
took_next Image false a g n word = imaged a g n word
took_next ImageOrPartition true a g n word = going (Ok (awaiting_frames a (plus a.owner 1))) g.pages g.frames g.table
took_next ImageOrPartition false a g n word = imaged a g n word

-- behind a wrong word nothing is looked at
unfoldable pub took_word : Going → ℕ → List ℕ → Going
took_word g n word = elim g.asked [ Ok a ↦ took_next a.awaits (same word (ascii "partition")) a g n word | Err a ↦ g ]

-- ---- all of them, the first of which is word n

unfoldable pub took_words : Going → ℕ → List (List ℕ) → Going
took_words g n [] = g
took_words g n (word ∷ words) = took_words (took_word g n word) (n + 1) words

-- 65 page counts, as many partitions as images and one; 2,048 frames; 64 images
abbrev pub at_first : Going
at_first = going (Ok nothing) (replicate 65 0) (replicate 2048 0) (replicate 192 0)
