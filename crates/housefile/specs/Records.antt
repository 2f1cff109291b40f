-- The house file on the whole list of its bytes: records one after the other, each of a body length (4 bytes), a kind (2 bytes) and a body.
use Rattle.std.specs.Prelude.{ℕ, zero, suc, ◌+◌, ◌*◌, ◌/◌, ◌%◌, Bool, false, not, ◌&&◌, ◌||◌, leb, List, [], ◌∷◌, ◌++◌, length, take, drop, replicate, ◌==◌, nat_eq, nat_le, nat_lt}
use Rattle.dlx.specs.Choice.{when◌then◌else◌}
use Rattle.dlx.specs.Parts.{outer}
use Rattle.house.specs.Boot.{Verdict, verdict}

-- ---- numbers, little-endian

unfoldable pub number : List ℕ → ℕ
number [] = 0
number (b ∷ bs) = b + 256 * number bs

-- the first n words
unfoldable pub words_of : ℕ → List ℕ → List ℕ
words_of zero bs = []
words_of (suc n) bs = number (take 4 bs) ∷ words_of n (drop 4 bs)

-- ---- the record at the head of the bytes

abbrev pub size : List ℕ → ℕ
size bs = number (take 4 bs)

abbrev pub kind : List ℕ → ℕ
kind bs = number (take 2 (drop 4 bs))

abbrev pub body : List ℕ → List ℕ
body bs = take (size bs) (drop 6 bs)

-- A record of a kind and a body length may come after one of the kind `last` (0: none yet) and so many lists: one kind 1, one to eight of
-- kind 2, any of kind 3, one kind 4.
unfoldable pub may_come : ℕ → ℕ → ℕ → ℕ → Bool
may_come last lists kind size =
    when kind == 1 then (last == 0) && nat_eq size 8 else
    when kind == 2 then (last == 1 || last == 2) && nat_lt lists 8 && size % 4 == 0 && leb size 1024 else
    when kind == 3 then (last == 2 || last == 3) && nat_eq size 4100 else
    when kind == 4 then (last == 2 || last == 3) && nat_eq size 0 else
    false

-- the whole record is there and right: a kind 3 has a frame below 16
unfoldable pub record_right : ℕ → ℕ → List ℕ → Bool
record_right last lists bs =
    nat_le 6 (length bs) && may_come last lists (kind bs) (size bs) && nat_le (6 + size bs) (length bs)
    && (not (kind bs == 3) || nat_lt (number (take 4 (body bs))) 16)

-- ---- what a file says

-- turns of q steps, the run's length, each list's page count, the lists one after the other, and the memory
pub record File : Type 0 where
  pub q : ℕ
  pub run : ℕ
  pub pages : List ℕ
  pub frames : List ℕ
  pub memory : List ℕ

abbrev pub file : ℕ → ℕ → List ℕ → List ℕ → List ℕ → File
file q run pages frames memory = record { q = q; run = run; pages = pages; frames = frames; memory = memory }

-- nothing read yet: the memory is 16 zero frames
abbrev pub no_file : File
no_file = file 0 0 [] [] (replicate 16384 0)

-- the file with a right record
unfoldable pub with_record : File → ℕ → List ℕ → File
with_record f kind body =
    when kind == 1 then file (number (take 4 body)) (number (take 4 (drop 4 body))) f.pages f.frames f.memory else
    when nat_eq kind 2 then
    (let n = length body / 4 in
    file f.q f.run (f.pages ++ (n ∷ [])) (f.frames ++ words_of n body) f.memory) else
    when nat_eq kind 3 then
    file f.q f.run f.pages f.frames (outer (number (take 4 body) * 1024) 1024 f.memory (words_of 1024 (drop 4 body))) else
    f

pub data Reading : Type 0 where
  -- where the first wrong record starts
  wrong : ℕ → Reading
  right : File → Reading

-- the house number and its detail
unfoldable pub verdict_of : Reading → Verdict
verdict_of (wrong at) = verdict 15 at
verdict_of (right f) = verdict 0 0

-- The bytes from offset `at` on, after a record of the kind `last`; n is above the number of records to come. After kind 4 comes no byte.
unfoldable pub read_from : ℕ → File → ℕ → ℕ → List ℕ → Reading
read_from zero f last at bs = wrong at
read_from (suc n) f last at bs =
    when last == 4 then (when nat_eq (length bs) 0 then right f else wrong at) else
    when record_right last (length f.pages) bs then
    read_from n (with_record f (kind bs) (body bs)) (kind bs) (at + (6 + size bs)) (drop (6 + size bs) bs)
    else wrong at

unfoldable pub reading_of : List ℕ → Reading
reading_of bs = read_from (suc (length bs)) no_file 0 0 bs
