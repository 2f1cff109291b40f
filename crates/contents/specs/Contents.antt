-- The house file of its contents: what a reading of it has to give back.
use Rattle.std.specs.Prelude.{◌≡◌, List, [], ◌∷◌, ◌++◌, ℕ, ◌^◌, ◌<◌, ◌≤◌, length, get_or}
use Rattle.dlx.specs.Parts.{inner}
use Rattle.house.specs.Boot.{sum, offset}
use Rattle.housefile.specs.Records.{File, right, reading_of}
use Rattle.housefile.specs.Reader.{no_read, fed, answer_of}
use Rattle.save.specs.Saved.{record_of, records, frame_words}

-- kind 2: partition i's frames
unfoldable pub list_words : List ℕ → List ℕ → ℕ → List ℕ
list_words pages frames i = inner (offset pages i) (get_or pages i 0) frames

-- the records before the frames
unfoldable pub before_frames : ℕ → ℕ → List ℕ → List ℕ → List ℕ
before_frames q run pages frames = record_of 1 (q ∷ run ∷ []) ++ records 2 (list_words pages frames) (length pages)

-- a list's record, and a frame's
abbrev pub list_record : List ℕ → List ℕ → ℕ → List ℕ
list_record pages frames i = record_of 2 (list_words pages frames i)

abbrev pub frame_record : List ℕ → ℕ → List ℕ
frame_record memory f = record_of 3 (frame_words memory f)

-- each of the 16 frames has its record, so the file says every word of the memory
unfoldable pub contents_file : File → List ℕ
contents_file f = before_frames f.q f.run f.pages f.frames ++ (records 3 (frame_words f.memory) 16 ++ record_of 4 [])

-- one to eight lists of at most 256 frames
pub record Listed (ps fr : List ℕ) : Type 0 where
  pub some : 0 < length ps
  pub few : length ps ≤ 8
  pub pages : (i : ℕ) → get_or ps i 0 ≤ 256
  pub lists : length fr ≡ sum ps

-- what a file can say: numbers of 32 bits, these lists, a memory of 16 frames
pub record Sayable (f : File) : Type 0 where
  pub q : f.q < 2 ^ 32
  pub run : f.run < 2 ^ 32
  pub listed : Listed f.pages f.frames
  pub frames : (i : ℕ) → get_or f.frames i 0 < 2 ^ 32
  pub size : length f.memory ≡ 16384
  pub memory : (i : ℕ) → get_or f.memory i 0 < 2 ^ 32

-- ---- the promise: what is written is what is read, as a whole, and in two pieces, cut anywhere

pub record SaysAll : Type 0 where
  pub whole : (f : File) → Sayable f → reading_of (contents_file f) ≡ right f
  pub cut : (f : File) → Sayable f → (xs bs : List ℕ) → xs ++ bs ≡ contents_file f → answer_of (fed (fed no_read xs) bs) ≡ right f
