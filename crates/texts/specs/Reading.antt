-- A text read byte by byte, and what its words are, in decimals or instructions: the same as those of the whole text (proofs/Whole.antt).
use Rattle.std.specs.Prelude.{◌≡◌, ℕ, ◌+◌, ◌%◌, ◌^◌, ◌<◌, ◌≤◌, Bool, List, [], ◌∷◌, ◌++◌, length, take, replicate, ◌==◌, nat_lt, slice_set, Option, Some, None, is_some}
use Rattle.dlx.specs.Choice.{when◌then◌else◌}
use Rattle.lines.specs.Listings.{Answer, answer, read_by}
use Rattle.texts.specs.Numbers.{idle, bared, right_by, word_by}
use Rattle.texts.specs.declared.reading.At.{At}

-- the output has as many words as the largest partition, 256 pages of 1,024
unfoldable pub no_words : List ℕ
no_words = replicate 262144 0

-- the line so far, how many lines have ended, the number of the wrong one, if one is, and the words
pub record Going : Type 0 where
  pub line : List ℕ
  pub lines : ℕ
  pub wrong : Option ℕ
  pub words : List ℕ

abbrev pub going : List ℕ → ℕ → Option ℕ → List ℕ → Going
going l n w ws = record { line = l; lines = n; wrong = w; words = ws }

-- no byte yet
abbrev pub start : Going
start = going [] 0 None no_words

-- one byte of a line more: 81 of them tell a line that is too long
unfoldable pub longer : Going → ℕ → Going
longer g b = when nat_lt (length g.line) 81 then going (g.line ++ (b ∷ [])) g.lines g.wrong g.words else g

-- the line has ended: its word stands at its place, as far as there is room; a wrong line stays
unfoldable pub ended : Bool → Going → Going
ended d g =
    let n = (g.lines + 1) % 2 ^ 64 in
    when right_by d g.line then going [] n None (slice_set g.words g.lines (word_by d g.line)) else going g.line n (Some n) g.words

-- behind a wrong line nothing is looked at; of zeros before a word one is kept
unfoldable pub took : Bool → Going → ℕ → Going
took d g b = when is_some g.wrong then g else when b == 10 then ended d g else when idle d g.line b then g else longer g b

unfoldable pub fed : Bool → Going → List ℕ → Going
fed d g [] = g
fed d g (b ∷ bs) = fed d (took d g b) bs

-- at the end of the text its last line may be without a newline
unfoldable pub finished : Bool → Going → Going
finished d g = when is_some g.wrong then g else when length g.line == 0 then g else ended d g

-- what is answered: the words where every line is right and they have room
unfoldable pub answer_of : Going → Answer
answer_of g =
    elim g.wrong [
      | Some n ↦ answer 18 n 0 no_words
      | None ↦ when nat_lt 262144 g.lines then answer 13 0 0 no_words else answer 0 0 g.lines g.words
    ]

-- ---- what the program holds, and what it may say and write

abbrev pub held : At → List ℕ → List ℕ → Going
held a line words = going (take a.length line) a.lines a.wrong words

pub record Fits (a : At) (line : List ℕ) : Type 0 where
  pub size : length line ≡ 81
  pub within : a.length ≤ 81

-- these are the lines and words of a text, of which so many bytes were read, and of the whole text
abbrev pub Behind : Bool → Going → ℕ → Type 0
Behind d g n = (text : List ℕ) × (length text ≡ n) × (g ≡ fed d start text)

abbrev pub Whole : Bool → Going → Type 0
Whole d g = (text : List ℕ) × (length text + 1 < 2 ^ 64) × (g ≡ finished d (fed d start text))

-- what the words of a whole text come to
unfoldable pub words_of : Bool → List ℕ → Answer
words_of d t = read_by (λ l. right_by d (bared d l)) (λ l. word_by d (bared d l)) t no_words

-- the answer for the text that was read
abbrev pub Told : Bool → ℕ → ℕ → ℕ → List ℕ → Type 0
Told d number detail count words = (text : List ℕ) × (length text + 1 < 2 ^ 64) × (words_of d text ≡ answer number detail count words)
