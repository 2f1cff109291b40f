-- The words of a raw file, read in pieces, and what is printed for each piece.
use Rattle.std.specs.Prelude.{◌≡◌, List, [], ◌∷◌, ◌++◌, ℕ, ◌+◌, ◌*◌, ◌/◌, ◌%◌, ◌^◌, ◌<◌, eqb, get_or}
use Rattle.dlx.specs.Choice.{when◌then◌else◌}
use Rattle.lines.specs.Listings.{listing}
use Rattle.list.specs.declared.words.Rest.{Rest}

-- ---- a whole file: four bytes to a word, the lowest first; what is left at its end is no word

unfoldable pub words_in : List ℕ → List ℕ
words_in [] = []
words_in (a ∷ []) = []
words_in (a ∷ b ∷ []) = []
words_in (a ∷ b ∷ c ∷ []) = []
words_in (a ∷ b ∷ c ∷ d ∷ bs) = (a + b * 2 ^ 8 + c * 2 ^ 16 + d * 2 ^ 24) ∷ words_in bs

-- ---- byte by byte

-- no byte yet
abbrev pub no_rest : Rest
no_rest = record { word = 0; count = 0 }

-- one byte more, at the top; of four the word is theirs, whatever stood there before
unfoldable pub further : Rest → ℕ → Rest
further r b = record { word = r.word / 2 ^ 8 + b * 2 ^ 24; count = r.count % 4 + 1 }

-- the word that this byte makes whole, if it does
unfoldable pub completed : Rest → ℕ → List ℕ
completed r b = when eqb (r.count % 4) 3 then (further r b).word ∷ [] else []

unfoldable pub rest_behind : Rest → List ℕ → Rest
rest_behind r [] = r
rest_behind r (b ∷ bs) = rest_behind (further r b) bs

unfoldable pub words_behind : Rest → List ℕ → List ℕ
words_behind r [] = []
words_behind r (b ∷ bs) = completed r b ++ words_behind (further r b) bs

-- ---- what is printed

abbrev pub Bytes : List ℕ → Type 0
Bytes bs = (i : ℕ) → get_or bs i 0 < 256

-- the rest is that of the bytes read so far
abbrev pub Behind : Rest → Type 0
Behind r = (before : List ℕ) × Bytes before × (r ≡ rest_behind no_rest before)

-- The text for a piece, behind the bytes read before it: it goes on with the listing of the file's words from where the text before it stopped.
abbrev pub Told : Rest → List ℕ → List ℕ → Type 0
Told r piece text = (before : List ℕ) × (r ≡ rest_behind no_rest before) × (listing (words_in (before ++ piece)) ≡ listing (words_in before) ++ text)
