-- Listings of many words, and what the calls answer.
use Rattle.std.specs.Prelude.{Bool, true, false, not, List, [], ◌∷◌, ◌++◌, ℕ, suc, eqb, ltb, length, drop}
use Rattle.dlx.specs.Choice.{when◌then◌else◌}
use Rattle.lines.specs.Lines.{line_of, candidate, right}

-- every word's line, and a newline behind each
unfoldable pub listing : List ℕ → List ℕ
listing [] = []
listing (w ∷ ws) = line_of w ++ (10 ∷ listing ws)

-- ---- the lines of a text

-- what stands behind the last newline is a line unless it is empty
abbrev pub last_line : List ℕ → List (List ℕ)
last_line [] = []
last_line (b ∷ bs) = (b ∷ bs) ∷ []

-- the lines of a text behind the beginning l of its first
unfoldable pub lines_behind : List ℕ → List ℕ → List (List ℕ)
lines_behind l [] = last_line l
lines_behind l (b ∷ bs) = elim (eqb b 10) [ true ↦ l ∷ lines_behind [] bs | false ↦ lines_behind (l ++ (b ∷ [])) bs ]

abbrev pub lines_of : List ℕ → List (List ℕ)
lines_of t = lines_behind [] t

-- by what a right line is: the number of the first wrong one where the next one has the number n; 0 for none
unfoldable pub wrong_by : (List ℕ → Bool) → ℕ → List (List ℕ) → ℕ
wrong_by f n [] = 0
wrong_by f n (l ∷ ls) = elim (f l) [ true ↦ wrong_by f (suc n) ls | false ↦ n ]

-- by the word of a line: the words of all
unfoldable pub words_by : (List ℕ → ℕ) → List (List ℕ) → List ℕ
words_by w [] = []
words_by w (l ∷ ls) = w l ∷ words_by w ls

-- of a listing's lines
abbrev pub wrong_from : ℕ → List (List ℕ) → ℕ
wrong_from n ls = wrong_by right n ls

abbrev pub words_of : List (List ℕ) → List ℕ
words_of ls = words_by candidate ls

-- ---- a text with a newline at its end, unless it is empty

-- the rest t of a text, where its line has begun or not
unfoldable pub ended_from : Bool → List ℕ → List ℕ
ended_from true [] = 10 ∷ []
ended_from false [] = []
ended_from b (x ∷ xs) = x ∷ ended_from (not (eqb x 10)) xs

abbrev pub ended : List ℕ → List ℕ
ended t = ended_from false t

-- ---- the calls: the number, its detail, how many words or bytes were written, and the output after it

pub record Answer : Type 0 where
  pub number : ℕ
  pub detail : ℕ
  pub count : ℕ
  pub out : List ℕ

abbrev pub answer : ℕ → ℕ → ℕ → List ℕ → Answer
answer n d k o = record { number = n; detail = d; count = k; out = o }

-- the words of a text's lines, by what a right line and its word are
unfoldable pub read_by : (List ℕ → Bool) → (List ℕ → ℕ) → List ℕ → List ℕ → Answer
read_by f w t out =
    when not (eqb (wrong_by f 1 (lines_of t)) 0) then answer 18 (wrong_by f 1 (lines_of t)) 0 out else
    when ltb (length out) (length (lines_of t)) then answer 13 0 0 out else
    answer 0 0 (length (lines_of t)) (words_by w (lines_of t) ++ drop (length (lines_of t)) out)

abbrev pub assembled : List ℕ → List ℕ → Answer
assembled t out = read_by right candidate t out

unfoldable pub listed : List ℕ → List ℕ → Answer
listed ws out =
    when ltb (length out) (length (listing ws)) then answer 13 0 0 out else
    answer 0 0 (length (listing ws)) (listing ws ++ drop (length (listing ws)) out)
