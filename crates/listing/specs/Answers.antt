-- What the calls answer.
use Rattle.std.specs.Prelude.{◌≡◌, ◌<◌, List, ℕ, length, Result, Ok, Err}
use Rattle.lines.specs.Listings.{wrong_from, Answer, answer}
use Rattle.listing.specs.declared.Refusal.{Refusal}
use Rattle.listing.specs.declared.Refusal.TheVariants.{ShortOutput, WrongLine}

-- as a number, its detail, how many words or bytes were written, and the output after it
abbrev pub answer_of : Result ℕ Refusal → List ℕ → Answer
answer_of (Ok n) o = answer 0 0 n o
answer_of (Err ShortOutput) o = answer 13 0 0 o
answer_of (Err (WrongLine k)) o = answer 18 k 0 o

-- of these lines none is wrong and there are so many, or the first wrong one has this number
abbrev pub Surveyed : List (List ℕ) → Result ℕ Refusal → Type 0
Surveyed ls (Ok n) = (wrong_from 1 ls ≡ 0) × (n ≡ length ls)
Surveyed ls (Err ShortOutput) = ⊥
Surveyed ls (Err (WrongLine k)) = (wrong_from 1 ls ≡ k) × (0 < k)
