-- What readout prints for what a file comes to: words of one partition, or the first refusal of the file, of boot, of run, or of the read-out, but where raw words are asked for.
use Rattle.std.specs.Prelude.{◌≡◌, Bool, true, false, List, [], ◌∷◌, ◌++◌, ℕ, ◌+◌, ◌^◌, ◌≤◌, eqb, get_or, replicate}
use Rattle.dlx.specs.Choice.{when◌then◌else◌}
use Rattle.house.specs.Boot.{Verdict}
use Rattle.house.specs.Turns.{World}
use Rattle.house.specs.Calls.{Answered, read_call}
use Rattle.decimal.specs.Decimals.{signed_text}
use Rattle.decimal.specs.Raw.{low_first}
use Rattle.decimal.specs.Texts.{joined}
use Rattle.report.specs.Report.{field, refusal}
use Rattle.night_run.specs.Ran.{either_file, Told}
use Rattle.night_run.specs.declared.input.Taken.{Taken}
use Rattle.readout.specs.declared.Form.{Form}
use Rattle.readout.specs.declared.Form.TheVariants.{Unsigned, Signed, Raw}
use Rattle.readout.specs.declared.Want.{Want}
use Rattle.readout.specs.declared.shown.Shown.{Shown}

-- ---- words as text

-- raw, or in decimals, with their sign or without, and a newline behind
unfoldable pub text_in : Form → ℕ → List ℕ
text_in Raw w = low_first w
text_in Signed w = signed_text (2 ^ 32) w ++ (10 ∷ [])
text_in Unsigned w = field w 10

abbrev pub word_text : Want → ℕ → List ℕ
word_text want w = text_in want.form w

abbrev pub is_raw : Form → Bool
is_raw Raw = true
is_raw Signed = false
is_raw Unsigned = false

-- the first so many of the words
unfoldable pub words_text : Want → List ℕ → ℕ → List ℕ
words_text want words count = joined (λ i. word_text want (get_or words i 0)) count

-- n of them, from this one on
unfoldable pub words_from : Want → List ℕ → ℕ → ℕ → List ℕ
words_from want words from n = joined (λ i. word_text want (get_or words (from + i) 0)) n

-- ---- what is printed

-- a refusal is no word: where raw ones are asked for nothing is printed
unfoldable pub refused_out : Want → Verdict → List ℕ
refused_out want v = when is_raw want.form then [] else refusal v

-- the read-out of a house that has run, into an output of these words
unfoldable pub read_text : Want → World → List ℕ → List ℕ
read_text want w out =
    let r = read_call w want.partition want.address want.count out in
    when eqb r.verdict.number 0 then words_text want r.output want.count else refused_out want r.verdict

-- the output holds the largest partition, 256 pages of 1,024 words
unfoldable pub no_words : List ℕ
no_words = replicate 262144 0

unfoldable pub printed : Want → Answered → List ℕ
printed want a = when eqb a.verdict.number 0 then read_text want a.world no_words else refused_out want a.verdict

-- ---- what is refused, if anything is: what standard error tells where raw words are asked for

unfoldable pub read_refusal : Want → World → List ℕ → List ℕ
read_refusal want w out =
    let r = read_call w want.partition want.address want.count out in
    when eqb r.verdict.number 0 then [] else refusal r.verdict

unfoldable pub refusal_of : Want → Answered → List ℕ
refusal_of want a = when eqb a.verdict.number 0 then read_refusal want a.world no_words else refusal a.verdict

-- n words of the text for every file that was read like this: those behind the first so many
pub record ToldBehind (want : Want) (t : Taken) (from n : ℕ) (piece : List ℕ) : Type 0 where
  pub words : List ℕ
  pub count : ℕ
  pub fits : from + n ≤ count
  pub most : count ≤ 262144
  pub text : Told either_file (printed want) t (words_text want words count)
  pub part : piece ≡ words_from want words from n

-- no word is printed yet
abbrev pub none_shown : Shown
none_shown = record { words = 0 }
