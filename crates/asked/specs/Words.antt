-- Two of noon's words: a frame list, decimals with commas between, and an image with its address.
use Rattle.std.specs.Prelude.{ℕ, zero, suc, ◌+◌, Option, None, Some, Result, Ok, Err, ok_or, option_map, unwrap_or, List, [], ◌∷◌, length, drop, ◌==◌, slice_index, slice_set}
use Rattle.dlx.specs.Choice.{when◌then◌else◌}
use Rattle.dlx.specs.Words.{plus}
use Rattle.command.specs.Words.{number_of, with_digit}
use Rattle.asked.specs.declared.words.Row.{Row}

-- ---- a frame list, byte by byte; its numbers go to a list, from a place on

-- where it stands, or, where it is wrong, how many numbers had ended before a wrong byte, none where one has no digit; and the list
pub record Rowed : Type 0 where
  pub row : Result Row (Option ℕ)
  pub frames : List ℕ

abbrev pub rowed : Result Row (Option ℕ) → List ℕ → Rowed
rowed r frames = record { row = r; frames = frames }

abbrev pub no_row : Row
no_row = record { number = None; count = 0 }

-- a number has ended: it has a digit, and stands behind those before it, as far as there is room
unfoldable pub row_ended : ℕ → Row → List ℕ → Rowed
row_ended at r frames = elim r.number [ None ↦ rowed (Err None) frames | Some n ↦ rowed (Ok (record { number = None; count = plus r.count 1 })) (slice_set frames (at + r.count) n) ]

-- a comma ends a number; any other byte is its next digit
unfoldable pub row_took : ℕ → Row → List ℕ → ℕ → Rowed
row_took at r frames b =
    when b == 44 then row_ended at r frames else
    rowed (ok_or (option_map (λ n. record { number = Some n; count = r.count }) (with_digit 4294967295 (Some (unwrap_or r.number 0)) b)) (Some r.count)) frames

-- behind a wrong byte nothing is looked at
unfoldable pub row_fed : ℕ → Rowed → List ℕ → Rowed
row_fed at g [] = g
row_fed at g (b ∷ bs) = elim g.row [ Ok r ↦ row_fed at (row_took at r g.frames b) bs | Err n ↦ g ]

-- at the end of the word a number ends
abbrev pub row_finished : ℕ → Rowed → Rowed
row_finished at g = elim g.row [ Ok r ↦ row_ended at r g.frames | Err n ↦ g ]

-- the whole word; an empty one is an empty list
unfoldable pub row_of : ℕ → List ℕ → List ℕ → Rowed
row_of at frames [] = rowed (Ok no_row) frames
row_of at frames (b ∷ bs) = row_finished at (row_fed at (rowed (Ok no_row) frames) (b ∷ bs))

-- how many numbers the word has, or had before a wrong byte
unfoldable pub counted : Rowed → Result ℕ (Option ℕ)
counted g = elim g.row [ Ok r ↦ Ok r.count | Err n ↦ Err n ]

-- ---- an image: its name, and behind the last @ its address, 0 where there is none

-- where the last @ of the first n bytes stands, or the word's length
unfoldable pub last_at : List ℕ → ℕ → ℕ
last_at word zero = length word
last_at word (suc n) = when slice_index word n == 64 then n else last_at word n

abbrev pub name_length : List ℕ → ℕ
name_length word = last_at word (length word)

unfoldable pub address_of : List ℕ → Option ℕ
address_of word =
    let n = name_length word in
    when n == length word then Some 0 else number_of 4294967295 (drop (n + 1) word)
