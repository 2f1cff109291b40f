-- The lines that tell of the answer, the house's own numbers, the memory, the outputs of a read-out and a save, and what an audit found.
use Rattle.std.specs.Prelude.{ℕ, Bool, false, Option, None, Some, List, [], ◌∷◌, ◌++◌, length, take, ◌==◌, slice_index_or}
use Rattle.dlx.specs.Choice.{when◌then◌else◌}
use Rattle.house.specs.declared.House.{House}
use Rattle.decimal.specs.Texts.{ascii, joined}
use Rattle.drill_text.specs.Digest.{digest_of}
use Rattle.drill_text.specs.Numbers.{number_of, numbers_of}

-- a name and numbers
unfoldable pub row_of : List ℕ → List ℕ → List ℕ
row_of name words = name ++ (numbers_of words ++ ascii "\n")

-- each flag as 0 or 1
unfoldable pub flags_of : List Bool → List ℕ
flags_of running = joined (λ i. number_of (when slice_index_or running i false then 1 else 0)) 8

unfoldable pub house_of : House → List ℕ
house_of h =
    ascii "house"
    ++ (numbers_of (h.count ∷ h.q ∷ h.words ∷ h.current ∷ h.left ∷ [])
    ++ (flags_of h.running
    ++ ascii "\n"))

-- the name of a call, by its command's number
unfoldable pub name_of : ℕ → List ℕ
name_of op =
    when op == 1 then ascii "boot"
    else when op == 2 then ascii "run"
    else when op == 3 then ascii "start"
    else when op == 4 then ascii "stop"
    else when op == 5 then ascii "empty"
    else when op == 12 then ascii "audit"
    else when op == 13 then ascii "mend"
    else when op == 14 then ascii "save"
    else when op == 15 then ascii "piece"
    else when op == 16 then ascii "finish"
    else when op == 17 then ascii "unshadowed"
    else ascii "read"

unfoldable pub call_of : ℕ → ℕ → ℕ → List ℕ
call_of op number detail = ascii "call " ++ (name_of op ++ (ascii " ->" ++ (number_of number ++ (number_of detail ++ ascii "\n"))))

unfoldable pub memory_of : List ℕ → List ℕ
memory_of words = ascii "memory" ++ (number_of (length words) ++ (number_of (digest_of words) ++ ascii "\n"))

-- the whole output's digest, and so many of its words
unfoldable pub output_of : List ℕ → ℕ → List ℕ
output_of words shown = ascii "output" ++ (number_of (digest_of words) ++ row_of [] (take shown words))

-- how many bytes were written, and the whole output's digest, each byte a word
unfoldable pub written_of : ℕ → List ℕ → List ℕ
written_of count bytes = ascii "written" ++ (number_of count ++ (number_of (digest_of bytes) ++ ascii "\n"))

-- the first stale entry, by partition and page, where there is one
unfoldable pub stale_of : Option (ℕ × ℕ) → List ℕ
stale_of (Some (i, px)) = ascii "stale" ++ (number_of i ++ (number_of px ++ ascii "\n"))
stale_of None = ascii "stale none\n"
