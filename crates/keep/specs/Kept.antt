-- What is written of a house and its memory: the bytes of their file, in order, and all of them before it takes its name.
use Rattle.std.specs.Prelude.{◌≡◌, List, ℕ, ◌≤◌, length, take, drop}
use Rattle.house.specs.Turns.{World}
use Rattle.save.specs.Saved.{file_of}
use Rattle.written.specs.declared.Writing.{Writing}

-- the next bytes of the file, from an offset on
abbrev pub Part : World → ℕ → List ℕ → Type 0
Part w at piece = take (length piece) (drop at (file_of w)) ≡ piece

-- what is written so far is not more than the file
abbrev pub Within : World → Writing → Type 0
Within w g = g.bytes ≤ length (file_of w)

-- what is written is all of it
abbrev pub Whole : World → Writing → Type 0
Whole w g = g.bytes ≡ length (file_of w)
