-- Commands of a script.
use Rattle.std.specs.Prelude.{Bool, List, [], ◌∷◌, ℕ, zero, suc, ◌+◌, ◌*◌, ◌/◌, ◌&&◌, Option, None, Some, Result, ok_or, option_and_then, leb, ltb, length, slice_get, nat_eq}
use Rattle.std.specs.Bool.{then_some}
use Rattle.dlx.specs.Choice.{when◌then◌else◌}
use Rattle.drill_script.specs.declared.commands.Command.{Command}
use Rattle.drill_script.specs.declared.commands.NoCommand.{NoCommand}
use Rattle.drill_script.specs.declared.commands.NoCommand.TheVariants.{Short, Wrong}
use Rattle.drill_script.specs.declared.commands.Op.{Op}
use Rattle.drill_script.specs.declared.commands.Op.TheVariants.{Boot, Run, Start, Stop, Empty, ReadOut, PokeMemory, SetLength, PokeHouse, FillMemory, Clear, Audit, Mend, Save, Piece, Finish, Unshadowed}
use Rattle.drill_script.specs.Words.{word_at}

-- the number of an op in a script
abbrev pub number_of : Op → ℕ
number_of Boot = 1
number_of Run = 2
number_of Start = 3
number_of Stop = 4
number_of Empty = 5
number_of ReadOut = 6
number_of PokeMemory = 7
number_of SetLength = 8
number_of PokeHouse = 9
number_of FillMemory = 10
number_of Clear = 11
number_of Audit = 12
number_of Mend = 13
number_of Save = 14
number_of Piece = 15
number_of Finish = 16
number_of Unshadowed = 17

-- the two ops are one
infix 40 ◌is◌
abbrev pub ◌is◌ : Op → Op → Bool
o is p = nat_eq (number_of o) (number_of p)

-- the ops by their numbers, from 1 on
abbrev pub ops : List Op
ops = Boot ∷ Run ∷ Start ∷ Stop ∷ Empty ∷ ReadOut ∷ PokeMemory ∷ SetLength ∷ PokeHouse ∷ FillMemory ∷ Clear ∷ Audit ∷ Mend ∷ Save ∷ Piece ∷ Finish ∷ Unshadowed ∷ []

-- the op of a number: none of 0, and none past 17
unfoldable pub op_of : ℕ → Option Op
op_of zero = None
op_of (suc n) = slice_get ops n

-- the command's bytes, by its op and the two words that can say more: none where one of them is wrong. A save tells its output's length, and a piece's
-- bytes stand in words behind the four
unfoldable pub size_of : Op → ℕ → ℕ → Option ℕ
size_of Boot a c = then_some (leb a 16 && leb c 4096) (16 + 4 * (a + c))
size_of ReadOut a c = then_some (leb c 4096) 24
size_of Save a c = then_some (leb c 70000) 16
size_of Piece a c = then_some (leb a 16384) (16 + 4 * ((a + 3) / 4))
size_of _ a c = Some 16

-- with this op, and of this size, where there are so many bytes
unfoldable pub sized : List ℕ → Op → Option ℕ → Option Command
sized bytes op None = None
sized bytes op (Some n) =
    then_some (leb n (length bytes)) (record { op = op; a = word_at bytes 4; b = word_at bytes 8; c = word_at bytes 12; size = n })

unfoldable pub named : List ℕ → Option Op → Option Command
named bytes None = None
named bytes (Some op) = sized bytes op (size_of op (word_at bytes 4) (word_at bytes 12))

-- what stands at the start of the bytes; no command where they end before its end
unfoldable pub command_of : List ℕ → Option Command
command_of bytes = when ltb (length bytes) 16 then None else named bytes (op_of (word_at bytes 0))

-- why no command stands there, by what its size would be: the bytes end before its end, or it has no size, since its op or a word is wrong, and its four
-- words are told
unfoldable pub why_none : List ℕ → Option ℕ → NoCommand
why_none bytes (Some n) = Short
why_none bytes None = Wrong (word_at bytes 0) (word_at bytes 4) (word_at bytes 8) (word_at bytes 12)

-- the command at the start of the bytes, or why there is none
unfoldable pub read_of : List ℕ → Result Command NoCommand
read_of bytes =
    ok_or (command_of bytes)
    (when ltb (length bytes) 16 then Short
    else why_none bytes (option_and_then (λ op. size_of op (word_at bytes 4) (word_at bytes 12)) (op_of (word_at bytes 0))))
