-- Fields of a word, once over the width: a byte, a half word and a word are its fields of 8, 16 and 32 bits. Bytes stand little-endian.
use Rattle.std.specs.Prelude.{Bool, ◌||◌, ℕ, ◌+◌, ◌-◌, ◌*◌, ◌/◌, ◌%◌, ◌^◌, eqb}
use Rattle.dlx.specs.Choice.{when◌then◌else◌}
use Rattle.dlx.specs.Words.{extended}

-- ---- placement

-- the w bits of x from bit k on
unfoldable pub field : ℕ → ℕ → ℕ → ℕ
field w k x = x / 2 ^ k % 2 ^ w

-- x with the lowest w bits of v put there; every other bit stays
unfoldable pub put : ℕ → ℕ → ℕ → ℕ → ℕ
put w k v x = x - field w k x * 2 ^ k + field w 0 v * 2 ^ k

-- where the byte at the address a begins in its word
abbrev pub place : ℕ → ℕ
place a = 8 * (a % 4)

-- an address that w bits may be reached at: a multiple of their bytes
abbrev pub aligned : ℕ → ℕ → Bool
aligned w a = eqb (a % (w / 8)) 0

-- ---- loads and stores by opcode: 32 lb, 33 lh, 35 lw, 36 lbu, 37 lhu, 40 sb, 41 sh, 43 sw

abbrev pub loading : ℕ → Bool
loading o = eqb o 32 || eqb o 33 || eqb o 35 || eqb o 36 || eqb o 37

abbrev pub storing : ℕ → Bool
storing o = eqb o 40 || eqb o 41 || eqb o 43

-- how many bits one reaches
unfoldable pub width : ℕ → ℕ
width o =
    when eqb o 32 || eqb o 36 || eqb o 40 then 8 else
    when eqb o 33 || eqb o 37 || eqb o 41 then 16 else
    32

-- lb and lh extend the sign, all others zeros
abbrev pub signed : ℕ → Bool
signed o = eqb o 32 || eqb o 33

-- what a load at the address a makes of the word x there
unfoldable pub brought : ℕ → ℕ → ℕ → ℕ
brought o a x = let f = field (width o) (place a) x in when signed o then extended (width o) f else f

-- what a store of v at the address a makes of it
unfoldable pub placed : ℕ → ℕ → ℕ → ℕ → ℕ
placed o a v x = put (width o) (place a) v x
