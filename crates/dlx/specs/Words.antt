-- Words of 32 bits. `ℤ` is the library's: `pos n` is n, `negsuc n` is -(n + 1), `sub_ℕ a b` is a - b.
use Rattle.std.specs.Prelude.{Bool, true, false, not, ◌||◌, ℕ, ◌+◌, ◌-◌, ◌*◌, ◌/◌, ◌%◌, ◌^◌, ltb, eqb, ℤ, pos, negsuc, ◌+ℤ◌, ◌-ℤ◌}
use Rattle.std.proofs.Math.IntN.{sub_ℕ}
use Rattle.std.specs.Int.Signed.{lt_z, le_z}
use mir.Val.{bool_byte}
use Rattle.dlx.specs.Choice.{when◌then◌else◌}

-- ---- all sums are modulo 2^32

abbrev pub plus : ℕ → ℕ → ℕ
plus x y = (x + y) % 2 ^ 32

abbrev pub minus : ℕ → ℕ → ℕ
minus x y = (x + 2 ^ 32 - y) % 2 ^ 32

-- ---- fields: RS1 bits 25..21, RS2 20..16, SA 10..6; RD 20..16 in I-type, 15..11 in R-type

abbrev pub opcode : ℕ → ℕ
opcode w = w / 2 ^ 26

abbrev pub rs1 : ℕ → ℕ
rs1 w = w / 2 ^ 21 % 32

abbrev pub rs2 : ℕ → ℕ
rs2 w = w / 2 ^ 16 % 32

abbrev pub rd_immediate : ℕ → ℕ
rd_immediate w = w / 2 ^ 16 % 32

abbrev pub rd_register : ℕ → ℕ
rd_register w = w / 2 ^ 11 % 32

abbrev pub sa : ℕ → ℕ
sa w = w / 2 ^ 6 % 32

abbrev pub function : ℕ → ℕ
function w = w % 64

-- ---- sign extension, once over the width

-- the low field of x with 2 * half values, sign-extended to a word
unfoldable pub extended_by : ℕ → ℕ → ℕ
extended_by half x =
    when ltb (x % (half * 2)) half then x % (half * 2) else x % (half * 2) + (2 ^ 32 - half * 2)

-- the low n bits of x, extended from bit n - 1
abbrev pub extended : ℕ → ℕ → ℕ
extended n x = extended_by (2 ^ (n - 1)) x

-- ---- a word read as a two's complement number

-- a field f with 2 * half values
unfoldable pub read_in : ℕ → ℕ → ℤ
read_in half f = when ltb f half then pos f else sub_ℕ f (half * 2)

abbrev pub reading_of : ℕ → ℤ
reading_of x = read_in (2 ^ 31) x

-- ---- the eight tests: clr, sgr, seq, sge, sls, sne, sle, set

abbrev pub eq_z : ℤ → ℤ → Bool
eq_z (pos a) (pos b) = eqb a b
eq_z (pos a) (negsuc b) = false
eq_z (negsuc a) (pos b) = false
eq_z (negsuc a) (negsuc b) = eqb a b

unfoldable pub holds : ℕ → ℤ → ℤ → Bool
holds k x y =
    when eqb k 0 then false else
    when eqb k 1 then lt_z y x else
    when eqb k 2 then eq_z x y else
    when eqb k 3 then le_z y x else
    when eqb k 4 then lt_z x y else
    when eqb k 5 then not (eq_z x y) else
    when eqb k 6 then le_z x y else
    true

-- of two words, as 0 or 1
abbrev pub test_of : ℕ → ℕ → ℕ → ℕ
test_of k x y = bool_byte (holds k (reading_of x) (reading_of y))

-- ---- overflow: a signed result outside 32 bits

abbrev pub outside_of : ℤ → Bool
outside_of z = lt_z z (negsuc 2147483647) || lt_z (pos 2147483647) z

abbrev pub sum_overflows : ℕ → ℕ → Bool
sum_overflows x y = outside_of (reading_of x +ℤ reading_of y)

abbrev pub difference_overflows : ℕ → ℕ → Bool
difference_overflows x y = outside_of (reading_of x -ℤ reading_of y)
