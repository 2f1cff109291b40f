-- Worked examples: each some bytes, and the text that they are. proofs/Checked.antt checks them by a single claim.
use Rattle.std.specs.Prelude.{List, [], ◌∷◌, ℕ, ◌-◌, ◌^◌}
use Prim.Native.String.{String}
use Rattle.house.specs.House.{no_house}
use Rattle.house.specs.Boot.{verdict}
use Rattle.house.specs.Turns.{world}
use Rattle.house.specs.Calls.{Answered, answered}
use Rattle.readout.specs.Printed.{words_text, printed, refusal_of}
use Rattle.readout.specs.declared.Form.{Form}
use Rattle.readout.specs.declared.Form.TheVariants.{Unsigned, Signed, Raw}
use Rattle.readout.specs.declared.Want.{Want}

-- a word at 0 of partition 0, in one of the forms
abbrev pub wanted : Form → Want
wanted form = record { partition = 0; address = 0; count = 1; form = form }

-- a file whose record at 24 is wrong
abbrev pub wrong_file : Answered
wrong_file = answered (verdict 15 24) (world no_house [])

unfoldable pub texts : List (List ℕ × String)
texts =
    (words_text (wanted Unsigned) (5 ∷ 0 ∷ (2 ^ 32 - 1) ∷ 7 ∷ []) 3, "5\n0\n4294967295\n")
    ∷ (words_text (wanted Unsigned) (5 ∷ []) 0, "")
    ∷ (words_text (wanted Raw) (0x44434241 ∷ 0x48474645 ∷ []) 2, "ABCDEFGH")
    -- [words with their signs] the same words as numbers with a sign
    ∷ (words_text (wanted Signed) (5 ∷ (2 ^ 31 - 1) ∷ 2 ^ 31 ∷ (2 ^ 32 - 1) ∷ 0 ∷ []) 5, "5\n2147483647\n-2147483648\n-1\n0\n")
    ∷ (words_text (wanted Unsigned) (5 ∷ (2 ^ 31 - 1) ∷ 2 ^ 31 ∷ (2 ^ 32 - 1) ∷ 0 ∷ []) 5, "5\n2147483647\n2147483648\n4294967295\n0\n")
    -- [a refused read-out] a refusal of the file: printed, but not where raw words are asked for
    ∷ (printed (wanted Unsigned) wrong_file, "refused 15 24\n")
    ∷ (printed (wanted Signed) wrong_file, "refused 15 24\n")
    ∷ (printed (wanted Raw) wrong_file, "")
    ∷ (refusal_of (wanted Raw) wrong_file, "refused 15 24\n")
    ∷ []
