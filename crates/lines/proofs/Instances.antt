-- The theorems, each used on closed words and texts.
use mathlib.Core.Path.{◌≡◌, refl, sym, ap, ◌∙◌}
use mathlib.Core.Bool.{Bool, true, false}
use mathlib.Core.List.{List, [], ◌∷◌, ◌++◌}
use Prim.Native.Nat.{ℕ, zero, suc, ◌^◌, ◌<◌}
use native.Mathlib.Omega.{arith}
use Rattle.dlx.specs.Choice.{when◌then◌else◌}
use Rattle.dlx.specs.Instructions.{instruction_of, register_type, part_type}
use Rattle.decimal.specs.Decimals.{decimal, decimal_in, signed_text}
use Rattle.decimal.specs.Texts.{ascii, same}
use Rattle.lines.specs.Table.{operand_at, named, unnamed, row_at}
use Rattle.lines.specs.Lines.{written, operand_text, text_by, code_of, bare_of, made, remade, within, fits, place_from, column, coded, place_of, line_of, scanned, scan_from, marked, letters_of, lettered, candidate_by, candidate, right}
use Rattle.lines.specs.Listings.{listing, lines_behind, lines_of, words_of, ended_from, answer, assembled, wrong_by}
use Rattle.lines.specs.Called.{legal, test_name, register_row, row_for, values_in, word_of, text_of}
use Rattle.lines.proofs.Least.{zeroed_least, legal_line, other_line}
use Rattle.lines.proofs.Lines.{right_exactly, line_injective}
use Rattle.lines.proofs.Listings.{Words, listing_assembled, listing_short, taken_listing, FirstWrong, first_wrong}

-- no word is written `word 536936453`: that word has a name
pub nameless : (w : ℕ) → w < 2 ^ 32 → line_of w ≡ ascii "word 536936453" → ⊥
unfolding ascii same decimal decimal_in line_of place_of coded code_of bare_of column place_from fits within remade made text_by operand_text written signed_text operand_at named unnamed row_at scanned scan_from marked letters_of lettered candidate_by candidate right
nameless w l e =
    let t : right (ascii "word 536936453") ≡ true = (right_exactly (ascii "word 536936453")).1 (w, l, e) in
    let f : right (ascii "word 536936453") ≡ false = refl in
    let z : ◌≡◌ {A = ℕ} 1 0 = ap (λ (b : Bool). when b then 1 else 0) (sym t ∙ f) in
    omega arith

-- rfe, and rfe with an ignored bit, have two lines
pub two_lines : line_of 4227858432 ≡ line_of 4227858433 → ⊥
two_lines e = let z = line_injective 4227858432 4227858433 (omega arith) (omega arith) e in omega arith

-- three words, of which the first and the last have an ignored bit and no name
abbrev three : List ℕ
three = 4227858433 ∷ 4393007 ∷ 0 ∷ []

three_words : Words three
three_words zero = omega arith
three_words (suc zero) = omega arith
three_words (suc (suc zero)) = omega arith
three_words (suc (suc (suc i))) = omega arith

-- they come back, and the output behind them stays; in an output of two they have no room
pub three_back : assembled (listing three) (7 ∷ 8 ∷ 9 ∷ 10 ∷ []) ≡ answer 0 0 3 (4227858433 ∷ 4393007 ∷ 0 ∷ 10 ∷ [])
three_back = listing_assembled three (7 ∷ 8 ∷ 9 ∷ 10 ∷ []) three_words (omega arith)

pub three_short : assembled (listing three) (7 ∷ 8 ∷ []) ≡ answer 13 0 0 (7 ∷ 8 ∷ [])
three_short = listing_short three (7 ∷ 8 ∷ []) three_words (omega arith)

-- of a text whose second line is wrong, and its third too, the first line is right and the second is not
pub second_wrong : FirstWrong (lines_of (ascii "rfe\nrfe 0\nnop\n")) 1
unfolding ascii same decimal decimal_in line_of place_of coded code_of bare_of column place_from fits within remade made text_by operand_text written signed_text operand_at named unnamed row_at scanned scan_from marked letters_of lettered candidate_by candidate right lines_behind wrong_by
second_wrong = first_wrong 1 (lines_of (ascii "rfe\nrfe 0\nnop\n")) refl

-- a text that is taken without its last newline is a listing but for that newline
pub newline_missing : listing (words_of (lines_of (ascii "jr r31\nrfe"))) ≡ ascii "jr r31\nrfe\n"
unfolding ascii same decimal decimal_in line_of place_of coded code_of bare_of column place_from fits within remade made text_by operand_text written signed_text operand_at named unnamed row_at scanned scan_from marked letters_of lettered candidate_by candidate right lines_behind wrong_by ended_from
newline_missing = taken_listing (ascii "jr r31\nrfe") refl

-- rfe with an ignored bit is not the least word that is read so: it is written as a number
pub ignored_bit : line_of 4227858433 ≡ ascii "word " ++ decimal 4227858433
unfolding instruction_of register_type part_type
ignored_bit = other_line 4227858433 (omega arith) (λ _ least. let z = least 4227858432 (omega arith) refl in omega arith)

-- the operands of set count as used: with them the word is the least that is read so
pub set_named : line_of 4393007 ≡ ascii "set r1 r2 r3"
unfolding instruction_of register_type part_type legal word_of row_for register_row test_name values_in text_of made bare_of written operand_at ascii decimal decimal_in
set_named = legal_line 4393007 (omega arith) refl (zeroed_least 4393007 (omega arith) refl refl)
