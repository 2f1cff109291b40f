-- The examples hold: the single claim about the rules.
use Rattle.std.proofs.Common.{◌≡◌, true, ◌++◌, refl}
use Rattle.decimal.specs.Decimals.{decimal_in, decimal, signed_text}
use Rattle.decimal.specs.Texts.{ascii, same}
use Rattle.lines.specs.Table.{operand_at, named, unnamed, row_at}
use Rattle.lines.specs.Lines.{written, operand_text, text_by, code_of, bare_of, made, remade, within, fits, place_from, column, coded, place_of, line_of, scanned, scan_from, marked, letters_of, lettered, candidate_by, candidate, right}
use Rattle.command.specs.Words.{with_digit, with_digits, number_of}
use Rattle.texts.specs.Numbers.{negated, word_said, idle, bared_from, right_by, word_by}
use Rattle.texts.specs.Reading.{longer, ended, took, fed, finished}
use Rattle.texts.specs.Examples.{comes, texts, says, says_none, numbers, in_decimals, all}

pub checked : all (texts ++ numbers ++ in_decimals) ≡ true
unfolding all comes texts says says_none numbers in_decimals ascii same decimal decimal_in line_of place_of coded code_of bare_of column place_from fits within remade made text_by operand_text written signed_text operand_at named unnamed row_at scanned scan_from marked letters_of lettered candidate_by candidate right longer ended took fed finished idle bared_from right_by word_by word_said negated number_of with_digits with_digit
checked = refl
