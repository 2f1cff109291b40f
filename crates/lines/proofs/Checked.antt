-- The examples hold: the single claim about the rules.
use mathlib.Core.Path.{◌≡◌, refl}
use mathlib.Core.Bool.{true, ◌&&◌}
use Rattle.decimal.specs.Decimals.{decimal_in, decimal, signed_text}
use Rattle.decimal.specs.Texts.{ascii, same}
use Rattle.lines.specs.Table.{operand_at, named, unnamed, row_at}
use Rattle.lines.specs.Lines.{written, operand_text, text_by, code_of, bare_of, made, remade, within, fits, place_from, column, coded, place_of, line_of, scanned, scan_from, marked, letters_of, lettered, candidate_by, candidate, right}
use Rattle.lines.specs.Listings.{listing, lines_behind, wrong_by, words_by, read_by}
use Rattle.lines.specs.Examples.{reads, wrong, gives, rows, rights, wrongs, texts, all}

pub checked : all rows && all rights && all wrongs && all texts ≡ true
unfolding all reads wrong gives rows rights wrongs texts ascii same decimal decimal_in line_of place_of coded code_of bare_of column place_from fits within remade made text_by operand_text written signed_text operand_at named unnamed row_at scanned scan_from marked letters_of lettered candidate_by candidate right listing lines_behind wrong_by words_by read_by
checked = refl
