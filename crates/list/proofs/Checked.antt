-- The examples hold: the single claim about the rules.
use mathlib.Core.Path.{◌≡◌, refl}
use mathlib.Core.Bool.{true}
use Rattle.decimal.specs.Decimals.{decimal_in, decimal, signed_text}
use Rattle.decimal.specs.Texts.{ascii, same}
use Rattle.decimal.specs.Examples.{all}
use Rattle.lines.specs.Table.{operand_at, named, unnamed, row_at}
use Rattle.lines.specs.Lines.{written, operand_text, text_by, code_of, bare_of, made, remade, within, fits, place_from, column, coded, place_of, line_of}
use Rattle.lines.specs.Listings.{listing}
use Rattle.dlx.specs.Parts.{inner}
use Rattle.report.specs.Report.{field, line, refused_text}
use Rattle.list.specs.Frame.{frame_text}
use Rattle.list.specs.Words.{words_in, further, completed, rest_behind, words_behind}
use Rattle.list.specs.Examples.{texts}

pub checked : all texts ≡ true
unfolding all same texts ascii decimal_in decimal operand_at named unnamed row_at written signed_text operand_text text_by code_of bare_of made remade within fits place_from column coded place_of line_of listing inner field line refused_text frame_text words_in further completed rest_behind words_behind
checked = refl
