-- The examples hold: the single claim about the rules.
use mathlib.Core.Path.{◌≡◌, refl}
use mathlib.Core.Bool.{true}
use Rattle.decimal.specs.Decimals.{decimal_in, decimal, signed_text}
use Rattle.decimal.specs.Raw.{low_first}
use Rattle.decimal.specs.Texts.{ascii, same, joined}
use Rattle.decimal.specs.Examples.{all}
use Rattle.report.specs.Report.{field, line, refused_text}
use Rattle.readout.specs.Printed.{text_in, words_text, refused_out, printed, refusal_of}
use Rattle.readout.specs.Examples.{texts}

pub checked : all texts ≡ true
unfolding all same texts ascii decimal_in decimal signed_text field line refused_text low_first text_in words_text joined refused_out printed refusal_of
checked = refl
