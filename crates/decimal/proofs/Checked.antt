-- The examples hold: the single claim about the rules.
use mathlib.Core.Path.{◌≡◌, refl}
use mathlib.Core.Bool.{true}
use Rattle.decimal.specs.Decimals.{decimal_in, decimal, signed_text}
use Rattle.decimal.specs.Texts.{ascii, same}
use Rattle.decimal.specs.Examples.{all, numbers}

pub checked : all numbers ≡ true
unfolding all same numbers ascii decimal_in decimal signed_text
checked = refl
