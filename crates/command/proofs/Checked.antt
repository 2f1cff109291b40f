-- The examples hold: the single claim about the rules.
use mathlib.Core.Path.{◌≡◌, refl}
use mathlib.Core.Bool.{true}
use Rattle.decimal.specs.Texts.{ascii, same}
use Rattle.command.specs.Words.{asks_help, with_digit, with_digits, number_of}
use Rattle.command.specs.Examples.{says, says_none, words, all}

pub checked : all words ≡ true
unfolding all words says says_none asks_help with_digit with_digits number_of ascii same
checked = refl
