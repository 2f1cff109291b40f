-- The examples hold: the single claim about noon's words.
use Rattle.std.proofs.Common.{◌≡◌, true, refl}
use Rattle.decimal.specs.Texts.{ascii, same}
use Rattle.command.specs.Words.{with_digit, with_digits, number_of}
use Rattle.asked.specs.Words.{row_ended, row_took, row_fed, row_of, counted, last_at, address_of}
use Rattle.asked.specs.Asked.{framed, imaged, took_word, took_words}
use Rattle.asked.specs.Examples.{lists, no_list, no_list_behind, no_digit, image, no_image, texts, asked, stands, comes, wrong_words, wrong_where, words, all}

pub checked : all words ≡ true
unfolding all words lists no_list no_list_behind no_digit image no_image texts asked stands comes wrong_words wrong_where ascii same with_digit with_digits number_of row_ended row_took row_fed row_of counted last_at address_of framed imaged took_word took_words
checked = refl
