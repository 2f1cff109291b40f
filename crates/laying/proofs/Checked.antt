-- The examples hold: the single claim about images.
use Rattle.std.proofs.Common.{◌≡◌, true, refl}
use Rattle.dlx.specs.Parts.{inner}
use Rattle.decimal.specs.Decimals.{decimal_in, decimal}
use Rattle.decimal.specs.Texts.{ascii, same}
use Rattle.house.specs.Boot.{offset}
use Rattle.house.specs.Lists.{any}
use Rattle.housefile.specs.Records.{number}
use Rattle.report.specs.Report.{field}
use Rattle.contents.specs.Contents.{list_words}
use Rattle.laying.specs.Laid.{word_at, laid_words, sum_words, fault_of, laid_image, memory_of}
use Rattle.laying.specs.Slip.{place_text, slip_text}
use Rattle.laying.specs.Examples.{bytes, memory, holds, table, laid, fault, images, all}

pub checked : all images ≡ true
unfolding all images bytes memory holds table laid fault inner decimal decimal_in ascii same offset any number field list_words word_at laid_words sum_words fault_of laid_image memory_of place_text slip_text
checked = refl
