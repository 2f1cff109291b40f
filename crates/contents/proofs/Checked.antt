-- The examples hold: the single claim about files of contents.
use mathlib.Core.Path.{◌≡◌, refl}
use mathlib.Core.Bool.{true}
use Rattle.dlx.specs.Parts.{inner}
use Rattle.decimal.specs.Texts.{same}
use Rattle.house.specs.Boot.{offset}
use Rattle.save.specs.Saved.{little, all_bytes, record_of, records, frame_words}
use Rattle.contents.specs.Contents.{list_words, before_frames, contents_file}
use Rattle.contents.specs.Examples.{memory, three, written, part, files, all}

pub checked : all files ≡ true
unfolding all files memory three written part inner same offset little all_bytes record_of records frame_words list_words before_frames contents_file
checked = refl
