-- The examples hold.
use Rattle.std.proofs.Common.{◌≡◌, true, refl}
use Rattle.dlx.specs.Parts.{outer}
use Rattle.housefile.specs.Records.{number, words_of, may_come, record_right, with_record, verdict_of, read_from, reading_of}
use Rattle.housefile.specs.Reader.{further, spoils, placed, completed, settled, took, fed, answer_of}
use Rattle.housefile.specs.Examples.{bytes, words, times, made, turns, list, frame, end, is_wrong, same, is_right, word, both, wrong_at, says, files, all}

pub checked : all files ≡ true
unfolding all files bytes words times made turns list frame end is_wrong same is_right word both wrong_at says number words_of may_come record_right with_record verdict_of read_from reading_of outer further spoils placed completed settled took fed answer_of
checked = refl
