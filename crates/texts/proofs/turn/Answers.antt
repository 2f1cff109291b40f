use Rattle.std.proofs.Common.{refl}
use Rattle.texts.specs.Reading.{no_words}
use Rattle.texts.proofs.turn.Goals as goal

pub read_text-requires-clause-words_zeros : goal.read_text-requires-clause-words_zeros
unfolding no_words
read_text-requires-clause-words_zeros c = refl
