use Rattle.std.proofs.Common.{◌≡◌, drop}
use Rattle.decimal.specs.Texts.{text, put}
use Rattle.lines.specs.Listings.{listing}
use Rattle.list.specs.Words.{rest_behind, words_behind}
use Rattle.list.proofs.words.put_words.Given as goal

abbrev pub invariant-loop-b : goal.invariant-loop-b
invariant-loop-b l = (put (text l.out l.end) (listing (words_behind l.rest (drop l.b-index l.piece))) ≡ put (text l.initial.out 0) (listing (words_behind l.initial.rest l.piece))) × (rest_behind l.rest (drop l.b-index l.piece) ≡ rest_behind l.initial.rest l.piece)
