use Rattle.std.proofs.Common.{◌≡◌, drop}
use Rattle.decimal.specs.Raw.{raw}
use Rattle.decimal.specs.Texts.{text, put}
use Rattle.texts.proofs.put_words.Given as goal

abbrev pub invariant-loop-w : goal.invariant-loop-w
invariant-loop-w l = put (text l.out l.end) (raw (drop l.w-index l.words)) ≡ put (text l.initial.out 0) (raw l.words)
