use Rattle.std.proofs.Common.{take, ◌*◌}
use Rattle.decimal.specs.Texts.{Puts}
use Rattle.save.specs.Saved.{all_bytes}
use Rattle.saver.proofs.head.put_words.Given as goal

abbrev pub invariant-loop-w : goal.invariant-loop-w
invariant-loop-w l = Puts l.initial.out l.at l.out l.end (all_bytes (take l.w-index l.words)) (4 * l.w-index)
