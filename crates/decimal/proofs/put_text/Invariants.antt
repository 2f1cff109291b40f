use mathlib.Core.Path.{◌≡◌}
use lib.ListN.{length, drop}
use Rattle.decimal.specs.Texts.{text, put}
use Rattle.decimal.proofs.put_text.Given as goal

abbrev pub invariant-loop-b : goal.invariant-loop-b
invariant-loop-b l = (put (text l.out l.end) (drop l.b-index l.more) ≡ put (text l.initial.out l.at) l.more) × (length l.out ≡ length l.initial.out)
