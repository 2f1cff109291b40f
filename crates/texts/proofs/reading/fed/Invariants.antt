use Rattle.std.proofs.Common.{◌≡◌, drop}
use Rattle.texts.specs.Reading.{held, Fits, fed}
use Rattle.texts.proofs.reading.fed.Given as goal

abbrev pub invariant-loop-b : goal.invariant-loop-b
invariant-loop-b l = (fed l.decimals (held l.x l.line l.words) (drop l.b-index l.piece) ≡ fed l.decimals (held l.initial.x l.initial.line l.initial.words) l.piece) × Fits l.x l.line
