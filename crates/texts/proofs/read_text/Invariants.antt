use Rattle.std.proofs.Common.{◌-◌, ◌^◌}
use Rattle.texts.specs.Reading.{held, Fits, Behind}
use Rattle.texts.proofs.read_text.Given as goal

abbrev pub invariant-loop-bytes : goal.invariant-loop-bytes
invariant-loop-bytes l = Behind l.decimals (held l.at l.line l.words) l.bytes × Fits l.at l.line

abbrev pub decreases-loop-bytes : goal.decreases-loop-bytes
decreases-loop-bytes l = 2 ^ 64 - l.bytes
