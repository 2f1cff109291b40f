use Rattle.std.proofs.Common.{◌≡◌, take, drop}
use Rattle.housefile.specs.Records.{words_of}
use Rattle.restore.proofs.records.words_of.Given as goal

abbrev pub invariant-loop-i : goal.invariant-loop-i
invariant-loop-i l = take l.i l.w-items ≡ words_of l.i (drop 6 l.held)
