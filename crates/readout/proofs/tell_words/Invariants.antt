use Rattle.std.proofs.Common.{◌≤◌, ◌-◌}
use Rattle.readout.proofs.tell_words.Given as goal

abbrev pub invariant-loop-t : goal.invariant-loop-t
invariant-loop-t l = l.s.words ≤ l.count

abbrev pub decreases-loop-t : goal.decreases-loop-t
decreases-loop-t l = l.count - l.s.words
