use Rattle.std.proofs.Common.{◌≡◌, ◌-◌, ◌≤◌, length, drop}
use Rattle.save.specs.Reading.{fed}
use Rattle.restore.specs.Standing.{reading_at, Standing}
use Rattle.restore.proofs.reading.read_bytes.Given as goal

abbrev pub invariant-loop-i : goal.invariant-loop-i
invariant-loop-i l = record {
  same : fed (reading_at l.reader l.house l.held l.memory) (drop l.i l.piece) ≡ fed (reading_at l.initial.reader l.initial.house l.initial.held l.initial.memory) l.piece;
  within : l.i ≤ length l.piece;
  standing : Standing l.reader l.house l.memory;
}

abbrev pub decreases-loop-i : goal.decreases-loop-i
decreases-loop-i l = length l.piece - l.i
