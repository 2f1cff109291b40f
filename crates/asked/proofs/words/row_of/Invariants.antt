use Rattle.std.proofs.Common.{◌≡◌, Ok, length, drop}
use Rattle.asked.specs.Words.{rowed, no_row, row_fed}
use Rattle.asked.proofs.words.row_of.Given as goal

abbrev pub invariant-loop-b : goal.invariant-loop-b
invariant-loop-b l = (row_fed l.at (rowed (Ok l.r) l.frames) (drop l.b-index l.word) ≡ row_fed l.at (rowed (Ok no_row) l.initial.frames) l.word) × (length l.frames ≡ length l.initial.frames)
