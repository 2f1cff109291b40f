use Rattle.std.proofs.Common.{◌≡◌, ◌+◌, length}
use Rattle.lines.specs.Listings.{lines_of, words_of}
use Rattle.std.proofs.Math.Seq.{sets}
use Rattle.listing.proofs.write_words.Given as goal

abbrev pub invariant-loop-line : goal.invariant-loop-line
invariant-loop-line l = (sets l.out l.n (words_of (lines_of l.rest)) ≡ sets l.initial.out 0 (words_of (lines_of l.text))) × (l.n + length (lines_of l.rest) ≡ length (lines_of l.text))

abbrev pub decreases-loop-line : goal.decreases-loop-line
decreases-loop-line l = length l.rest
