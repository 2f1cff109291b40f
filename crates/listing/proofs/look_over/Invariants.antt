use Rattle.std.proofs.Common.{◌≡◌, ◌+◌, ◌≤◌, length}
use Rattle.lines.specs.Listings.{lines_of, wrong_from}
use Rattle.listing.proofs.look_over.Given as goal

abbrev pub invariant-loop-line : goal.invariant-loop-line
invariant-loop-line l = (wrong_from (l.n + 1) (lines_of l.rest) ≡ wrong_from 1 (lines_of l.text)) × (l.n + length (lines_of l.rest) ≡ length (lines_of l.text)) × (l.n + length l.rest ≤ length l.text)

abbrev pub decreases-loop-line : goal.decreases-loop-line
decreases-loop-line l = length l.rest
