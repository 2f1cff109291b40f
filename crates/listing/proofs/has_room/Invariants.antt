use Rattle.std.proofs.Common.{◌≡◌, ◌+◌, ◌≤◌, length, drop}
use Rattle.lines.specs.Listings.{listing}
use Rattle.listing.proofs.has_room.Given as goal

abbrev pub invariant-loop-w : goal.invariant-loop-w
invariant-loop-w l = (l.left + length (listing l.words) ≡ l.room + length (listing (drop l.w-index l.words))) × (l.left ≤ l.room)
