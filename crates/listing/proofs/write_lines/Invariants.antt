use Rattle.std.proofs.Common.{◌≡◌, drop}
use Rattle.decimal.specs.Texts.{text, put}
use Rattle.lines.specs.Listings.{listing}
use Rattle.listing.proofs.write_lines.Given as goal

abbrev pub invariant-loop-w : goal.invariant-loop-w
invariant-loop-w l = put (text l.out l.end) (listing (drop l.w-index l.words)) ≡ put (text l.initial.out 0) (listing l.words)
