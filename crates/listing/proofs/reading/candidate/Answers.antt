use Rattle.listing.proofs.Pieces.{scan_fold, candidate_is}
use Rattle.lines.specs.Lines.{start}
use Rattle.std.proofs.Common.{◌∙◌}
use Rattle.listing.proofs.reading.candidate.Goals as goal

pub returns : goal.returns
returns c = candidate_is c.args.line.now (c.scan_of-s.ensures ∙ scan_fold start c.args.line.now) c.row_lettered-row.ensures c.last.ensures c.made.ensures
