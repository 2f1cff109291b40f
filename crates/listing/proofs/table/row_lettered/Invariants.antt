use Rattle.std.proofs.Common.{◌≡◌, drop}
use Rattle.lines.specs.Table.{named}
use Rattle.lines.specs.Lines.{column, place_from, letters_of, lettered}
use Rattle.listing.proofs.Rows.{Keyed}
use Rattle.listing.specs.declared.table.Row.{Row as TableRow}
use Rattle.listing.proofs.table.row_lettered.Given as goal

abbrev pub invariant-loop-row : goal.invariant-loop-row
invariant-loop-row l = Keyed l.row-items (λ (r : TableRow). r.letters) (column letters_of named) × (place_from l.row-index (drop l.row-index (column letters_of named)) l.letters ≡ lettered l.letters)
