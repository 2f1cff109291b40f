use Rattle.std.proofs.Common.{◌≡◌, drop}
use Rattle.lines.specs.Table.{Row, named}
use Rattle.lines.specs.Lines.{column, place_from, coded}
use Rattle.listing.proofs.Rows.{Keyed}
use Rattle.listing.specs.declared.table.Row.{Row as TableRow}
use Rattle.listing.proofs.table.row_coded.Given as goal

abbrev pub invariant-loop-row : goal.invariant-loop-row
invariant-loop-row l = Keyed l.row-items (λ (r : TableRow). r.code) (column (λ (r : Row). r.code) named) × (place_from l.row-index (drop l.row-index (column (λ (r : Row). r.code) named)) l.code ≡ coded l.code)
