-- The rows of the code's table.
use Rattle.lines.specs.Table.{Row}
use Rattle.listing.specs.declared.table.Row.{Row as TableRow}

-- as the one table has it
abbrev pub as_row : TableRow → Row
as_row r = record { name = r.name.now; code = r.code; first = r.first; second = r.second; third = r.third }
