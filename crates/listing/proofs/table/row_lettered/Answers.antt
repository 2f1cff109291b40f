use Rattle.std.proofs.Common.{refl}
use Rattle.decimal.specs.Texts.{ascii}
use Rattle.lines.specs.Table.{named, unnamed, operand_at}
use Rattle.lines.specs.Lines.{lettered, column, letters_of, marked, scan_from, scanned}
use Rattle.listing.proofs.Rows.{row_on, row_found, row_none}
use Rattle.listing.proofs.table.row_lettered.Goals as goal

pub loop-row-init : goal.loop-row-init
unfolding named ascii column lettered letters_of marked scan_from scanned operand_at
loop-row-init c = (record { same = refl; keyed = refl }, refl)

pub returns-then-row-letters : goal.returns-then-row-letters
returns-then-row-letters c = let i = c.loop-row.invariant in row_found i.0 _ c.loop-row.row-index c.args.letters c.loop-row-test.true c.if-row-letters.true i.1

pub loop-row-preserved : goal.loop-row-preserved
loop-row-preserved c = let i = c.loop-row.invariant in (i.0, row_on i.0 _ c.loop-row.row-index c.args.letters c.loop-row-test.true c.if-row-letters.false i.1)

pub returns : goal.returns
unfolding unnamed ascii
returns c = let i = c.loop-row.invariant in row_none i.0 c.loop-row.row-index c.args.letters c.loop-row-test.false i.1
