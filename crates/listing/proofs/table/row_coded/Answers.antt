use Rattle.std.proofs.Common.{refl}
use Rattle.decimal.specs.Texts.{ascii}
use Rattle.lines.specs.Table.{named, unnamed}
use Rattle.lines.specs.Lines.{coded, column}
use Rattle.listing.proofs.Rows.{row_on, row_found, row_none}
use Rattle.listing.proofs.table.row_coded.Goals as goal

pub loop-row-init : goal.loop-row-init
unfolding named ascii column coded
loop-row-init c = (record { same = refl; keyed = refl }, refl)

pub returns-then-row-code : goal.returns-then-row-code
returns-then-row-code c = let i = c.loop-row.invariant in row_found i.0 _ c.loop-row.row-index c.args.code c.loop-row-test.true c.if-row-code.true i.1

pub loop-row-preserved : goal.loop-row-preserved
loop-row-preserved c = let i = c.loop-row.invariant in (i.0, row_on i.0 _ c.loop-row.row-index c.args.code c.loop-row-test.true c.if-row-code.false i.1)

pub returns : goal.returns
unfolding unnamed ascii
returns c = let i = c.loop-row.invariant in row_none i.0 c.loop-row.row-index c.args.code c.loop-row-test.false i.1
