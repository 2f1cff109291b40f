use Rattle.std.proofs.Common.{◌-◌, sym, arith}
use Rattle.decimal.specs.Texts.{ascii}
use Rattle.decimal.proofs.Texts.{roomy, ◌then◌}
use Rattle.drill_text.specs.Partitions.{longest}
use Rattle.drill_text.proofs.Listed.{listed_length, listed_most}
use Rattle.drill_text.proofs.partitions.arrays.Goals as goal

pub slice_bounds-row-end-3 : goal.slice_bounds-row-end-3
slice_bounds-row-end-3 c = sym (listed_length c.args.frames.now c.listed-n.ensures)

pub returns : goal.returns
unfolding ascii
returns c =
    rw (← c.listed-n.ensures)
    (roomy (longest - 388) (c.row-registered.ensures then c.row-framed.ensures then c.shadow.ensures)
    (omega (arith, c.requires, listed_most c.args.frames.now c.listed-n.ensures)))
