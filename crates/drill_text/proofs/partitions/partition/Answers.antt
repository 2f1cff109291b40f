use Rattle.std.proofs.Common.{sym, ◌∙◌, arith}
use Rattle.decimal.proofs.Texts.{nothing, roomy, ◌then◌}
use Rattle.drill_text.specs.Partitions.{longest, partition_of}
use Rattle.drill_text.proofs.partitions.partition.Goals as goal

pub returns-then-blank : goal.returns-then-blank
unfolding partition_of
returns-then-blank c = rw (sym c.blank.ensures ∙ c.if-blank.true) (roomy longest nothing (omega arith))

pub arrays-requires : goal.arrays-requires
arrays-requires c = c.requires

pub returns : goal.returns
unfolding partition_of
returns c = rw (sym c.blank.ensures ∙ c.if-blank.false) (c.own-told.ensures then c.arrays.ensures)
