use Rattle.std.proofs.Common.{true, false, refl, ◌∙◌}
use Rattle.decimal.specs.Texts.{ascii}
use Rattle.asked.specs.declared.asked.Awaits.TheVariants.{Partition, Frames, Image, ImageOrPartition}
use Rattle.asked.proofs.Taken.{took_as}
use Rattle.asked.proofs.asked.took_next.Goals as goal

pub returns-then-named : goal.returns-then-named
returns-then-named c = let a = c.args in rw c.awaiting_frames.ensures (took_as a.a a.pages.now a.frames.now a.table.now a.word.now a.n c.is-named.result (unfold ascii in c.is-named.ensures) Partition true c.in-Partition.is c.if-named.true)

pub returns-else-named : goal.returns-else-named
returns-else-named c = let a = c.args in took_as a.a a.pages.now a.frames.now a.table.now a.word.now a.n c.is-named.result (unfold ascii in c.is-named.ensures) Partition false c.in-Partition.is c.if-named.false

pub returns-in-Frames : goal.returns-in-Frames
returns-in-Frames c = let a = c.args in c.framed.ensures a.table.now ∙ took_as a.a a.pages.now a.frames.now a.table.now a.word.now a.n c.is-named.result (unfold ascii in c.is-named.ensures) Frames _ c.in-Frames.is refl

pub returns-then-named-2 : goal.returns-then-named-2
returns-then-named-2 c = let a = c.args in took_as a.a a.pages.now a.frames.now a.table.now a.word.now a.n c.is-named.result (unfold ascii in c.is-named.ensures) Image true c.in-Image.is c.if-named-2.true

pub returns-else-named-2 : goal.returns-else-named-2
returns-else-named-2 c = let a = c.args in c.imaged.ensures a.pages.now a.frames.now ∙ took_as a.a a.pages.now a.frames.now a.table.now a.word.now a.n c.is-named.result (unfold ascii in c.is-named.ensures) Image false c.in-Image.is c.if-named-2.false

pub returns-then-named-3 : goal.returns-then-named-3
returns-then-named-3 c = let a = c.args in rw c.awaiting_frames-then-named-3.ensures (took_as a.a a.pages.now a.frames.now a.table.now a.word.now a.n c.is-named.result (unfold ascii in c.is-named.ensures) ImageOrPartition true c.in-ImageOrPartition.is c.if-named-3.true)

pub returns-else-named-3 : goal.returns-else-named-3
returns-else-named-3 c = let a = c.args in c.imaged-else-named-3.ensures a.pages.now a.frames.now ∙ took_as a.a a.pages.now a.frames.now a.table.now a.word.now a.n c.is-named.result (unfold ascii in c.is-named.ensures) ImageOrPartition false c.in-ImageOrPartition.is c.if-named-3.false
