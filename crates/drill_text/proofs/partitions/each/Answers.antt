use Rattle.std.proofs.Common.{ℕ, ◌*◌, get_or, arith}
use Rattle.dlx.specs.Parts.{inner}
use Rattle.addresses.specs.Walk.{entries}
use Rattle.house.specs.House.{no_partition}
use Rattle.drill_text.specs.Partitions.{longest, partition_of}
use Rattle.decimal.proofs.Texts.{parts_begin, parts_on, parts_end}
use Rattle.drill_text.proofs.partitions.each.Goals as goal

pub loop-i-init : goal.loop-i-init
loop-i-init c = parts_begin _ longest

pub nth-end-requires : goal.nth-end-requires
nth-end-requires c = record { i_bound = c.loop-i-test.true; registers_length = c.requires.registers_length; frames_length = c.requires.frames_length; shadows_length = c.requires.shadows_length }

pub loop-i-preserved : goal.loop-i-preserved
loop-i-preserved c =
    let a = c.args in
    parts_on (λ (k : ℕ). partition_of k (get_or a.parts k no_partition) (inner (k * 32) 32 a.registers.now) (inner (k * 256) 256 a.frames.now) (inner (k * entries) entries a.shadows.now)) longest c.loop-i.i c.loop-i.invariant c.nth-end.ensures

pub returns : goal.returns
returns c = parts_end _ longest c.loop-i.i 8 (omega arith) (omega arith) c.loop-i.invariant
