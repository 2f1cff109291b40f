use Rattle.std.proofs.Common.{◌∙◌, arith, w64, le-ltb, lt-ltb}
use mir.ValLaws.{to_z_pos, to_z-of_z}
use Rattle.dlx.specs.Words.{read_in}
use Rattle.processor.proofs.words.reading.Goals as goal

pub overflow_sub-result : goal.overflow_sub-result
overflow_sub-result c =
    let x = c.args.x in
    simp (to_z_pos w64 x (omega arith), lt-ltb x 4294967296 (omega arith)) (record { sfits = omega arith })

pub returns-then-x-lt2147483648 : goal.returns-then-x-lt2147483648
unfolding read_in
returns-then-x-lt2147483648 c = simp (lt-ltb _ _ c.if-x-lt2147483648.true, to_z_pos w64 c.args.x (omega arith))

pub returns-else-x-lt2147483648 : goal.returns-else-x-lt2147483648
unfolding read_in
returns-else-x-lt2147483648 c =
    to_z-of_z w64 _ (overflow_sub-result c) ∙ simp (le-ltb _ _ c.if-x-lt2147483648.false, to_z_pos w64 c.args.x (omega arith))
