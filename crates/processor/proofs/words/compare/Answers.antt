use Rattle.std.proofs.Common.{w64, ne_eqb}
use mir.ValLaws.{to_z-of_z}
use Rattle.dlx.specs.Words.{holds}
use Rattle.dlx.proofs.Signed.{same_bits}
use Rattle.processor.proofs.words.compare.Goals as goal

pub returns-in-0 : goal.returns-in-0
unfolding holds
returns-in-0 c = simp c.in-0.is

pub returns-in-1 : goal.returns-in-1
unfolding holds
returns-in-1 c = simp (c.in-1.is, to_z-of_z w64 _ c.ranges.x, to_z-of_z w64 _ c.ranges.y)

pub returns-in-2 : goal.returns-in-2
unfolding holds
returns-in-2 c = simp (c.in-2.is, same_bits _ _ c.ranges.x c.ranges.y)

pub returns-in-3 : goal.returns-in-3
unfolding holds
returns-in-3 c = simp (c.in-3.is, to_z-of_z w64 _ c.ranges.x, to_z-of_z w64 _ c.ranges.y)

pub returns-in-4 : goal.returns-in-4
unfolding holds
returns-in-4 c = simp (c.in-4.is, to_z-of_z w64 _ c.ranges.x, to_z-of_z w64 _ c.ranges.y)

pub returns-in-5 : goal.returns-in-5
unfolding holds
returns-in-5 c = simp (c.in-5.is, same_bits _ _ c.ranges.x c.ranges.y)

pub returns-in-6 : goal.returns-in-6
unfolding holds
returns-in-6 c = simp (c.in-6.is, to_z-of_z w64 _ c.ranges.x, to_z-of_z w64 _ c.ranges.y)

pub returns-in_default : goal.returns-in_default
unfolding holds
returns-in_default c = let r = c.in_default.in_default-own.rest in
    simp (ne_eqb _ _ r.1, ne_eqb _ _ r.0.1, ne_eqb _ _ r.0.0.1, ne_eqb _ _ r.0.0.0.1, ne_eqb _ _ r.0.0.0.0.1, ne_eqb _ _ r.0.0.0.0.0.1, ne_eqb _ _ r.0.0.0.0.0.0.1)
