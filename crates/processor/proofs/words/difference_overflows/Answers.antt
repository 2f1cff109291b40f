use Rattle.std.proofs.Common.{◌-ℤ◌}
use Rattle.dlx.proofs.Signed.{difference_fits, result_fits, result_outside}
use Rattle.processor.proofs.words.difference_overflows.Goals as goal

pub overflow_sub-z : goal.overflow_sub-z
overflow_sub-z c =
    let f = c.ranges in
    result_fits ◌-ℤ◌ c.reading.ensures c.reading-2.ensures c.reading.type_inv c.reading-2.type_inv (difference_fits _ _ f.x.fits f.y.fits)

pub returns : goal.returns
returns c =
    let f = c.ranges in
    result_outside ◌-ℤ◌ c.reading.ensures c.reading-2.ensures c.reading.type_inv c.reading-2.type_inv (difference_fits _ _ f.x.fits f.y.fits)
    c.outside.ensures
