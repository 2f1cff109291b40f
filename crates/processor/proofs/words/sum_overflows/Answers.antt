use Rattle.std.proofs.Common.{◌+ℤ◌}
use Rattle.dlx.proofs.Signed.{sum_fits, result_fits, result_outside}
use Rattle.processor.proofs.words.sum_overflows.Goals as goal

pub overflow_add-z : goal.overflow_add-z
overflow_add-z c =
    let f = c.ranges in
    result_fits ◌+ℤ◌ c.reading.ensures c.reading-2.ensures c.reading.type_inv c.reading-2.type_inv (sum_fits _ _ f.x.fits f.y.fits)

pub returns : goal.returns
returns c =
    let f = c.ranges in
    result_outside ◌+ℤ◌ c.reading.ensures c.reading-2.ensures c.reading.type_inv c.reading-2.type_inv (sum_fits _ _ f.x.fits f.y.fits)
    c.outside.ensures
