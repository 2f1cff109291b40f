use lib.ListN.{length}
use native.Mathlib.Omega.{arith}
use mathlib.Core.Path.{◌≡◌, refl}
use Rattle.house.proofs.Refusals.{not_0}
use Rattle.report.proofs.Texts.{whole_is, put_as}
use Rattle.look.specs.Look.{printed}
use borrow.Author.Rules.{rules}
use Rattle.look.proofs.text_of.Goals as goal

pub returns-in-Ok-clause-by_index : goal.returns-in-Ok-clause-by_index
unfolding printed
returns-in-Ok-clause-by_index c given m = rw c.in-Ok.is c.put_house.ensures.out_after

pub returns-in-Err-clause-by_index : goal.returns-in-Err-clause-by_index
unfolding printed
returns-in-Err-clause-by_index c given m =
    let n : length c.args.out.now ≡ 17224 = search rules in
    let e = whole_is c.put_refusal.ensures (omega (arith, n)) in
    rw (c.in-Err.is, not_0 c.in-Err.refusal) (put_as _ _ _ _ _ e.0.0 e.0.1 refl)

pub returns-in-Err-clause-counts : goal.returns-in-Err-clause-counts
returns-in-Err-clause-counts c =
    let n : length c.args.out.now ≡ 17224 = search rules in
    (whole_is c.put_refusal.ensures (omega (arith, n))).1
