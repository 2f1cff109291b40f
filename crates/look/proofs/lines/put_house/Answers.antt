use mathlib.Core.Path.{◌≡◌, refl}
use native.Mathlib.Omega.{arith}
use lib.ListN.{length}
use Rattle.decimal.specs.Texts.{ascii}
use Rattle.decimal.proofs.Texts.{exactly, roomy, ◌then◌}
use Rattle.report.proofs.Texts.{whole_is, put_as}
use Rattle.look.specs.Look.{look_of}
use borrow.Author.Rules.{rules}
use Rattle.look.proofs.lines.put_house.Goals as goal

pub put_partitions-requires : goal.put_partitions-requires
put_partitions-requires c = omega (arith, c.used.ensures)

pub returns : goal.returns
unfolding look_of ascii
returns c =
    let n : length c.args.out.now ≡ 17224 = search (rules, c.put_text-arg-1) in
    let h = c.args.h in
    let p = exactly c.put_text-first.ensures then c.put_turn-second.ensures then (rw c.used.ensures at c.put_partitions.ensures) in
    let e = whole_is (roomy 17224 p (omega (arith, c.used.ensures))) (omega (arith, n)) in record { out_after = put_as (look_of h) (look_of h) c.args.out.now _ _ e.0.0 e.0.1 refl; counts = e.1 }
