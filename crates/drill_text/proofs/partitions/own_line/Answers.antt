use Rattle.std.proofs.Common.{◌≡◌, length, arith, rules}
use Rattle.decimal.specs.Texts.{ascii}
use Rattle.decimal.proofs.Texts.{exactly, roomy, ◌then◌}
use Rattle.drill_text.proofs.partitions.own_line.Goals as goal

pub returns : goal.returns
unfolding ascii
returns c =
    let n : length c.args.specials.now ≡ 15 = search (rules, c.rest-arg-1) in
    roomy 388 (exactly c.put_text-named.ensures then c.number-numbered.ensures then c.number-paged.ensures then c.number-counted.ensures then c.rest.ensures) (omega arith)
