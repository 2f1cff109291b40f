use Rattle.std.proofs.Common.{◌≡◌, length, arith, rules}
use Rattle.decimal.specs.Texts.{ascii}
use Rattle.decimal.proofs.Texts.{exactly, roomy, ◌then◌}
use Rattle.drill_text.proofs.lines.house_line.Goals as goal

pub returns : goal.returns
unfolding ascii
returns c =
    let n : length c.args.own.now ≡ 5 = search (rules, c.numbers-arg-1) in
    roomy 279 (exactly c.put_text-named.ensures then c.numbers-told.ensures then c.flags-flagged.ensures then exactly c.put_byte.ensures) (omega arith)
