use Rattle.std.proofs.Common.{◌≡◌, length, arith, rules}
use Rattle.decimal.proofs.Texts.{within}
use Rattle.drill.proofs.told.finish.Goals as goal

pub written-requires : goal.written-requires
written-requires c =
    let n : length c.args.text.now ≡ 524288 = search rules in
    omega (arith, n, c.requires)

pub written-requires-2 : goal.written-requires-2
written-requires-2 c =
    let n : length c.wrong-told.new.text ≡ 524288 = search rules in
    omega (arith, n, within c.wrong-told.ensures, c.requires)
