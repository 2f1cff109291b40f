use Rattle.std.proofs.Common.{◌≡◌, ◌-◌, ◌<◌, ℕ, get_or, length, arith, rules}
use Rattle.drill_script.proofs.Filling.{part_filled}
use Rattle.drill_script.proofs.words.fill.Goals as goal

pub returns : goal.returns
returns c =
    let n : length c.fill.new.self ≡ c.min-end.result - c.min-start.result = search rules in
    let e : (k : ℕ) → k < c.min-end.result - c.min-start.result → get_or c.fill.new.self k 0 ≡ c.args.value = λ k l. search rules in
    part_filled c.args.words.now c.fill.new.self _ _ c.args.from c.args.count c.args.value (omega arith) (omega arith) n e
