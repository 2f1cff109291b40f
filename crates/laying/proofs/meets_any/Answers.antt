use Rattle.std.proofs.Common.{◌≡◌, ℕ, ◌<◌, true, false, MatchBool, rules}
use Rattle.std.proofs.iter.runs.Sources.{ranges}
use Rattle.laying.specs.Laid.{meeting}
use Rattle.laying.proofs.Meeting.{any_told}
use Rattle.laying.proofs.meets_any.Goals as goal

pub returns : goal.returns
returns c =
    let p = meeting c.args.table.now c.args.counts.now c.args.k c.args.n in
    let f : MatchBool c.any.result ((j : ℕ) × (j < c.args.k) × (p j ≡ true)) ((j : ℕ) → j < c.args.k → p j ≡ false) = search (rules, ranges) in
    any_told p c.args.k c.any.result f
