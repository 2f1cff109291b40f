use mathlib.Core.Path.{◌≡◌, ◌∙◌}
use Rattle.std.proofs.Common.{rules}
use Rattle.std.specs.List as std
use Rattle.boot.proofs.Places.{sum_is}
use Rattle.boot.proofs.total.Goals as goal

pub returns : goal.returns
returns c =
    let e : c.sum.result ≡ std.sum c.args.pages.now = search rules in
    e ∙ sum_is c.args.pages.now
