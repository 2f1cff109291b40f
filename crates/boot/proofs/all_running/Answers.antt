use mathlib.Core.Path.{◌≡◌, ◌∙◌, ap}
use mathlib.Core.Bool.{true, false}
use mathlib.Core.List.{◌++◌}
use Prim.Native.Nat.{◌+◌}
use native.Mathlib.Omega.{arith}
use borrow.Rule.Slice.PartMut.{put_mid}
use lib.ListN.{drop, replicate}
use Rattle.std.proofs.lemmas.List.{length-take-le, length-replicate, get_or-replicate}
use Rattle.boot.specs.Places.{filled}
use Rattle.boot.proofs.Places.{filled_none, filled_part, filled_flags}
use Rattle.boot.proofs.all_running.Goals as goal

pub returns : goal.returns
returns c =
    let n = c.args.count in
    let e = c.fill.ensures.after (λ y h. h) ∙ ap (λ k. replicate k true) (length-take-le n (replicate 8 false) (omega arith)) in
    let z : 0 + n ≡ n = omega arith in
    ap (λ ys. ys ++ drop n (replicate 8 false)) e
    ∙ ap (λ l. put_mid 0 n l (replicate n true)) (filled_none (λ _. true) false 8)
    ∙ filled_part (λ _. true) false 8 0 n (replicate n true) (omega arith) (length-replicate n true) (λ j l. get_or-replicate n j true false l)
    ∙ ap (filled (λ _. true) false 8) z
    ∙ filled_flags 8 n
