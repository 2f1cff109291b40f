use Rattle.addresses.specs.Memory.{hosted}
use Rattle.addresses.specs.Walk.{direct}
use Prim.Native.Nat.{◌*◌}
use native.Mathlib.Omega.{arith}
use borrow.Author.Tests.{lt-ltb, le-ltb}
use Rattle.translate.proofs.straight.Goals as goal

pub returns-then-page-pages : goal.returns-then-page-pages
unfolding hosted direct
returns-then-page-pages c = simp (le-ltb c.args.a (4096 * c.args.pages) (omega (arith, c.if-page-pages.true)))

pub overflow_mul-result : goal.overflow_mul-result
overflow_mul-result c = omega (arith, c.requires.low c.wide.result (omega (arith, c.wide.ensures, c.if-page-pages.false)))

pub overflow_add-result : goal.overflow_add-result
overflow_add-result c = omega (arith, c.requires.low c.wide.result (omega (arith, c.wide.ensures, c.if-page-pages.false)))

pub returns : goal.returns
unfolding hosted direct
returns c = simp (lt-ltb c.args.a (4096 * c.args.pages) (omega (arith, c.if-page-pages.false)), c.wide.ensures) (omega arith)
