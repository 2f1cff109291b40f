use native.Mathlib.Omega.{arith}
use Rattle.decimal.proofs.Texts.{text_on, text_done}
use Rattle.decimal.proofs.put_text.Goals as goal

pub loop-b-preserved : goal.loop-b-preserved
loop-b-preserved c =
    let l = c.loop-b in
    (text_on l.out l.end c.args.more.now l.b-index c.loop-b-test.true l.invariant.0 c.put_byte-end.ensures, omega (arith, l.invariant.1, c.put_byte-end.auto))

pub returns : goal.returns
returns c = text_done _ _ _ c.loop-b.b-index c.loop-b-test.false c.loop-b.invariant.0
