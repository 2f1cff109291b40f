use Rattle.std.proofs.Common.{sym, eq-eqb, ne_eqb}
use Rattle.dlx.specs.Execute.{reached}
use Rattle.processor.proofs.Opcodes.{masks}
use Rattle.processor.proofs.execute.reach.Goals as goal

pub returns-then-address-o-eq0 : goal.returns-then-address-o-eq0
unfolding reached
returns-then-address-o-eq0 c = simp (sym (masks c.args.address c.args.o c.requires), eq-eqb _ _ c.if-address-o-eq0.true)

pub returns : goal.returns
unfolding reached
returns c = simp (sym (masks c.args.address c.args.o c.requires), ne_eqb _ _ c.if-address-o-eq0.false)
