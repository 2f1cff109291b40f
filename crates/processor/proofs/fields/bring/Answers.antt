use Rattle.std.proofs.Common.{◌*◌, ◌%◌, refl, ◌∙◌, arith}
use Rattle.processor.proofs.Opcodes.{brings_word, brings_half_signed, brings_half, brings_byte_signed, brings_byte}
use Rattle.processor.proofs.fields.bring.Goals as goal

pub returns-then-o-eq1 : goal.returns-then-o-eq1
returns-then-o-eq1 c = brings_word c.args.a c.args.x _ refl c.args.o c.requires.loading (omega arith) c.requires.aligned c.if-o-eq1.true

pub extend-requires : goal.extend-requires
extend-requires c = (15, omega arith, refl)

pub returns-then-o-eq0 : goal.returns-then-o-eq0
returns-then-o-eq0 c = c.extend.ensures
    ∙ brings_half_signed c.args.a c.args.x (c.args.a % 4 * 8) (omega arith) c.args.o c.requires.loading c.if-o-eq1.false c.if-o-eq1-2.true c.if-o-eq0.true

pub returns-then-o-eq1-2 : goal.returns-then-o-eq1-2
returns-then-o-eq1-2 c = brings_half c.args.a c.args.x (c.args.a % 4 * 8) (omega arith) c.args.o c.requires.loading c.if-o-eq1.false c.if-o-eq1-2.true c.if-o-eq0.false

pub extend-requires-then-o-eq0-2 : goal.extend-requires-then-o-eq0-2
extend-requires-then-o-eq0-2 c = (7, omega arith, refl)

pub returns-then-o-eq0-2 : goal.returns-then-o-eq0-2
returns-then-o-eq0-2 c = c.extend-then-o-eq0-2.ensures
    ∙ brings_byte_signed c.args.a c.args.x (c.args.a % 4 * 8) (omega arith) c.args.o c.requires.loading c.if-o-eq1.false c.if-o-eq1-2.false c.if-o-eq0-2.true

pub returns : goal.returns
returns c = brings_byte c.args.a c.args.x (c.args.a % 4 * 8) (omega arith) c.args.o c.requires.loading c.if-o-eq1.false c.if-o-eq1-2.false c.if-o-eq0-2.false
