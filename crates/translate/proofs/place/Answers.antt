use native.Mathlib.Omega.{arith}
use Rattle.translate.proofs.Placing.{half, byte, places_word, places_less, places_lt, places_field}
use Rattle.translate.proofs.place.Goals as goal

pub returns-then-o-eq1 : goal.returns-then-o-eq1
returns-then-o-eq1 c = places_word c.args.o c.args.a c.args.v c.args.x c.requires.storing c.requires.aligned (omega arith) (omega arith) c.if-o-eq1.true

pub overflow_sub-result : goal.overflow_sub-result
overflow_sub-result c = places_less c.args.o c.args.a c.args.v c.args.x c.requires.storing c.requires.aligned 16 (half c.args.o c.args.a c.args.v c.args.x c.requires.storing c.requires.aligned c.if-o-eq1.false c.if-o-eq1-2.true)

pub overflow_add-result : goal.overflow_add-result
overflow_add-result c = record { fits = places_lt c.args.o c.args.a c.args.v c.args.x c.requires.storing c.requires.aligned 16 (half c.args.o c.args.a c.args.v c.args.x c.requires.storing c.requires.aligned c.if-o-eq1.false c.if-o-eq1-2.true) (omega arith) }

pub returns-then-o-eq1-2 : goal.returns-then-o-eq1-2
returns-then-o-eq1-2 c = places_field c.args.o c.args.a c.args.v c.args.x c.requires.storing c.requires.aligned 16 (half c.args.o c.args.a c.args.v c.args.x c.requires.storing c.requires.aligned c.if-o-eq1.false c.if-o-eq1-2.true)

pub overflow_sub-result-2 : goal.overflow_sub-result-2
overflow_sub-result-2 c = places_less c.args.o c.args.a c.args.v c.args.x c.requires.storing c.requires.aligned 8 (byte c.args.o c.args.a c.args.v c.args.x c.requires.storing c.requires.aligned c.if-o-eq1.false c.if-o-eq1-2.false)

pub overflow_add-result-2 : goal.overflow_add-result-2
overflow_add-result-2 c = record { fits = places_lt c.args.o c.args.a c.args.v c.args.x c.requires.storing c.requires.aligned 8 (byte c.args.o c.args.a c.args.v c.args.x c.requires.storing c.requires.aligned c.if-o-eq1.false c.if-o-eq1-2.false) (omega arith) }

pub returns : goal.returns
returns c = places_field c.args.o c.args.a c.args.v c.args.x c.requires.storing c.requires.aligned 8 (byte c.args.o c.args.a c.args.v c.args.x c.requires.storing c.requires.aligned c.if-o-eq1.false c.if-o-eq1-2.false)
