use Rattle.std.proofs.Common.{◌%◌, arith, ne_eqb, le-leb}
use Rattle.dlx.specs.Instructions.{register_type}
use borrow.Author.Tests.{lt-leb}
use Rattle.processor.proofs.instruction.read_register_type.Goals as goal

pub returns-then-sa-le-TLOAD : goal.returns-then-sa-le-TLOAD
unfolding register_type
returns-then-sa-le-TLOAD c = simp (c.wide-rd.ensures, le-leb _ _ c.if-sa-le-TLOAD.true, c.in-16.is)

pub returns-then-sa-le-TLOAD-2 : goal.returns-then-sa-le-TLOAD-2
unfolding register_type
returns-then-sa-le-TLOAD-2 c = simp (c.wide-rs1.ensures, le-leb _ _ c.if-sa-le-TLOAD-2.true, c.in-17.is)

pub returns-in-32 : goal.returns-in-32
unfolding register_type
returns-in-32 c = simp (c.wide-rd.ensures, c.wide-rs2.ensures, c.wide-rs1.ensures, c.in-32.is)

pub returns-in-34 : goal.returns-in-34
unfolding register_type
returns-in-34 c = simp (c.wide-rd.ensures, c.wide-rs2.ensures, c.wide-rs1.ensures, c.in-34.is)

pub returns-in-36 : goal.returns-in-36
unfolding register_type
returns-in-36 c = simp (c.wide-rd.ensures, c.wide-rs2.ensures, c.wide-rs1.ensures, c.in-36.is)

pub returns-in-37 : goal.returns-in-37
unfolding register_type
returns-in-37 c = simp (c.wide-rd.ensures, c.wide-rs2.ensures, c.wide-rs1.ensures, c.in-37.is)

pub returns-in-38 : goal.returns-in-38
unfolding register_type
returns-in-38 c = simp (c.wide-rd.ensures, c.wide-rs2.ensures, c.wide-rs1.ensures, c.in-38.is)

pub returns-else-sa-le-TLOAD : goal.returns-else-sa-le-TLOAD
unfolding register_type
returns-else-sa-le-TLOAD c = simp (lt-leb _ _ c.if-sa-le-TLOAD.false, c.in-16.is)

pub returns-else-sa-le-TLOAD-2 : goal.returns-else-sa-le-TLOAD-2
unfolding register_type
returns-else-sa-le-TLOAD-2 c = simp (lt-leb _ _ c.if-sa-le-TLOAD-2.false, c.in-17.is)

pub returns-in-40-to-47 : goal.returns-in-40-to-47
unfolding register_type
returns-in-40-to-47 c = simp (c.wide-rd.ensures, c.wide-rs2.ensures, c.wide-rs1.ensures, le-leb (c.args.w % 64) 47 (omega (arith, c.in-40-to-47.if-function-lt48-own.true)), le-leb _ _ c.in-40-to-47.if-function-lt40-own.false, ne_eqb _ _ c.in-40-to-47.in_default-own.rest.1, ne_eqb _ _ c.in-40-to-47.in_default-own.rest.0.1, ne_eqb _ _ c.in-40-to-47.in_default-own.rest.0.0.1, ne_eqb _ _ c.in-40-to-47.in_default-own.rest.0.0.0.1, ne_eqb _ _ c.in-40-to-47.in_default-own.rest.0.0.0.0.1, ne_eqb _ _ c.in-40-to-47.in_default-own.rest.0.0.0.0.0.1, ne_eqb _ _ c.in-40-to-47.in_default-own.rest.0.0.0.0.0.0.1)

pub returns-in_default : goal.returns-in_default
unfolding register_type
returns-in_default c = simp (lt-leb _ _ c.in_default.if-function-lt40-own.true, ne_eqb _ _ c.in_default.in_default-own.rest.1, ne_eqb _ _ c.in_default.in_default-own.rest.0.1, ne_eqb _ _ c.in_default.in_default-own.rest.0.0.1, ne_eqb _ _ c.in_default.in_default-own.rest.0.0.0.1, ne_eqb _ _ c.in_default.in_default-own.rest.0.0.0.0.1, ne_eqb _ _ c.in_default.in_default-own.rest.0.0.0.0.0.1, ne_eqb _ _ c.in_default.in_default-own.rest.0.0.0.0.0.0.1)

pub returns-in_default-2 : goal.returns-in_default-2
unfolding register_type
returns-in_default-2 c = simp (lt-leb (c.args.w % 64) 47 (omega (arith, c.in_default.if-function-lt48-own.false)), le-leb _ _ c.in_default.if-function-lt40-own.false, ne_eqb _ _ c.in_default.in_default-own.rest.1, ne_eqb _ _ c.in_default.in_default-own.rest.0.1, ne_eqb _ _ c.in_default.in_default-own.rest.0.0.1, ne_eqb _ _ c.in_default.in_default-own.rest.0.0.0.1, ne_eqb _ _ c.in_default.in_default-own.rest.0.0.0.0.1, ne_eqb _ _ c.in_default.in_default-own.rest.0.0.0.0.0.1, ne_eqb _ _ c.in_default.in_default-own.rest.0.0.0.0.0.0.1)
