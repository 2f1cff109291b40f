use Rattle.processor.proofs.Opcodes.{masks}
use Rattle.std.proofs.Common.{Bool, ◌&&◌, ltb, ap}
use Rattle.plain.proofs.fits.Goals as goal

-- src/lib.rt:110:1
pub returns : goal.returns
returns c = ap (λ (b : Bool). b && ltb c.args.a 4194304) (masks c.args.a c.args.o c.requires)
