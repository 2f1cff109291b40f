use mathlib.Core.Bool.{not}
use mathlib.Core.Path.{ap}
use Rattle.plain.proofs.Laws.{seen_inside, load_does, fits_left}
use Rattle.processor.proofs.Opcodes.{or_left}
use Rattle.dlx.specs.Fields.{loading, storing}
use Rattle.addresses.proofs.Entries.{placed_listed}
use Rattle.std.proofs.Common.{sym, refl, arith, eq-eqb}
use Rattle.plain.proofs.load.Goals as goal

-- src/lib.rt:136:9
pub fits-requires : goal.fits-requires
fits-requires c = or_left (loading c.args.o) (storing c.args.o) c.requires.loading

-- src/lib.rt:137:9
pub returns-then-not-fits : goal.returns-then-not-fits
returns-then-not-fits c = refl

-- src/lib.rt:139:9
pub seen-e-requires : goal.seen-e-requires
seen-e-requires c = record { listed = placed_listed c.requires.placed; shadow_length = c.requires.shadowed.count }

-- src/lib.rt:141:9
pub returns-then-e-ne1 : goal.returns-then-e-ne1
returns-then-e-ne1 c = refl

-- src/lib.rt:143:13
pub bounds-words-wide : goal.bounds-words-wide
bounds-words-wide c = let i = seen_inside _ _ (record { pto = 0; ptl = 0 }) c.args.words.now _ _ _ _ c.requires.placed c.requires.shadowed c.seen-e.ensures (eq-eqb _ _ c.if-e-ne1.false) in
    omega (arith, i, c.wide-2.ensures, c.wide.ensures)

-- src/lib.rt:144:19
pub bring-requires : goal.bring-requires
bring-requires c = record { loading = c.requires.loading; aligned = fits_left _ _ _ c.fits.ensures (ap not c.if-not-fits.false) }

-- src/lib.rt:118:1
pub returns : goal.returns
returns c = let e = c.put.ensures in
    λ page t. load_does _ _ c.args.p t page c.args.y c.args.regs.now c.args.words.now _ c.args.o c.args.x c.args.imm _ _ c.wrapping_add_u32-a.ensures.value (sym (fits_left c.args.o _ _ c.fits.ensures (ap not c.if-not-fits.false))) c.seen-e.ensures (eq-eqb _ _ c.if-e-ne1.false) _ _ _ _ _ (simp (c.wide-2.ensures, c.wide.ensures)) c.bring.ensures e.0 e.1
