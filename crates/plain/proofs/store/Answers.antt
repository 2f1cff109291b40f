use mathlib.Core.Bool.{not}
use mathlib.Core.Path.{ap}
use Rattle.plain.proofs.Laws.{seen_inside, store_does, not_held, fits_left}
use Rattle.processor.proofs.Opcodes.{or_right}
use Rattle.dlx.specs.Fields.{loading, storing}
use Rattle.addresses.proofs.Entries.{placed_listed}
use Rattle.std.proofs.Common.{◌+◌, ◌*◌, ◌/◌, ◌%◌, ◌^◌, sym, refl, arith, eq-eqb, ne_eqb}
use Rattle.plain.proofs.store.Goals as goal

-- src/lib.rt:166:9
pub fits-requires : goal.fits-requires
fits-requires c = or_right (loading c.args.o) (storing c.args.o) c.requires.storing

-- src/lib.rt:167:9
pub returns-then-not-fits : goal.returns-then-not-fits
returns-then-not-fits c = refl

-- src/lib.rt:169:9
pub seen-e-requires : goal.seen-e-requires
seen-e-requires c = record { listed = placed_listed c.requires.placed; shadow_length = c.requires.shadowed.count }

-- src/lib.rt:171:9
pub returns-then-e-ne2 : goal.returns-then-e-ne2
returns-then-e-ne2 c = refl

-- src/lib.rt:175:9
pub returns-then-frame-held : goal.returns-then-frame-held
returns-then-frame-held c = refl

-- src/lib.rt:178:39
pub bounds-words-i : goal.bounds-words-i
bounds-words-i c = let i = seen_inside _ _ c.args.t c.args.words.now _ _ _ _ c.requires.placed c.requires.shadowed c.seen-e.ensures (eq-eqb (c.seen-e.result / 2 ^ 11 % 2) 1 (omega (arith, c.if-e-ne2.false))) in
    omega (arith, i, c.wide-2.ensures, c.wide.ensures)

-- src/lib.rt:178:16
pub place-requires : goal.place-requires
place-requires c = record { storing = c.requires.storing; aligned = fits_left _ _ _ c.fits.ensures (ap not c.if-not-fits.false) }

-- src/lib.rt:178:5
pub bounds-words-i-2 : goal.bounds-words-i-2
bounds-words-i-2 c = let i = seen_inside _ _ c.args.t c.args.words.now _ _ _ _ c.requires.placed c.requires.shadowed c.seen-e.ensures (eq-eqb (c.seen-e.result / 2 ^ 11 % 2) 1 (omega (arith, c.if-e-ne2.false))) in
    omega (arith, i, c.wide-2.ensures, c.wide.ensures)

-- src/lib.rt:148:1
pub returns : goal.returns
returns c = λ page rs. store_does _ _ c.args.p c.args.t page c.args.y rs c.args.words.now _ c.args.o c.args.x c.args.imm _ _ c.wrapping_add_u32-a.ensures.value (sym (fits_left c.args.o _ _ c.fits.ensures (ap not c.if-not-fits.false))) c.seen-e.ensures (eq-eqb (c.seen-e.result / 2 ^ 11 % 2) 1 (omega (arith, c.if-e-ne2.false))) c.args.v _ (c.wide.result * 1024 + c.wide-2.result) _ (ne_eqb (c.seen-e.result / 2 ^ 10 % 2) 1 (λ q. omega (arith, q, c.if-e-ne2.false))) (not_held _ _ _ _ _ c.requires.held_page c.if-frame-held.false) (simp (c.wide-2.ensures, c.wide.ensures)) (simp c.place.ensures) c.wrapping_add_u32.ensures.value
