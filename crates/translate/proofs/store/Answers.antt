use Rattle.translate.proofs.Served.{served_inside, update_mid, written_is}
use Rattle.addresses.proofs.Entries.{placed_listed}
use mathlib.Core.Path.{◌∙◌}
use Prim.Native.Nat.{◌+◌, ◌-◌, ◌*◌}
use lib.ListN.{length-take, length-drop}
use Rattle.dlx.specs.Fields.{placed}
use Rattle.addresses.specs.Memory.{host_writes, host_written}
use native.Mathlib.Omega.{arith}
use borrow.Author.Tests.{eq-eqb, ne_eqb}
use Rattle.translate.proofs.store.Goals as goal

pub returns-then-e-ne1 : goal.returns-then-e-ne1
unfolding host_writes host_written
returns-then-e-ne1 c = simp (← c.serve-e.ensures, ne_eqb _ _ c.if-e-ne1.true)

pub returns-then-e-eq1 : goal.returns-then-e-eq1
unfolding host_writes host_written
returns-then-e-eq1 c = simp (← c.serve-e.ensures, eq-eqb _ _ c.if-e-ne1.false, eq-eqb _ _ c.if-e-eq1.true)

pub slice_bounds-put-end : goal.slice_bounds-put-end
slice_bounds-put-end c = let i = served_inside _ _ _ _ _ _ c.requires.placed c.requires.shadowed c.serve-e.ensures (eq-eqb _ _ c.if-e-ne1.false) in
    omega (arith, c.wide-base.ensures)

pub put-requires : goal.put-requires
put-requires c = record { frame_room = omega arith; storing = c.requires.storing; aligned = c.requires.aligned }

pub empty_entry-requires : goal.empty_entry-requires
empty_entry-requires c = record { listed = placed_listed c.requires.placed; shadow_length = omega (arith, c.requires.shadowed.count); off_bound = omega arith }

pub returns : goal.returns
unfolding host_writes
returns c = let f = c.wide-base in
    let b = f.result * 1024 in
    let m = c.args.words.now in
    let i = served_inside _ _ _ _ _ _ c.requires.placed c.requires.shadowed c.serve-e.ensures (eq-eqb _ _ c.if-e-ne1.false) in
    simp (← c.serve-e.ensures)
    (written_is _ _ _ _ _ _ _ _ _ (placed c.args.o c.args.a c.args.v)
    (eq-eqb _ _ c.if-e-ne1.false)
    (ne_eqb _ _ c.if-e-eq1.false)
    (rw c.put.ensures
    (update_mid b (b + 1024 - b) c.wide.result m (placed c.args.o c.args.a c.args.v) (omega (arith, c.wide.ensures)) (simp (length-take, length-drop) (omega (arith, f.ensures, c.wide.ensures)))
    ∙ simp (f.ensures, c.wide.ensures)))
    c.empty_entry.ensures)
