use Rattle.unshadowed.proofs.Parts.{sought_inside, written_is}
use Rattle.translate.proofs.Served.{update_mid}
use Rattle.unshadowed.specs.Memory.{sought_written}
use Rattle.dlx.specs.Fields.{placed}
use Rattle.std.proofs.Common.{◌+◌, ◌-◌, ◌*◌, ◌∙◌, arith, length-drop, length-take, eq-eqb, ne_eqb}
use Rattle.unshadowed.proofs.store.Goals as goal

-- src/lib.rt:79:9
pub returns-then-e-ne1 : goal.returns-then-e-ne1
unfolding sought_written
returns-then-e-ne1 c = simp (← c.seek-e.ensures, ne_eqb _ _ c.if-e-ne1.true)

-- src/lib.rt:82:9
pub returns-then-e-eq1 : goal.returns-then-e-eq1
unfolding sought_written
returns-then-e-eq1 c = simp (← c.seek-e.ensures, eq-eqb _ _ c.if-e-ne1.false, eq-eqb _ _ c.if-e-eq1.true)

-- src/lib.rt:87:17
pub slice_bounds-put-end : goal.slice_bounds-put-end
slice_bounds-put-end c = let i = sought_inside _ _ _ _ _ c.requires.placed c.seek-e.ensures (eq-eqb _ _ c.if-e-ne1.false) in
    omega (arith, c.wide-base.ensures)

-- src/lib.rt:87:5
pub put-requires : goal.put-requires
put-requires c = record { frame_room = omega arith; storing = c.requires.storing; aligned = c.requires.aligned }

-- src/lib.rt:64:1
pub returns : goal.returns
returns c = let f = c.wide-base in
    let b = f.result * 1024 in
    let m = c.args.words.now in
    let i = sought_inside _ _ _ _ _ c.requires.placed c.seek-e.ensures (eq-eqb _ _ c.if-e-ne1.false) in
    simp (← c.seek-e.ensures)
    (written_is _ _ _ _ _ (placed c.args.o c.args.a c.args.v)
    (eq-eqb _ _ c.if-e-ne1.false)
    (ne_eqb _ _ c.if-e-eq1.false)
    (rw c.put.ensures
    (update_mid b (b + 1024 - b) c.wide.result m (placed c.args.o c.args.a c.args.v) (omega (arith, c.wide.ensures)) (simp (length-take, length-drop) (omega (arith, f.ensures, c.wide.ensures)))
    ∙ simp (f.ensures, c.wide.ensures))))
