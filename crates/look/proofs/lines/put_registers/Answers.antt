use Rattle.std.proofs.Common.{◌≡◌, ℕ, ◌+◌, ◌-◌, ◌*◌, ◌<◌, ◌≤◌, List, get_or, take, drop, length, length-take, length-drop, get_or-take, get_or-drop, arith}
use Rattle.decimal.proofs.Texts.{parts_begin, parts_on, parts_end}
use Rattle.look.specs.Look.{register_of, registers_from}
use Rattle.look.proofs.lines.put_registers.Goals as goal

-- the 32 registers from this one on
part_at : (regs : List ℕ) (from j : ℕ) → j < from + 32 - from → get_or (take (from + 32 - from) (drop from regs)) j 0 ≡ get_or regs (from + j) 0
part_at regs from j l = rw (get_or-take, get_or-drop)

part_length : (regs : List ℕ) (from : ℕ) → from + 32 ≤ length regs → length (take (from + 32 - from) (drop from regs)) ≡ 32
part_length regs from l = omega (arith, length-take (from + 32 - from) (drop from regs), length-drop from regs)

pub loop-j-init : goal.loop-j-init
loop-j-init c = parts_begin _ 46

pub loop-j-preserved : goal.loop-j-preserved
loop-j-preserved c =
    let a = c.args in
    let e = part_at a.regs.now (a.i * 32) c.loop-j.j (omega (arith, c.loop-j-test.true, part_length a.regs.now (a.i * 32) (omega (arith, c.requires)))) in
    parts_on (λ (k : ℕ). register_of k (get_or a.regs.now (a.i * 32 + k) 0)) 46 c.loop-j.j c.loop-j.invariant (rw e at c.put_register-end.ensures)

pub returns : goal.returns
unfolding registers_from
returns c =
    let a = c.args in
    let l = part_length a.regs.now (a.i * 32) (omega (arith, c.requires)) in
    parts_end _ 46 c.loop-j.j 32 (omega (arith, c.loop-j.auto.j-end)) (omega (arith, c.loop-j-test.false)) c.loop-j.invariant
