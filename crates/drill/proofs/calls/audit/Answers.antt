use Rattle.std.proofs.Common.{rules}
use Rattle.drill.proofs.Shown.{pair_is, audit_refused, audit_told}
use Rattle.drill.proofs.calls.audit.Goals as goal

pub returns-in-Ok : goal.returns-in-Ok
returns-in-Ok c =
    let a = c.args in
    let m = pair_is c.in-Ok.first c.map.result _ c.map.ensures.cases (λ s p k. search rules) in
    audit_told a.c a.h a.memory.now c.in-Ok.first c.in-Ok.ensures c.call-called.ensures (rw m at c.stale.ensures)

pub returns-in-Err : goal.returns-in-Err
returns-in-Err c = let a = c.args in audit_refused a.c a.h a.memory.now c.in-Err.refusal c.in-Err.ensures c.answer.ensures
