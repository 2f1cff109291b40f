use Rattle.house.specs.Turns.{world}
use Rattle.audit.proofs.Texts.{text_refused, text_unaudited, text_audited, few}
use Rattle.audit.proofs.text_of.Goals as goal

pub returns-in-Err-clause-out_after : goal.returns-in-Err-clause-out_after
returns-in-Err-clause-out_after c given = let a = c.args in
    rw (c.in-Err.is, ← text_refused c.in-Err.refusal (world given a.memory.now)) c.text_of_refusal.ensures.value

pub lines-requires : goal.lines-requires
lines-requires c = few _ c.in-Ok-stale_counts.each c.in-Ok-stale_counts.ensures

pub returns-in-Ok-stale_counts-clause-out_after : goal.returns-in-Ok-stale_counts-clause-out_after
returns-in-Ok-stale_counts-clause-out_after c given =
    let d = c.in-Ok.done in
    rw (c.in-Ok.is, ← text_audited d.detail (world d.house c.args.memory.now) c.in-Ok-stale_counts.each c.in-Ok-stale_counts.ensures) c.lines.ensures.value

pub returns-in-Err-stale_counts-clause-out_after : goal.returns-in-Err-stale_counts-clause-out_after
returns-in-Err-stale_counts-clause-out_after c given =
    let d = c.in-Ok.done in
    let r = c.in-Err-stale_counts.refusal in
    rw (c.in-Ok.is, ← text_unaudited d.detail (world d.house c.args.memory.now) r c.in-Err-stale_counts.ensures) c.text_of_refusal-in-Err-stale_counts.ensures.value
