use Rattle.tickets.specs.Queues.{queues, desk}
use Rattle.unshadowed.proofs.Parts.{step_is, after_fetch, after_access}
use Rattle.unshadowed.proofs.step.Goals as goal

-- src/lib.rt:216:9
pub access-change-requires : goal.access-change-requires
access-change-requires c = record { regs_length = c.requires.regs_length; placed = c.requires.placed; seated = c.requires.seated; asks = after_fetch _ (desk c.args.count c.args.i) _ _ _ _ _ c.fetch-e.ensures }

-- src/lib.rt:230:9
pub pass-s-requires : goal.pass-s-requires
pass-s-requires c = let D = desk c.args.count c.args.i in let q = after_access _ D _ _ _ _ (queues c.args.tickets.now c.args.waiting.now) _ _ _ c.requires.regs_length (after_fetch _ D _ _ _ _ _ c.fetch-e.ensures) (c.access-change.ensures c.args.k) in record { regs_length = q.0; places = q.1 }

-- src/lib.rt:231:9
pub settle-d-requires : goal.settle-d-requires
settle-d-requires c = let D = desk c.args.count c.args.i in (after_access _ D _ _ _ _ (queues c.args.tickets.now c.args.waiting.now) _ _ _ c.requires.regs_length (after_fetch _ D _ _ _ _ _ c.fetch-e.ensures) (c.access-change.ensures c.args.k)).1

-- src/lib.rt:198:1
pub returns : goal.returns
returns c = step_is _ (desk c.args.count c.args.i) _ _ _ _ _ _ _ _ (queues c.args.tickets.now c.args.waiting.now) _ _ _ _ c.fetch-e.ensures (c.access-change.ensures c.args.k) (c.pass-s.ensures.passed _ _) (c.settle-d.ensures _ _) (c.retable-table.ensures _ _ _)
