use Rattle.tickets.specs.Queues.{queues, desk}
use Rattle.engine.proofs.Parts.{step_is, after_passed}
use Rattle.std.proofs.Common.{refl, arith, rules}
use Rattle.engine.proofs.general.Goals as goal

pub step-s-requires : goal.step-s-requires
step-s-requires c = record { regs_length = c.requires.regs_length; placed = c.requires.placed; shadowed = c.requires.shadowed; seated = c.requires.seated }

pub settle-e-requires : goal.settle-e-requires
settle-e-requires c = (after_passed _ _ _ c.args.count c.args.i _ _ _ _ (queues c.args.tickets.now c.args.waiting.now) _ _ (record { long = refl; shadowed = c.requires.shadowed }) c.step-s.ensures.stepped).1

pub retable-table-requires : goal.retable-table-requires
retable-table-requires c = omega (arith, c.requires.shadowed.count)

pub shape_of-regs : goal.shape_of-regs
shape_of-regs c = search (rules, c.regs-1)

pub returns : goal.returns
returns c = step_is _ (desk c.args.count c.args.i) _ _ _ _ _ (queues c.args.tickets.now c.args.waiting.now) _ _ _ c.step-s.ensures.stepped (c.settle-e.ensures _ _) (c.retable-table.ensures _ _ _)
