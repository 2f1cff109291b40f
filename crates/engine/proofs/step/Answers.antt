use Rattle.tickets.specs.Queues.{queues, desk}
use Rattle.engine.proofs.Parts.{passed_is, after_fetch, after_access}
use Rattle.std.proofs.Common.{refl}
use Rattle.engine.proofs.step.Goals as goal

-- src/lib.rt:196:9
pub access-change-requires : goal.access-change-requires
access-change-requires c = let w = after_fetch _ _ _ c.args.count c.args.i _ _ _ _ _ (record { long = refl; shadowed = c.requires.shadowed }) c.fetch-e.ensures in record { regs_length = c.requires.regs_length; placed = c.requires.placed; shadowed = w.0.shadowed; seated = c.requires.seated; asks = w.1 }

-- src/lib.rt:211:9
pub pass-s-requires : goal.pass-s-requires
pass-s-requires c = let q = after_access _ _ _ c.args.count c.args.i _ _ _ _ _ _ _ _ c.requires.regs_length (after_fetch _ _ _ c.args.count c.args.i _ _ _ _ _ (record { long = refl; shadowed = c.requires.shadowed }) c.fetch-e.ensures) (c.access-change.ensures c.args.k) in record { regs_length = q.0; places = q.1 }

-- src/lib.rt:177:1
pub returns : goal.returns
returns c = record { stepped = passed_is _ (desk c.args.count c.args.i) _ _ _ _ _ _ _ (queues c.args.tickets.now c.args.waiting.now) _ _ _ c.fetch-e.ensures (c.access-change.ensures c.args.k) (c.pass-s.ensures.passed _ _); plain = c.pass-s.ensures.plain }
